-- `whole::Received::only_children` meets its contract.
use Rattle.std.proofs.Common.{◌≡◌, ◌<◌, ℕ, subst, arith, rules}
use mathlib.Core.Bool.{Bool}
use Rattle.meaning.specs.Bytes.{Bytes}
use Rattle.meaning.specs.Says.{Says}
use Rattle.meaning.proofs.Says.{says_at}
use Rattle.meaning.proofs.Ranges.{says_below}
use Rattle.whole.specs.inner.Steps.{ChildOf}
use Rattle.whole.proofs.Received.only_children.Goals as goal

child_says : {l : Bytes} {x g f : ℕ} {b c : Bool} → g ≡ x → b ≡ c → Says (ChildOf l f g) c → Says (ChildOf l f x) b
child_says e u k = says_at u (rw e at k)

as_many : {n m : ℕ} {P : ℕ → Type 0} {b : Bool} → Says ((i : ℕ) → i < n → P i) b → n ≡ m → Says ((i : ℕ) → i < m → P i) b
as_many {m} {P} {b} s e = subst (λ n. Says ((i : ℕ) → i < n → P i) b) e s

pub returns : goal.returns
returns c = as_many (says_below _ c.all.ensures.ran (λ x b q k. (search rules, search (rules, child_says)))) (omega arith)
