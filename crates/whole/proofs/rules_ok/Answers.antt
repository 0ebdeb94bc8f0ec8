-- `whole::rules_ok` meets its contract.
use Rattle.std.proofs.Common.{refl, arith, ℕ, ◌≤◌}
use mathlib.Core.Bool.{Bool}
use Rattle.meaning.specs.Bytes.{Bytes}
use Rattle.meaning.specs.Says.{Says}
use Rattle.meaning.specs.Register.{Layout}
use Rattle.meaning.proofs.Says.{says_iff, says_then, says_else}
use Rattle.meaning.proofs.Ranges.{says_within}
use Rattle.whole.specs.Whole.{OpenRules}
use Rattle.whole.proofs.rules_ok.Goals as goal

says_rules : {layout : Bytes} {n : ℕ} {b : Bool} {P : Type 0} → (P → (1 ≤ n) × (n ≤ 32)) → ((1 ≤ n) × (n ≤ 32) → P) → Says (P × Layout layout) b → Says (OpenRules layout n) b
says_rules f g s = says_iff (λ t. let e = f t.0 in record { layout_keeps = t.1; some_entry = e.0; few_entries = e.1 }) (λ r. (g (r.some_entry, r.few_entries), r.layout_keeps)) s

pub returns-then-contains : goal.returns-then-contains
returns-then-contains c =
    says_rules (λ p. (omega (arith, p), omega (arith, p))) (λ p. (omega (arith, p), omega (arith, p)))
    (says_then (says_within _ _ c.new.ensures.start c.new.ensures.end c.new.ensures.exhausted c.contains.ensures.value) c.if-contains.true c.layout_ok.ensures refl)

pub returns-else-contains : goal.returns-else-contains
returns-else-contains c =
    says_rules (λ p. (omega (arith, p), omega (arith, p))) (λ p. (omega (arith, p), omega (arith, p)))
    (says_else (says_within _ _ c.new.ensures.start c.new.ensures.end c.new.ensures.exhausted c.contains.ensures.value) c.if-contains.false refl)
