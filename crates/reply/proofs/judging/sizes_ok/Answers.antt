-- `reply::judging::sizes_ok` meets its contract.
use Prim.Native.Nat.{ℕ}
use mathlib.Core.Path.{◌≡◌}
use native.Mathlib.Omega.{arith}
use Rattle.std.specs.Int.{div_ceil}
use Rattle.bits.specs.Bits.{bytes_for}
use mathlib.Core.Logic.{⊎_elim}
use Rattle.meaning.specs.Says.{nay}
use Rattle.meaning.proofs.Says.{says_iff}
use Rattle.reply.proofs.judging.sizes_ok.Goals as goal
use Rattle.meaning.proofs.Numbers.{says_eqb}

pub returns-then-h-eq0 : goal.returns-then-h-eq0
returns-then-h-eq0 c = nay (λ q. ⊎_elim (λ e. omega (arith, e, q.asked)) (λ e. omega (arith, e.1, q.few)) c.then-h-eq0.either)

there : {d e n s : ℕ} → d ≡ div_ceil e 8 → e ≡ n → d ≡ s → bytes_for n ≡ s
there p q r = omega (arith, p, q, r)

pub returns : goal.returns
returns c =
    says_iff (λ e. record { asked = omega (arith, c.if-h-eq0.false); few = c.if-h-gt-MOST_STEPS.false; whole = there c.div_ceil.ensures c.end.ensures e }) (λ q. omega (arith, c.div_ceil.ensures, c.end.ensures, q.whole)) (says_eqb _ _)
