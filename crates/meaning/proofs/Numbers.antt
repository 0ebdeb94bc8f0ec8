-- Laws of the tests on numbers, and of a function changed at one number.
use Prim.Native.Nat.{ℕ, ◌≤◌, ◌<◌}
use native.Mathlib.Omega.{arith}
use mathlib.Core.Path.{◌≡◌, refl, ap}
use mathlib.Core.Bool.{cond}
use mathlib.Core.Logic.{◌≢◌}
use lib.Dec.{leb, eqb, ltb}
use Rattle.std.proofs.lemmas.Bool.{eq-eqb, ne_eqb}
use borrow.Author.Tests.{eqb-true as eqb_yes, eqb-false as eqb_no, ltb-true as ltb_yes, ltb-false as ltb_no, leb-true as leb_yes, leb-false as leb_no}
use Rattle.meaning.specs.Says.{Says}
use Rattle.meaning.proofs.Says.{says_by}
use Rattle.meaning.specs.Run.{upd}

module _ {X : Type 0} where
  pub upd_same : (f : ℕ → X) (i : ℕ) (x : X) → upd f i x i ≡ x
  upd_same f i x = ap (λ b. cond b x (f i)) (eq-eqb i i refl)

  pub upd_other : (f : ℕ → X) (i : ℕ) (x : X) (j : ℕ) → j ≢ i → upd f i x j ≡ f j
  upd_other f i x j h = ap (λ b. cond b x (f j)) (ne_eqb j i h)

pub says_eqb : (a b : ℕ) → Says (a ≡ b) (eqb a b)
says_eqb a b = says_by (eqb a b) (eqb_yes a b) (eqb_no a b)

pub says_ltb : (a b : ℕ) → Says (a < b) (ltb a b)
says_ltb a b = says_by (ltb a b) (ltb_yes a b) (λ e h. omega (arith, ltb_no a b e))

pub says_leb : (a b : ℕ) → Says (a ≤ b) (leb a b)
says_leb a b = says_by (leb a b) (leb_yes a b) (λ e h. omega (arith, leb_no a b e))
