-- WHAT JOINING GIVES, by the tests that the code makes of the two operands: d is the constant that decides, and the other one, 4096 less d,
-- leaves the other operand.
use Prim.Native.Nat.{ℕ, ◌+◌, ◌-◌, ◌*◌, ◌≤◌}
use native.Mathlib.Omega.{arith}
use native.Mathlib.Decide.{ℕ_discrete}
use mathlib.Core.Path.{◌≡◌, refl, ap}
use mathlib.Core.Logic.{◌⊎◌, inl, inr}
use mathlib.Core.List.{List}
use borrow.Author.Tests.{eq-eqb, ne_eqb}
use Rattle.reply.specs.declared.Op.{Op}
use Rattle.reply.specs.declared.Op.TheVariants.{And, Or, Not}
use Rattle.reply.specs.contracts.Op.{the_type}
use denote.Enum.Declared.{tag_of}
use Rattle.formula.specs.inner.Memory.{op_number}
use Rattle.formula.specs.inner.Flat.{got, add_f, join_f}

-- the number that an operation is cast to
pub tag_is : (op : Op) → tag_of the_type op ≡ op_number op
tag_is And = refl
tag_is Or = refl
tag_is Not = refl

module _ (size op a b : ℕ) (m : List ℕ) (n d : ℕ) (small : op ≤ 1) (is : d ≡ op * 4096) where
  pub takes_left : (a ≡ d) ⊎ ((a ≡ d → ⊥) × (b + d ≡ 4096)) → got m n a ≡ join_f size op a b m n
  unfolding join_f
  takes_left (inl e) = simp (eq-eqb a (op * 4096) (omega arith))
  takes_left (inr (u, e)) = go (ℕ_discrete a (4096 - op * 4096))
    where
      go : Dec (a ≡ 4096 - op * 4096) → got m n a ≡ join_f size op a b m n
      go (yes y) = let same : a ≡ b = omega arith in simp (ne_eqb a (op * 4096) (λ z. u (omega arith)), eq-eqb _ _ y) (ap (got m n) same)
      go (no y) = simp (ne_eqb a (op * 4096) (λ z. u (omega arith)), ne_eqb _ _ y, ne_eqb b (op * 4096) (λ z. omega arith), eq-eqb b (4096 - op * 4096) (omega arith))

  pub takes_right : (a + d ≡ 4096) ⊎ (b ≡ d) → got m n b ≡ join_f size op a b m n
  unfolding join_f
  takes_right (inl e) = simp (ne_eqb a (op * 4096) (λ z. omega arith), eq-eqb a (4096 - op * 4096) (omega arith))
  takes_right (inr e) = go (ℕ_discrete a (op * 4096)) (ℕ_discrete a (4096 - op * 4096))
    where
      go : Dec (a ≡ op * 4096) → Dec (a ≡ 4096 - op * 4096) → got m n b ≡ join_f size op a b m n
      go (yes x) y = let same : b ≡ a = omega arith in simp (eq-eqb _ _ x) (ap (got m n) same)
      go (no x) (yes y) = simp (ne_eqb a (op * 4096) x, eq-eqb _ _ y)
      go (no x) (no y) = simp (ne_eqb a (op * 4096) x, ne_eqb _ _ y, eq-eqb b (op * 4096) (omega arith))

  pub takes_step : (a ≡ d → ⊥) → (a + d ≡ 4096 → ⊥) → (b ≡ d → ⊥) → (b + d ≡ 4096 → ⊥) → add_f size op a b m n ≡ join_f size op a b m n
  unfolding join_f
  takes_step x y z w = simp (
    ne_eqb a (op * 4096) (λ e. x (omega arith)),
    ne_eqb a (4096 - op * 4096) (λ e. y (omega arith)),
    ne_eqb b (op * 4096) (λ e. z (omega arith)),
    ne_eqb b (4096 - op * 4096) (λ e. w (omega arith)),
  )
