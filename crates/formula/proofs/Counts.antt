-- Stand-ins counted: a position is a count of the rows before.
use Prim.Native.Nat.{ℕ, zero, suc, ◌+◌, ◌-◌, ◌*◌, ◌/◌, ◌<◌, ◌≤◌}
use native.Mathlib.Omega.{arith}
use native.Mathlib.Nat.{mul-le-mul_right}
use mathlib.Core.Path.{◌≡◌, refl, sym, ap, ◌∙◌}
use mathlib.Core.Bool.{Bool, true, false, cond}
use mathlib.Core.List.{List}
use lib.ListN.{length, get_or}
use mir.Val.{bool_byte}
use Rattle.meaning.specs.Says.{Says}
use Rattle.meaning.proofs.Says.{says_same}
use Rattle.meaning.proofs.Numbers.{says_eqb}
use Rattle.meaning.specs.Bound.{count}
use Rattle.meaning.proofs.StepBound.{count_stand_ins}
use Rattle.meaning.specs.Bytes.{Bytes}
use Rattle.meaning.specs.Fragment.{Fragment, Sound, row_count, rows_of}
use Rattle.question.specs.declared.List as L
use Rattle.question.specs.Listed.{Keeps}
use Rattle.writing.specs.inner.Codes.{bare, row_ins}
use Rattle.formula.specs.inner.Flat.{stands}

-- a stand-in at row k, as a number
pub one_is : (rows : List ℕ) (k : ℕ) {b : Bool} {r : ℕ} → Says (get_or rows (k * 6 + 1) 0 ≡ 1) b → r ≡ bool_byte b → r ≡ cond (stands rows k) 1 0
one_is rows k {b} s e = e ∙ go b ∙ ap (λ q. cond q 1 0) (says_same s (says_eqb (get_or rows (k * 6 + 1) 0) 1))
  where
    go : (b : Bool) → bool_byte b ≡ cond b 1 0
    go true = refl
    go false = refl

pub count_less : (p : ℕ → Bool) (k : ℕ) {n r : ℕ} → 0 < k → n ≡ count p k → r ≡ cond (p (k - 1)) 1 0 → n ≡ count p (k - 1) + r
unfolding count
count_less p k h e q = e ∙ ap (count p) last ∙ ap (λ x. count p (k - 1) + x) (sym q)
  where
    last : k ≡ suc (k - 1)
    last = omega arith

pub place_less : (p : ℕ → Bool) (k : ℕ) {n r : ℕ} → 0 < k → n ≡ count p k → r ≡ cond (p (k - 1)) 1 0 → n - r ≡ count p (k - 1)
place_less p k h e q = omega (arith, count_less p k h e q)

pub count_most : (p : ℕ → Bool) (k : ℕ) → count p k ≤ k
unfolding count
count_most p zero = omega arith
count_most p (suc k) = go (p k) (count_most p k)
  where
    go : (b : Bool) → count p k ≤ k → count p k + cond b 1 0 ≤ suc k
    go true h = omega arith
    go false h = omega arith

-- the stand-ins that crate reply counts
pub ins_count : (rows : List ℕ) → length (row_ins rows) ≡ count (stands rows) (length rows / 6)
unfolding row_ins
ins_count rows = sym (count_stand_ins (rows_of (bare rows)) (length rows / 6))

-- at most 512 rows of at most 32 entries
pub cells_few : (part : ℕ) (F : Fragment) (l : L.List) (t : Bytes) → Sound part F → Keeps l t → row_count F * l.count ≤ 16384
cells_few part F l t s k = omega (arith, mul-le-mul_right l.count s.rows_most, k.most)
