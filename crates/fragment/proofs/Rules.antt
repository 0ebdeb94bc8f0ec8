-- A row's rule, for row 0 and for the others, where p is the parent as the code reads it.
use Prim.Native.Nat.{ℕ, zero, suc, ◌+◌, ◌*◌, ◌-◌, ◌≤◌, ◌<◌}
use native.Mathlib.Omega.{arith}
use native.Mathlib.Nat.{add-zero, mul-le-mul_right}
use Rattle.std.proofs.Math.Seq.{drop-cons}
use Rattle.std.proofs.lemmas.Bool.{le-ltb}
use mathlib.Core.Path.{◌≡◌, refl, sym, ap, subst}
use mathlib.Core.Bool.{Bool, true, false}
use mathlib.Core.List.{List, [], ◌∷◌}
use mathlib.Core.Logic.{inl, inr, ⊎_elim}
use lib.ListN.{get_or, length, take, drop}
use lib.Pointwise.{pointwise}
use lib.Dec.{eqb, ltb}
use Rattle.meaning.specs.Says.{Says, nay}
use Rattle.meaning.specs.Fragment.{Fragment, num, row_count, RealRow, StandIn, RowRule, Sound}
use Rattle.meaning.proofs.Says.{says_iff, says_and, says_self}
use Rattle.meaning.proofs.Numbers.{says_eqb}
use Rattle.fragment.specs.inner.Parts.{WordRule, ParentRule}

-- row k of r rows of w numbers lies within them
pub block : (w : ℕ) {k r : ℕ} → k < r → k * w + w ≤ r * w
block w h = omega (arith, mul-le-mul_right w h)

module _ (F : Fragment) where
  parent_is : (k : ℕ) → get_or F.rows (k * 6) 0 ≡ num F k 0
  parent_is k = ap (λ i. get_or F.rows i 0) (sym (add-zero (k * 6)))

  -- the parent, as the code tests it
  pub first_parent : (k : ℕ) → k ≡ 0 → Says (ParentRule F k) (eqb (get_or F.rows (k * 6) 0) 4_294_967_295)
  first_parent zero e = subst (λ p. Says (p ≡ 4_294_967_295) (eqb (get_or F.rows 0 0) 4_294_967_295)) (parent_is 0) (says_eqb _ _)
  first_parent (suc k) e = absurd (omega arith)

  -- n is k, as the code writes it
  pub late_parent : (k n : ℕ) → (k ≡ 0 → ⊥) → n ≤ get_or F.rows (k * 6) 0 → k ≤ get_or F.rows (k * 6) 0 → Says (ParentRule F k) (ltb (get_or F.rows (k * 6) 0) n)
  late_parent zero n z g h = absurd (z refl)
  late_parent (suc k) n z g h = rw (le-ltb _ _ g) (nay (λ w. omega (arith, parent_is (suc k), w.0)))

  pub real_parent : (k : ℕ) → (k ≡ 0 → ⊥) → get_or F.rows (k * 6) 0 < k → {b : Bool} → Says (get_or F.rows (get_or F.rows (k * 6) 0 * 6 + 1) 0 ≡ 0) b → Says (ParentRule F k) b
  real_parent zero n h s = absurd (n refl)
  real_parent (suc k) n h s = says_iff (λ e. (subst (λ q. q < suc k) (parent_is (suc k)) h, subst (λ q. num F q 1 ≡ 0) (parent_is (suc k)) e)) (λ w. subst (λ q. num F q 1 ≡ 0) (sym (parent_is (suc k))) w.1) s

-- three numbers that are 0
three : (rows : List ℕ) (at n : ℕ) → at + 3 ≤ length rows → n ≡ 3 → take n (drop at rows) ≡ get_or rows at 0 ∷ get_or rows (at + 1) 0 ∷ get_or rows (at + 2) 0 ∷ []
three rows at n h e = let one : suc at ≡ at + 1 = omega arith in let two : suc (suc at) ≡ at + 2 = omega arith in
    rw (e, drop-cons rows at 0 (omega arith), drop-cons rows (suc at) 0 (omega arith), drop-cons rows (suc (suc at)) 0 (omega arith)) (cc)

pub says_zeros : (rows : List ℕ) (k : ℕ) → k * 6 + 6 ≤ length rows → {b : Bool} → b ≡ pointwise eqb (take (k * 6 + 6 - (k * 6 + 3)) (drop (k * 6 + 3) rows)) (0 ∷ 0 ∷ 0 ∷ [])
    → Says ((get_or rows (k * 6 + 3) 0 ≡ 0) × (get_or rows (k * 6 + 4) 0 ≡ 0) × (get_or rows (k * 6 + 5) 0 ≡ 0)) b
says_zeros rows k h e = let four : k * 6 + 3 + 1 ≡ k * 6 + 4 = omega arith in let five : k * 6 + 3 + 2 ≡ k * 6 + 5 = omega arith in
    rw (e, three rows (k * 6 + 3) (k * 6 + 6 - (k * 6 + 3)) (omega arith) (omega arith), four, five)
    (says_iff (λ w. (w.0, w.1.0, w.1.1.0)) (λ r. (r.0, (r.1, (r.2, refl)))) (says_and (says_eqb _ _) (says_and (says_eqb _ _) (says_and (says_eqb _ _) (says_self true)))))

-- a word's test
pub says_word : {F : Fragment} {at least top : ℕ} {b : Bool} → Says (((least ≤ get_or F.rows (at + 1) 0) × (get_or F.rows (at + 1) 0 ≤ top)) × (get_or F.rows at 0 + get_or F.rows (at + 1) 0 ≤ length F.pool)) b
    → Says (WordRule F at least top) b
says_word s = says_iff (λ w. record { some = w.0.0; most = w.0.1; inside = w.1 }) (λ r. ((r.some, r.most), r.inside)) s

module _ (F : Fragment) (k : ℕ) where
  behind : (i j : ℕ) → k * 6 + i + 1 ≡ k * 6 + j → get_or F.rows (k * 6 + i + 1) 0 ≡ num F k j
  behind i j e = ap (λ n. get_or F.rows n 0) e

  pub says_real : num F k 1 ≡ 0 → {b : Bool} → Says (WordRule F (k * 6 + 2) 1 64 × WordRule F (k * 6 + 4) 0 255) b → Says (RealRow F k) b
  says_real z s = let label : get_or F.rows (k * 6 + 2 + 1) 0 ≡ num F k 3 = behind 2 3 (omega arith) in let text : get_or F.rows (k * 6 + 4 + 1) 0 ≡ num F k 5 = behind 4 5 (omega arith) in
      says_iff (λ w. record { kind = z; label_some = omega (arith, w.0.some); label_most = omega (arith, w.0.most); label_inside = omega (arith, w.0.inside); text_most = omega (arith, w.1.most); text_inside = omega (arith, w.1.inside) })
      (λ r. (record { some = omega (arith, r.label_some); most = omega (arith, r.label_most); inside = omega (arith, r.label_inside) }, record { some = omega arith; most = omega (arith, r.text_most); inside = omega (arith, r.text_inside) })) s

  module _ (number : ℕ) where
    pub says_stand : num F k 1 ≡ 1 → {b : Bool} → Says ((((number < num F k 2) × (num F k 2 ≤ 31)) × ((num F k 3 ≡ 0) × (num F k 4 ≡ 0) × (num F k 5 ≡ 0)))
        × ((j : ℕ) × (j < k) × ((num F j 1 ≡ 1) × (num F j 2 ≡ num F k 2)) → ⊥)) b → Says (StandIn number F k) b
    says_stand z s = says_iff (λ w. record { kind = z; above = w.0.0.0; most = w.0.0.1; zeros = w.0.1; new = λ j h e g. w.1 (j, h, (e, g)) })
        (λ r. (((r.above, r.most), r.zeros), λ w. r.new w.0 w.1 w.2.0 w.2.1)) s

-- a row's rule by its kind
module _ (number : ℕ) (F : Fragment) where
  pub real_row : (k : ℕ) → num F k 1 ≡ 0 → {b : Bool} → Says (ParentRule F k × RealRow F k) b → Says (RowRule number F k) b
  unfolding RowRule
  real_row zero z s = s
  real_row (suc k) z s = says_iff (λ w. (w.0.0, w.0.1, inl w.1)) (λ r. ((r.0, r.1), ⊎_elim (λ x. x) (λ x. absurd (omega (arith, x.kind))) r.2)) s

  pub stand_row : (k : ℕ) → num F k 1 ≡ 1 → {b : Bool} → Says (((k ≡ 0 → ⊥) × ParentRule F k) × StandIn number F k) b → Says (RowRule number F k) b
  unfolding RowRule
  stand_row zero z s = says_iff (λ w. absurd (w.0.0 refl)) (λ r. absurd (omega (arith, r.1.kind))) s
  stand_row (suc k) z s = says_iff (λ w. (w.0.1.0, w.0.1.1, inr w.1)) (λ r. ((λ e. omega arith, (r.0, r.1)), ⊎_elim (λ x. absurd (omega (arith, x.kind))) (λ x. x) r.2)) s

  pub no_row : (k : ℕ) → 1 < num F k 1 → Says (RowRule number F k) false
  unfolding RowRule
  no_row zero h = nay (λ r. omega (arith, r.1.kind))
  no_row (suc k) h = nay (λ r. ⊎_elim (λ x. omega (arith, x.kind)) (λ x. omega (arith, x.kind)) r.2)

  pub says_sound : {b : Bool} → Says ((((number ≤ 31) × (length F.rows ≡ row_count F * 6)) × ((1 ≤ row_count F) × (row_count F ≤ 512))) × ((k : ℕ) → k < row_count F → RowRule number F k)) b → Says (Sound number F) b
  says_sound s = says_iff (λ w. record { number_most = w.0.0.0; sixes = w.0.0.1; some_row = w.0.1.0; rows_most = w.0.1.1; each = w.1 })
      (λ r. (((r.number_most, r.sixes), (r.some_row, r.rows_most)), r.each)) s

-- WHAT A SOUND FRAGMENT GIVES: a row that is no stand-in is real, and a parent comes first
module _ (number : ℕ) (F : Fragment) (s : Sound number F) where
  pub sound_real : (k : ℕ) → k < row_count F → (num F k 1 ≡ 1 → ⊥) → RealRow F k
  unfolding RowRule
  sound_real zero h n = (s.each zero h).1
  sound_real (suc k) h n = ⊎_elim (λ r. r) (λ r. absurd (n r.kind)) (s.each (suc k) h).2

  pub sound_parent : (k : ℕ) → k < row_count F → (k ≡ 0 → ⊥) → get_or F.rows (k * 6) 0 < k
  unfolding RowRule
  sound_parent zero h n = absurd (n refl)
  sound_parent (suc k) h n = subst (λ q. q < suc k) (sym (parent_is F (suc k))) (s.each (suc k) h).0

  pub parent_block : (n k up : ℕ) → k < row_count F → (k ≡ 0 → ⊥) → up ≡ get_or F.rows (k * 6) 0 → up * n + n ≤ row_count F * n
  parent_block n k up h z e = block n (omega (arith, sound_parent k h z))
