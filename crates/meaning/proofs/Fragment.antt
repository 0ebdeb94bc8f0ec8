-- One fragment as a tree of its rows.
use Prim.Native.Nat.{ℕ, zero, suc, ◌-◌, ◌≤◌, ◌<◌}
use native.Mathlib.Omega.{arith}
use mathlib.Core.Path.{◌≡◌, refl, sym, ap, ◌∙◌}
use mathlib.Core.Bool.{Bool, false}
use mathlib.Core.Logic.{⊎_elim}
use lib.Dec.{eqb}
use Rattle.meaning.specs.Fragment.{Fragment, num, row_count, StandIn, RowRule, Sound, Rows, rows_of, ChildRow, alone}
use Rattle.meaning.proofs.Tree.{Finite}
use Rattle.std.proofs.lemmas.Bool.{eq-eqb, eqb-true}
use Rattle.meaning.proofs.Placed.{Placed}
use Rattle.meaning.proofs.Gather.{gather, gather_some, gather_has, gathered, Gathered}

-- row 0 is real, and parents come first
pub record Upright (R : Rows) : Type 0 where
  pub real : R.stands 0 ≡ false
  pub parents : (k : ℕ) → 0 < k → k ≤ R.last → R.parent k < k

-- a row of kind 1 keeps the rule of stand-ins
pub stand_in : (number : ℕ) (F : Fragment) (k : ℕ) → RowRule number F k → num F k 1 ≡ 1 → StandIn number F k
unfolding RowRule
stand_in number F zero r e = absurd (omega (arith, r.1.kind))
stand_in number F (suc k) r e = ⊎_elim (λ x. absurd (omega (arith, x.kind))) (λ x. x) r.2

module _ (number : ℕ) (F : Fragment) (s : Sound number F) where
  pub row_inside : (k : ℕ) → k ≤ (rows_of F).last → k < row_count F
  row_inside k h = omega (arith, s.some_row)

  pub sound_upright : Upright (rows_of F)
  unfolding RowRule
  sound_upright = record { real = top_real (s.each 0 s.some_row); parents = λ k a b. below k a (s.each k (row_inside k b)) }
    where
      top_real : RowRule number F 0 → (rows_of F).stands 0 ≡ false
      top_real r = ap (λ k. eqb k 1) r.1.kind

      below : (k : ℕ) → 0 < k → RowRule number F k → (rows_of F).parent k < k
      below zero a r = absurd (omega arith)
      below (suc k) a r = r.0

-- THE TREE OF ITS ROWS
module _ (R : Rows) (up : Upright R) where
  kid_test : ℕ → ℕ → Bool
  kid_test u c = eqb (R.parent c) u

  pub alone_finite : Finite (alone R)
  unfolding kid_test
  alone_finite = record {
    kids = λ u. gather (kid_test u) (λ c. c) R.last 1;
    rank = λ k. suc R.last - k;
    listed = λ u v h. gather_has (kid_test u) (λ c. c) v R.last 1 h.lower (omega (arith, h.inside)) (ap (λ p. eqb p u) h.under ∙ eq-eqb u u refl);
    child = λ u v i. kid u v (gathered (kid_test u) (λ c. c) v R.last 1 i);
    falls = λ u v i. falls u v (kid u v (gathered (kid_test u) (λ c. c) v R.last 1 i));
  }
    where
      kid : (u v : ℕ) → Gathered (kid_test u) (λ c. c) R.last 1 v → ChildRow R u v
      kid u v g = record { lower = omega (arith, g.low, g.is); inside = omega (arith, g.high, g.is); under = ap R.parent (sym g.is) ∙ eqb-true (R.parent g.row) u g.passes }

      falls : (u v : ℕ) → ChildRow R u v → suc R.last - v < suc R.last - u
      falls u v c = omega (arith, c.inside, c.under, up.parents v c.lower c.inside)

  pub alone_placed : Placed alone_finite R (λ k. k)
  unfolding alone_finite kid_test
  alone_placed = record {
    real = up.real;
    parents = up.parents;
    label_agrees = λ k a e w. refl;
    text_agrees = λ k a e w. refl;
    kids_are = λ k a e p. gather_some (kid_test k) (λ c. c) p R.last 1;
  }
