-- The register to try is cut by its layout, and no depot refuses a question about it.
use Prim.Native.Nat.{ℕ, zero, suc, ◌+◌, ◌-◌, ◌≤◌, ◌<◌}
use native.Mathlib.Omega.{arith}
use mathlib.Core.Path.{◌≡◌, refl, sym, ◌∙◌, subst}
use mathlib.Core.Bool.{Bool, true, false, true≢false, false≢true}
use mathlib.Core.Logic.{inl, inr, ◌≢◌}
use lib.ListN.{length}
use lib.Dec.{ltb, lit<, lit≤}
use Rattle.meaning.specs.Says.{Says, aye, nay}
use Rattle.meaning.specs.Tree.{Below}
use Rattle.meaning.specs.Bound.{Open}
use Rattle.meaning.specs.Fragment.{Fragment, Sound, RowRule, RealRow, StandIn, num, row_count, rows_of, alone, NoStandIn}
use Rattle.meaning.specs.Register.{rows_in, parent_of, StandsFor, Cut}
use Rattle.register.specs.Trial.{fragment, register}

-- a real row whose numbers pass
real : (F : Fragment) (k : ℕ) → num F k 1 ≡ 0 → 1 ≤ num F k 3 → num F k 3 ≤ 64 → num F k 2 + num F k 3 ≤ length F.pool → num F k 5 ≤ 255 → num F k 4 + num F k 5 ≤ length F.pool → RealRow F k
real F k a b c d e f = record { kind = a; label_some = b; label_most = c; label_inside = d; text_most = e; text_inside = f }

stand_in_rule : (n : ℕ) (k : ℕ) → num (fragment 0) k 1 ≡ 1 → n < num (fragment 0) k 2 → num (fragment 0) k 2 ≤ 31 → (num (fragment 0) k 3 ≡ 0) × (num (fragment 0) k 4 ≡ 0) × (num (fragment 0) k 5 ≡ 0)
    → ((j : ℕ) → j < k → num (fragment 0) j 1 ≡ 1 → num (fragment 0) j 2 ≢ num (fragment 0) k 2) → StandIn n (fragment 0) k
stand_in_rule n k a b c d e = record { kind = a; above = b; most = c; zeros = d; new = e }

one_is_zero : {X : Type 0} → ◌≡◌ {A = ℕ} 0 1 → X
one_is_zero e = absurd (omega (arith, e))

new_2 : (j : ℕ) → j < 2 → num (fragment 0) j 1 ≡ 1 → num (fragment 0) j 2 ≢ 1
new_2 zero h e = one_is_zero e
new_2 (suc zero) h e = one_is_zero e
new_2 (suc (suc j)) h e = absurd (omega arith)

new_3 : (j : ℕ) → j < 3 → num (fragment 0) j 1 ≡ 1 → num (fragment 0) j 2 ≢ 2
new_3 zero h e = one_is_zero e
new_3 (suc zero) h e = one_is_zero e
new_3 (suc (suc zero)) h e = λ w. let z : ◌≡◌ {A = ℕ} 1 2 = w in omega (arith, z)
new_3 (suc (suc (suc j))) h e = absurd (omega arith)

sound_0 : Sound 0 (fragment 0)
unfolding RowRule
sound_0 = record { number_most = lit≤ tt; sixes = refl; some_row = lit≤ tt; rows_most = lit≤ tt; each = each }
  where
    each : (k : ℕ) → k < 4 → RowRule 0 (fragment 0) k
    each zero h = (refl, real (fragment 0) 0 refl (lit≤ tt) (lit≤ tt) (lit≤ tt) (lit≤ tt) (lit≤ tt))
    each (suc zero) h = (lit< tt, refl, inl (real (fragment 0) 1 refl (lit≤ tt) (lit≤ tt) (lit≤ tt) (lit≤ tt) (lit≤ tt)))
    each (suc (suc zero)) h = (lit< tt, refl, inr (stand_in_rule 0 2 refl (lit< tt) (lit≤ tt) (refl, refl, refl) new_2))
    each (suc (suc (suc zero))) h = (lit< tt, refl, inr (stand_in_rule 0 3 refl (lit< tt) (lit≤ tt) (refl, refl, refl) new_3))
    each (suc (suc (suc (suc k)))) h = absurd (omega arith)

-- of three real rows, whatever the number
sound_1 : (n : ℕ) → n ≤ 31 → Sound n (fragment 1)
unfolding RowRule
sound_1 n m = record { number_most = m; sixes = refl; some_row = lit≤ tt; rows_most = lit≤ tt; each = each }
  where
    each : (k : ℕ) → k < 3 → RowRule n (fragment 1) k
    each zero h = (refl, real (fragment 1) 0 refl (lit≤ tt) (lit≤ tt) (lit≤ tt) (lit≤ tt) (lit≤ tt))
    each (suc zero) h = (lit< tt, refl, inl (real (fragment 1) 1 refl (lit≤ tt) (lit≤ tt) (lit≤ tt) (lit≤ tt) (lit≤ tt)))
    each (suc (suc zero)) h = (lit< tt, refl, inl (real (fragment 1) 2 refl (lit≤ tt) (lit≤ tt) (lit≤ tt) (lit≤ tt) (lit≤ tt)))
    each (suc (suc (suc k))) h = absurd (omega arith)

sound_2 : Sound 2 (fragment 2)
unfolding RowRule
sound_2 = record { number_most = lit≤ tt; sixes = refl; some_row = lit≤ tt; rows_most = lit≤ tt; each = each }
  where
    each : (k : ℕ) → k < 3 → RowRule 2 (fragment 2) k
    each zero h = (refl, real (fragment 2) 0 refl (lit≤ tt) (lit≤ tt) (lit≤ tt) (lit≤ tt) (lit≤ tt))
    each (suc zero) h = (lit< tt, refl, inl (real (fragment 2) 1 refl (lit≤ tt) (lit≤ tt) (lit≤ tt) (lit≤ tt) (lit≤ tt)))
    each (suc (suc zero)) h = (lit< tt, refl, inl (real (fragment 2) 2 refl (lit≤ tt) (lit≤ tt) (lit≤ tt) (lit≤ tt) (lit≤ tt)))
    each (suc (suc (suc k))) h = absurd (omega arith)

pub none_1 : NoStandIn (fragment 1)
none_1 zero h = refl
none_1 (suc zero) h = refl
none_1 (suc (suc zero)) h = refl
none_1 (suc (suc (suc k))) h = absurd (omega (arith, three h))
  where
    three : {k : ℕ} → k < row_count (fragment 1) → k < 3
    three h = h

pub none_2 : NoStandIn (fragment 2)
none_2 zero h = refl
none_2 (suc zero) h = refl
none_2 (suc (suc zero)) h = refl
none_2 (suc (suc (suc k))) h = absurd (omega (arith, three h))
  where
    three : {k : ℕ} → k < row_count (fragment 2) → k < 3
    three h = h

pub one_box : Sound 0 (fragment 1) × NoStandIn (fragment 1)
one_box = (sound_1 0 (omega arith), none_1)

-- ---- cut
sounds : (f : ℕ) → f < 3 → Sound f (fragment f)
sounds zero h = sound_0
sounds (suc zero) h = sound_1 1 (omega arith)
sounds (suc (suc zero)) h = sound_2
sounds (suc (suc (suc f))) h = absurd (omega arith)

falling : (k : ℕ) → 0 < k → k < 3 → parent_of register.layout k < k
falling zero a b = absurd (omega arith)
falling (suc zero) a b = lit< tt
falling (suc (suc zero)) a b = lit< tt
falling (suc (suc (suc k))) a b = absurd (omega arith)

has : (g : ℕ) → 0 < g → g < 3 → (k : ℕ) × StandsFor register (parent_of register.layout g) k g
has zero a b = absurd (omega arith)
has (suc zero) a b = (2, record { inside = lit≤ tt; stands = refl; goes = refl })
has (suc (suc zero)) a b = (3, record { inside = lit≤ tt; stands = refl; goes = refl })
has (suc (suc (suc g))) a b = absurd (omega arith)

not_real : {X : Type 0} → false ≡ true → X
not_real e = absurd (false≢true e)

Placed : ℕ → ℕ → Type 0
Placed f g = (0 < g) × (g < 3) × (parent_of register.layout g ≡ f)

first_placed : (k g : ℕ) → k ≤ 3 → (rows_of (fragment 0)).stands k ≡ true → (rows_of (fragment 0)).goes k ≡ g → Placed 0 g
unfolding Placed
first_placed zero g h s e = not_real s
first_placed (suc zero) g h s e = not_real s
first_placed (suc (suc zero)) g h s e = subst (λ g. (0 < g) × (g < 3) × (parent_of register.layout g ≡ 0)) e (lit< tt, lit< tt, refl)
first_placed (suc (suc (suc zero))) g h s e = subst (λ g. (0 < g) × (g < 3) × (parent_of register.layout g ≡ 0)) e (lit< tt, lit< tt, refl)
first_placed (suc (suc (suc (suc k)))) g h s e = absurd (omega arith)

none_placed : {X : Type 0} (F : Fragment) → NoStandIn F → 1 ≤ row_count F → (k : ℕ) → k ≤ row_count F - 1 → (rows_of F).stands k ≡ true → X
none_placed F n o k h s = absurd (true≢false (sym s ∙ n k (omega arith)))

only : (f k g : ℕ) → f < 3 → StandsFor register f k g → Placed f g
unfolding Placed
only zero k g h s = first_placed k g s.inside s.stands s.goes
only (suc zero) k g h s = none_placed (fragment 1) none_1 (lit≤ tt) k s.inside s.stands
only (suc (suc zero)) k g h s = none_placed (fragment 2) none_2 (lit≤ tt) k s.inside s.stands
only (suc (suc (suc f))) k g h s = absurd (omega arith)

pub cut : Cut register
unfolding Placed
cut = record {
  layout = record { some_part = lit≤ tt; most = lit≤ tt; top = refl; falling = falling };
  sound = sounds;
  has = has;
  only = only;
}

-- ---- open rows: firm and site
abbrev pub is_open : ℕ → Bool
is_open k = ltb k 2

goes_down : (u v : ℕ) → 0 < v → v ≤ 3 → (rows_of (fragment 0)).parent v ≡ u → Below (alone (rows_of (fragment 0))) u v
goes_down u v a b c = Below.down (record { lower = a; inside = b; under = c }) Below.here

pub tells : (k : ℕ) → k < 4 → Says (Open (rows_in register 0) k) (is_open k)
tells zero h = aye (refl, (2, goes_down 0 2 (lit< tt) (lit≤ tt) refl, refl))
tells (suc zero) h = aye (refl, (3, goes_down 1 3 (lit< tt) (lit≤ tt) refl, refl))
tells (suc (suc zero)) h = nay (λ o. true≢false o.0)
tells (suc (suc (suc zero))) h = nay (λ o. true≢false o.0)
tells (suc (suc (suc (suc k)))) h = absurd (omega arith)
