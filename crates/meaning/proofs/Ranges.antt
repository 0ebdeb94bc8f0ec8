-- What `all` and `any` over a range of numbers answer, where each call of the closure says whether its number has P; and what `contains` does.
use Prim.Native.Nat.{ℕ, ◌<◌, ◌≤◌, ◌+◌, ◌-◌}
use native.Mathlib.Omega.{arith}
use mathlib.Core.Path.{◌≡◌, refl, sym, subst}
use mathlib.Core.Bool.{Bool, true, false}
use mathlib.Core.List.{List}
use lib.ListN.{length, get_or}
use denote.Param.Members.{Mut}
use Rattle.std.specs.declared.option.Option.{Option}
use Rattle.std.specs.declared.ops.Range.{Range}
use Rattle.std.specs.Fn.{Called}
use Rattle.std.specs.Iterator.{YieldsThen}
use Rattle.std.specs.List.{FoldsTo, range_with_len, AllWithin, HoldsAt}
use Rattle.std.specs.Option.{MatchOption}
use Rattle.std.specs.Bool.{MatchBool}
use Rattle.std.proofs.iter.Yields.{nat_range_steps}
use Rattle.std.proofs.lemmas.Iterator.{YieldsList-from_range, cases_from_all, cases_from_any}
use Rattle.std.proofs.lemmas.List.FromFn.{get_or-range_with_len, length-range_with_len}
use Rattle.std.specs.Prelude.{Some}
use Rattle.std.specs.Ordering.{MatchOrdering, nat_cmp, is_le}
use Rattle.std.specs.declared.cmp.Ordering.{Ordering}
use Rattle.std.specs.declared.cmp.Ordering.TheVariants.{Less, Equal, Greater}
use Rattle.std.specs.declared.ops.RangeInclusive.{RangeInclusive}
use Rattle.std.specs.Range.{range_inclusive_start, range_inclusive_end, range_inclusive_exhausted, range_inclusive_contains}
use Rattle.std.proofs.lemmas.Cmp.{ranked}
use Rattle.meaning.specs.Says.{Says, aye, nay}
use Rattle.meaning.proofs.Says.{says_true, says_false, says_and, says_iff}

-- the numbers of a range
abbrev numbers : Range ℕ → List ℕ
numbers s = range_with_len s.start (s.end - s.start)

long : (s : Range ℕ) → length (numbers s) ≡ s.end - s.start
long s = length-range_with_len s.start (s.end - s.start)

item : (s : Range ℕ) (k : ℕ) → k < length (numbers s) → get_or (numbers s) k 0 ≡ s.start + k
item s k h = get_or-range_with_len s.start (s.end - s.start) k 0 (omega (arith, h, long s))

within : (s : Range ℕ) (Q : ℕ → Type 0) → AllWithin Q (numbers s) 0 (length (numbers s)) → (k : ℕ) → s.start ≤ k → k < s.end → Q k
within s Q h k a b = subst Q (omega (arith, item s (k - s.start) (omega (arith, long s)))) (h (k - s.start) 0 (omega arith) (omega (arith, long s)))

module _ {F : Type 0} {g : Mut F (ℕ × Unit {0}) Bool} (s u : Range ℕ) (f : F) (r : Bool) (P : ℕ → Type 0) where
  -- `all` says whether each number of the range has P
  pub says_all : (xs : List ℕ) × (o : Option ℕ) × (j : F) × YieldsThen nat_range_steps s xs o u × FoldsTo (λ p x q. Called g p (x, tt) true q) f xs j
      × MatchOption o (r ≡ true) (λ x. (r ≡ false) × ((h : F) × Called g j (x, tt) false h))
      → ((x : ℕ) (b : Bool) (q : F) → Called g f (x, tt) b q → (q ≡ f) × Says (P x) b)
      → Says ((k : ℕ) → s.start ≤ k → k < s.end → P k) r
  says_all d call = answer r (cases_from_all u f r P (λ x. P x → ⊥) d (YieldsList-from_range s.start s.end _ refl refl)
      (λ x q k. ((call x true q k).0, says_true (call x true q k).1 refl)) (λ x q k. says_false (call x false q k).1 refl))
    where
      answer : (b : Bool) → MatchBool b (AllWithin P (numbers s) 0 (length (numbers s))) ((k : ℕ) × (k < length (numbers s)) × HoldsAt (λ x. P x → ⊥) (numbers s) k)
          → Says ((k : ℕ) → s.start ≤ k → k < s.end → P k) b
      answer true h = aye (within s P h)
      answer false h = nay (λ w. h.2 0 (subst P (sym (item s h.0 h.1)) (w (s.start + h.0) (omega arith) (omega (arith, long s, h.1)))))

  -- `any` says whether some number of the range has P
  pub says_any : (xs : List ℕ) × (o : Option ℕ) × (j : F) × YieldsThen nat_range_steps s xs o u × FoldsTo (λ p x q. Called g p (x, tt) false q) f xs j
      × MatchOption o (r ≡ false) (λ x. (r ≡ true) × ((h : F) × Called g j (x, tt) true h))
      → ((x : ℕ) (b : Bool) (q : F) → Called g f (x, tt) b q → (q ≡ f) × Says (P x) b)
      → Says ((k : ℕ) × (s.start ≤ k) × (k < s.end) × P k) r
  says_any d call = answer r (cases_from_any u f r P (λ x. P x → ⊥) d (YieldsList-from_range s.start s.end _ refl refl)
      (λ x q k. says_true (call x true q k).1 refl) (λ x q k. ((call x false q k).0, says_false (call x false q k).1 refl)))
    where
      answer : (b : Bool) → MatchBool b ((k : ℕ) × (k < length (numbers s)) × HoldsAt P (numbers s) k) (AllWithin (λ x. P x → ⊥) (numbers s) 0 (length (numbers s)))
          → Says ((k : ℕ) × (s.start ≤ k) × (k < s.end) × P k) b
      answer true h = aye (s.start + h.0, omega arith, omega (arith, long s, h.1), subst P (item s h.0 h.1) (h.2 0))
      answer false h = nay (λ w. within s (λ x. P x → ⊥) h w.0 w.1 w.2 w.3)

-- the same of a range from 0
module _ {F : Type 0} {g : Mut F (ℕ × Unit {0}) Bool} {n : ℕ} {u : Range ℕ} {f : F} {r : Bool} (P : ℕ → Type 0) where
  pub says_below : (xs : List ℕ) × (o : Option ℕ) × (j : F) × YieldsThen nat_range_steps (record { start = 0; end = n }) xs o u × FoldsTo (λ p x q. Called g p (x, tt) true q) f xs j
      × MatchOption o (r ≡ true) (λ x. (r ≡ false) × ((h : F) × Called g j (x, tt) false h))
      → ((x : ℕ) (b : Bool) (q : F) → Called g f (x, tt) b q → (q ≡ f) × Says (P x) b)
      → Says ((k : ℕ) → k < n → P k) r
  says_below d call = says_iff (λ w k h. w k (omega arith) h) (λ w k l h. w k h) (says_all _ u f r P d call)

  pub says_some : (xs : List ℕ) × (o : Option ℕ) × (j : F) × YieldsThen nat_range_steps (record { start = 0; end = n }) xs o u × FoldsTo (λ p x q. Called g p (x, tt) false q) f xs j
      × MatchOption o (r ≡ false) (λ x. (r ≡ true) × ((h : F) × Called g j (x, tt) true h))
      → ((x : ℕ) (b : Bool) (q : F) → Called g f (x, tt) b q → (q ≡ f) × Says (P x) b)
      → Says ((k : ℕ) × (k < n) × P k) r
  says_some d call = says_iff (λ t. (t.0, t.2, t.3)) (λ t. (t.0, omega arith, t.1, t.2)) (says_any _ u f r P d call)

-- where all that has H lies in the range
pub says_each : {H P : ℕ → Type 0} {n : ℕ} {r : Bool} → ((k : ℕ) → H k → k < n) → Says ((k : ℕ) → k < n → H k → P k) r → Says ((k : ℕ) → H k → P k) r
says_each within s = says_iff (λ w k h. w k (within k h) h) (λ w k l h. w k h) s

ranked_says : (x y : ℕ) (o : Ordering) → MatchOrdering o (x < y) (x ≡ y) (y < x) → Says (x ≤ y) (is_le o)
ranked_says x y Less h = aye (omega arith)
ranked_says x y Equal h = aye (omega arith)
ranked_says x y Greater h = nay (λ w. omega arith)

-- whether a number is in `a..=b`
pub says_within : {a b : ℕ} (s : RangeInclusive ℕ) (x : ℕ) → range_inclusive_start s ≡ a → range_inclusive_end s ≡ b → range_inclusive_exhausted s ≡ false
    → {r : Bool} → r ≡ range_inclusive_contains (λ x y. Some (nat_cmp x y)) s x → Says ((a ≤ x) × (x ≤ b)) r
says_within s x e f h q = rw (q, h, ← e, ← f) (says_and (ranked_says _ x _ (ranked _ x _ refl)) (ranked_says x _ _ (ranked x _ _ refl)))
