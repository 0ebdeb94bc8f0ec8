-- A search of a run of bits for one that is set.
use Prim.Native.Nat.{ℕ, ◌<◌, ◌≤◌, ◌+◌, ◌-◌, ◌*◌}
use native.Mathlib.Omega.{arith}
use mathlib.Core.Path.{◌≡◌, refl, sym, subst}
use mathlib.Core.Bool.{Bool, true, false, not, true≢false}
use mathlib.Core.List.{List, [], ◌∷◌}
use lib.ListN.{length, get_or, replicate}
use denote.Param.Members.{Mut}
use Rattle.std.specs.declared.option.Option.{Option}
use Rattle.std.specs.declared.ops.Range.{Range}
use Rattle.std.specs.Fn.{Called}
use Rattle.std.specs.Iterator.{YieldsThen}
use Rattle.std.specs.List.{FoldsTo, range_with_len, AllWithin, HoldsAt}
use Rattle.std.specs.Option.{MatchOption}
use Rattle.std.specs.Bool.{MatchBool}
use Rattle.std.proofs.iter.Yields.{nat_range_steps}
use Rattle.std.proofs.lemmas.Iterator.{YieldsList-from_range, cases_from_any}
use Rattle.std.proofs.lemmas.List.FromFn.{get_or-range_with_len, length-range_with_len}
use Rattle.bits.specs.Fields.{bits_at}
use Rattle.bits.specs.inner.Stand.{BitsStand}
use Rattle.bits.proofs.Laws.{blank_bit, bits_blank}

module _ (s : List ℕ) {F : Type 0} {g : Mut F (ℕ × Unit {0}) Bool} (a b : ℕ) (u : Range ℕ) (f : F) (r : Bool) (h : a ≤ b) (room : b ≤ 8 * length s) where
  -- the search finds a bit unless the run is blank
  pub blank_any : (xs : List ℕ) × (o : Option ℕ) × (j : F) × YieldsThen nat_range_steps (record { start = a; end = b }) xs o u × FoldsTo (λ p x q. Called g p (x, tt) false q) f xs j
      × MatchOption o (r ≡ false) (λ x. (r ≡ true) × ((h : F) × Called g j (x, tt) true h))
      → ((x : ℕ) (y : Bool) (q : F) → Called g f (x, tt) y q → (q ≡ f) × (bits_at s x 1 ≡ y ∷ []))
      → (not r ≡ true → BitsStand s a b (replicate (b - a) false)) × (BitsStand s a b (replicate (b - a) false) → not r ≡ true)
  blank_any d call = answer r (cases_from_any u f r (λ x. bits_at s x 1 ≡ true ∷ []) (λ x. bits_at s x 1 ≡ false ∷ []) d (YieldsList-from_range a b _ refl refl)
      (λ x q k. (call x true q k).1) (λ x q k. call x false q k))
    where
      n : ℕ
      n = b - a

      long : length (range_with_len a n) ≡ n
      long = length-range_with_len a n

      item : (k : ℕ) → k < length (range_with_len a n) → get_or (range_with_len a n) k 0 ≡ a + k
      item k l = get_or-range_with_len a n k 0 (omega (arith, l, long))

      end : a + n ≡ b
      end = omega arith

      answer : (y : Bool) → MatchBool y ((k : ℕ) × (k < length (range_with_len a n)) × HoldsAt (λ x. bits_at s x 1 ≡ true ∷ []) (range_with_len a n) k) (AllWithin (λ x. bits_at s x 1 ≡ false ∷ []) (range_with_len a n) 0 (length (range_with_len a n)))
          → (not y ≡ true → BitsStand s a b (replicate (b - a) false)) × (BitsStand s a b (replicate (b - a) false) → not y ≡ true)
      answer true w = (λ e. absurd (true≢false (sym e)), λ q. let x = subst (λ x. bits_at s x 1 ≡ true ∷ []) (item w.0 w.1) (w.2 0) in let y = blank_bit n w.0 (omega (arith, w.1, long)) q in absurd (true≢false (cc (x, y))))
      answer false w = ((λ e. subst (λ c. BitsStand s a c (replicate n false)) end (bits_blank s a n (omega arith) (λ k l. subst (λ x. bits_at s x 1 ≡ false ∷ []) (item k (omega (arith, long))) (w k 0 (omega arith) (omega (arith, long)))))), λ q. refl)
