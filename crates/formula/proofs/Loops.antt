-- One turn of a loop, on the side of the specification.
use mathlib.Core.Path.{◌≡◌, refl, sym, ap, ◌∙◌}
use Prim.Native.Nat.{ℕ, suc, ◌+◌, ◌-◌, ◌*◌, ◌<◌, ◌≤◌}
use native.Mathlib.Numerals.{add-one}
use native.Mathlib.Omega.{arith}
use native.Mathlib.Nat.{mul-le-mul_right}
use mathlib.Core.List.{List}
use lib.ListN.{get_or, set}
use borrow.Author.Tests.{ne_eqb}
use Rattle.meaning.specs.Bytes.{Bytes}
use Rattle.meaning.specs.Fragment.{Fragment}
use Rattle.question.specs.declared.List as L
use Rattle.formula.specs.declared.Memory.{Memory}
use Rattle.formula.specs.inner.Memory.{state, Room, Same, Done}
use Rattle.formula.proofs.Grows.{across_over, down_over}
use Rattle.formula.proofs.Stops.{room_kept}
use Rattle.formula.specs.inner.Flat.{St, across, down_from, row_f, push_f, deliver_f, var_f}

module _ {A : Type 0} (f : ℕ → A → A) where
  -- counting up to n: what is left from i on
  pub outset : (n : ℕ) (s : A) → across f 0 (n - 0) s ≡ across f 0 n s
  outset n s = ap (λ k. across f 0 k s) all
    where
      all : n - 0 ≡ n
      all = omega arith

  pub onward : (i n : ℕ) {s t z : A} → i < n → across f i (n - i) s ≡ z → t ≡ f i s → across f (i + 1) (n - (i + 1)) t ≡ z
  unfolding across
  onward i n {s} {t} {z} h e q = ap (across f (i + 1) (n - (i + 1))) q ∙ rw add-one (rw (← left) at e)
    where
      left : suc (n - suc i) ≡ n - i
      left = omega arith

  pub arrived : (i n : ℕ) {s z : A} → n ≤ i → across f i (n - i) s ≡ z → s ≡ z
  unfolding across
  arrived i n h e = rw none at e
    where
      none : n - i ≡ 0
      none = omega arith

  -- counting down: f at each below k from s on is f at k - 1 and then at each below k - 1
  pub downward : (k : ℕ) {s t z : A} → 0 < k → down_from f k s ≡ z → t ≡ f (k - 1) s → down_from f (k - 1) t ≡ z
  unfolding down_from
  downward k h e q = ap (down_from f (k - 1)) q ∙ rw (← last) at e
    where
      last : suc (k - 1) ≡ k
      last = omega arith

  pub down_end : (k : ℕ) {s z : A} → k ≤ 0 → down_from f k s ≡ z → s ≡ z
  unfolding down_from
  down_end k h e = rw none at e
    where
      none : k ≡ 0
      none = omega arith

-- from m₀ on, with m before turn i of the n turns that give z
pub record Going (m₀ m : Memory) (f : ℕ → St → St) (i n : ℕ) (z : St) : Type 0 where
  pub same : Same m₀ m
  pub room : Room m
  pub is : across f i (n - i) (state m) ≡ z

pub going : (m : Memory) (f : ℕ → St → St) (n : ℕ) {z : St} → Room m → across f 0 n (state m) ≡ z → Going m m f 0 n z
going m f n r e = record { same = (refl, refl, refl); room = r; is = outset f n (state m) ∙ e }

-- a turn that leaves what f says
pub going_on : (m₀ m m' : Memory) (f : ℕ → St → St) (i n : ℕ) (z : St) {s : St} → i < n → Going m₀ m f i n z → s ≡ f i (state m) → Same m m' → Done s m' → Going m₀ m' f (i + 1) n z
going_on m₀ m m' f i n z h g e s d = record {
  same = (s.0 ∙ g.same.0, s.1 ∙ g.same.1, s.2 ∙ g.same.2);
  room = room_kept m m' g.room s d.count;
  is = onward f i n h g.is (d.is ∙ e);
}

-- where f stops at a turn, it has stopped at the end
pub going_stops : (m₀ m : Memory) (f : ℕ → St → St) (over : (i : ℕ) (s : St) → s.steps ≡ 4097 → (f i s).steps ≡ 4097) (i n : ℕ) (z : St) {s : St} → i < n → Going m₀ m f i n z → s ≡ f i (state m) → s.steps ≡ 4097 → z.steps ≡ 4097
going_stops m₀ m f over i n z {s} h g e k = ap (λ z. z.steps) (sym (onward f i n h g.is e)) ∙ across_over f over (i + 1) (n - (i + 1)) s k

pub gone : (m₀ m : Memory) (f : ℕ → St → St) (i n : ℕ) (z : St) → n ≤ i → Going m₀ m f i n z → Done z m
gone m₀ m f i n z h g = record { is = arrived f i n h g.is; count = g.room.count }

-- from m₀ on, with m where f is still to be done at each below k
pub record Falling (m₀ m : Memory) (f : ℕ → St → St) (k : ℕ) (z : St) : Type 0 where
  pub same : Same m₀ m
  pub room : Room m
  pub is : down_from f k (state m) ≡ z

pub falling_on : (m₀ m m' : Memory) (f : ℕ → St → St) (k : ℕ) (z : St) {s : St} → 0 < k → Falling m₀ m f k z → s ≡ f (k - 1) (state m) → Same m m' → Done s m' → Falling m₀ m' f (k - 1) z
falling_on m₀ m m' f k z h g e s d = record {
  same = (s.0 ∙ g.same.0, s.1 ∙ g.same.1, s.2 ∙ g.same.2);
  room = room_kept m m' g.room s d.count;
  is = downward f k h g.is (d.is ∙ e);
}

pub falling_stops : (m₀ m : Memory) (f : ℕ → St → St) (over : (i : ℕ) (s : St) → s.steps ≡ 4097 → (f i s).steps ≡ 4097) (k : ℕ) (z : St) {s : St} → 0 < k → Falling m₀ m f k z → s ≡ f (k - 1) (state m) → s.steps ≡ 4097 → z.steps ≡ 4097
falling_stops m₀ m f over k z {s} h g e q = ap (λ z. z.steps) (sym (downward f k h g.is e)) ∙ down_over f over (k - 1) s q

pub fallen : (m₀ m : Memory) (f : ℕ → St → St) (k : ℕ) (z : St) → k ≤ 0 → Falling m₀ m f k z → Done z m
fallen m₀ m f k z h g = record { is = down_end f k h g.is; count = g.room.count }

-- few rows of few entries
pub few : {p n : ℕ} → p ≤ 512 → n ≤ 32 → p * (2 * n) ≤ 32768
few {p} {n} h k = omega (arith, mul-le-mul_right n h)

-- a row, and then its part in its parent
pub delivered_is : (l : L.List) (t : Bytes) (F : Fragment) (size k place up : ℕ) (r s : St) {size' : ℕ} → (k ≡ 0 → ⊥) → size' ≡ size → up ≡ get_or F.rows (k * 6) 0 → r ≡ row_f l t F size k place s
    → push_f size' (k * l.count) (up * l.count) l.count r ≡ deliver_f l t F size k place s
unfolding deliver_f
delivered_is l t F size k place up r s n z p q = simp (ne_eqb k 0 n) (λ i. push_f (z i) (k * l.count) (p i * l.count) l.count (q i))

pub delivered_at : (l : L.List) (t : Bytes) (F : Fragment) (k : ℕ) (s : St) {size' size place c : ℕ} → size' ≡ size → place ≡ c → deliver_f l t F size' k place s ≡ deliver_f l t F size k c s
delivered_at l t F k s z p = λ i. deliver_f l t F (z i) k (p i) s

-- a stand-in's variables at entry e, counted from the first
pub var_is : (size at n first e : ℕ) (m : List ℕ) {size' x y : ℕ} → size' ≡ size → x ≡ first + e → y ≡ first + (n + e) → set (set m (at + e) (8192 + x)) (2 * size' + at + e) (8192 + y) ≡ var_f size at n first e m
var_is size at n first e m z p q = λ i. set (set m (at + e) (8192 + p i)) (2 * z i + at + e) (8192 + q i)
