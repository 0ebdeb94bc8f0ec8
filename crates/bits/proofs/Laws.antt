-- How writes and reads of runs of bits compose; thousands of fields go by these laws alone.
use mathlib.Core.Path.{◌≡◌, refl, sym, ap, ◌∙◌}
use Prim.Native.Nat.{ℕ, zero, suc, ◌+◌, ◌-◌, ◌*◌, ◌/◌, ◌^◌, ◌≤◌, ◌<◌}
use native.Mathlib.Nat.{add_assoc, add-zero, add-suc, mul-suc, mul-le-mul_left}
use native.Mathlib.Numerals.{add-one}
use native.Mathlib.Omega.{arith}
use mathlib.Core.Bool.{Bool, false}
use mathlib.Core.List.{List, [], ◌∷◌, ◌++◌, append_assoc}
use lib.ListN.{length, take, drop, replicate, length-replicate, length-append, length-take, length-drop, take-append-drop, replicate-append-replicate}
use lib.Seq.{take-length, take_all, take_at, drop_at, length-take-le, drop-drop, take-add}
use Rattle.bits.specs.Bits.{bit, worth, digits, number}
use Rattle.bits.specs.Fields.{bits_of, bits_at, field_at, Wrote}
use Rattle.bits.specs.inner.Stand.{BitsStand}
use Rattle.bits.specs.Promise.{TakePut}
use Rattle.bits.proofs.Digits.{digits_length, number_lt, number_append, number_digits, digits_number_at, digits_next, number_one}
use Rattle.bits.proofs.Byte.{append_front, append_back, bits_of_length}

-- ---- how writes compose

module _ {s t : List ℕ} {at next : ℕ} {bs : List Bool} (w : Wrote s t at next bs) where
  start : length (take at (bits_of s)) ≡ at
  start = length-take-le at (bits_of s) (omega (arith, w.end, w.room, bits_of_length s))

  upto : length (take at (bits_of s) ++ bs) ≡ next
  upto = rw (length-append, start, w.end) refl

  joined : bits_of t ≡ (take at (bits_of s) ++ bs) ++ drop next (bits_of s)
  joined = w.bits ∙ sym (append_assoc (take at (bits_of s)) bs (drop next (bits_of s)))

  -- up to the end of the run: what was before the run, and the run
  pub wrote_front : take next (bits_of t) ≡ take at (bits_of s) ++ bs
  wrote_front = rw joined (take_at (take at (bits_of s) ++ bs) (drop next (bits_of s)) next upto)

  -- past the run nothing changed
  pub wrote_back : drop next (bits_of t) ≡ drop next (bits_of s)
  wrote_back = rw joined (drop_at (take at (bits_of s) ++ bs) (drop next (bits_of s)) next upto)

  wrote_later : (k : ℕ) → next ≤ k → drop k (bits_of t) ≡ drop k (bits_of s)
  wrote_later k h =
      let e : next + (k - next) ≡ k = omega arith in
      rw (← e, ← drop-drop (k - next) next (bits_of t), ← drop-drop (k - next) next (bits_of s), wrote_back) refl

pub wrote_none : (s : List ℕ) (at : ℕ) → at ≤ 8 * length s → Wrote s s at at []
wrote_none s at h = record { end = omega arith; room = h; kept = refl; bits = sym (take-append-drop at (bits_of s)) }

pub wrote_append : {s t u : List ℕ} {a b c : ℕ} {xs ys : List Bool} → Wrote s t a b xs → Wrote t u b c ys → Wrote s u a c (xs ++ ys)
wrote_append {s} {t} {u} {a} {b} {c} {xs} {ys} p q =
    record {
      end = rw length-append (omega (arith, p.end, q.end));
      room = omega (arith, q.room, p.kept);
      kept = q.kept ∙ p.kept;
      bits = q.bits ∙ rw (wrote_front p, wrote_later p c (omega (arith, q.end))) (simp append_assoc);
    }

-- one bit more of the w bits of v is written; k is how far the code shifts v for it
pub put_more : {s t u : List ℕ} (at i w v k : ℕ) → i < w → Wrote s t at (at + i) (digits i (v / 2 ^ (w - i)))
    → Wrote t u (at + i) (at + i + 1) (bit (v / 2 ^ k) ∷ []) → k ≡ w - (i + 1)
    → Wrote s u at (at + (i + 1)) (digits (i + 1) (v / 2 ^ (w - (i + 1))))
put_more at i w v k h p q e = rw (← add_assoc at i 1, digits_next w i v h) (wrote_append p (rw e at q))

-- ---- reading

pub bits_at_length : (s : List ℕ) (at w : ℕ) → at + w ≤ 8 * length s → length (bits_at s at w) ≡ w
unfolding bits_at
bits_at_length s at w h = simp (length-take, length-drop, bits_of_length) (omega arith)

-- the bits from `at` on, in two runs
pub bits_at_add : (s : List ℕ) (at n m : ℕ) → bits_at s at (n + m) ≡ bits_at s at n ++ bits_at s (at + n) m
unfolding bits_at
bits_at_add s at n m = rw (take-add n m, drop-drop n at (bits_of s)) refl

pub field_lt : (s : List ℕ) (at w : ℕ) → at + w ≤ 8 * length s → field_at s at w < 2 ^ w
unfolding field_at
field_lt s at w h = rw (bits_at_length s at w h) at (number_lt (bits_at s at w))

pub digits_field : (s : List ℕ) (at w : ℕ) → at + w ≤ 8 * length s → digits w (field_at s at w) ≡ bits_at s at w
unfolding field_at
digits_field s at w h = digits_number_at w (bits_at s at w) (bits_at_length s at w h)

-- one bit more, as a reader adds it
pub field_more : (s : List ℕ) (at i n : ℕ) → at + (i + n) ≤ 8 * length s → field_at s at (i + n) ≡ field_at s at i * 2 ^ n + field_at s (at + i) n
unfolding field_at
field_more s at i n h = rw (bits_at_add s at i n, number_append (bits_at s at i) (bits_at s (at + i) n), bits_at_length s (at + i) n (omega arith)) refl

-- as the code has it: p is the place of the next bit b
pub field_next : (s : List ℕ) (at i p v : ℕ) (b : Bool) → at + (i + 1) ≤ 8 * length s → v ≡ field_at s at i → bits_at s p 1 ≡ b ∷ [] → p ≡ at + i
    → v * 2 + worth b ≡ field_at s at (i + 1)
unfolding field_at
field_next s at i p v b h ev eb ep = rw (ev, ← number_one, ← eb, ep) (sym (field_more s at i 1 h))

-- a field that was read stands there, and what stands there is what is read
pub field_stand : (s : List ℕ) (at w : ℕ) → at + w ≤ 8 * length s → BitsStand s at (at + w) (digits w (field_at s at w))
field_stand s at w h = record { end = rw digits_length refl; room = h; there = rw digits_length (sym (digits_field s at w h)) }

pub stand_field : {s : List ℕ} {at next : ℕ} (w v : ℕ) → v < 2 ^ w → BitsStand s at next (digits w v) → field_at s at w ≡ v
unfolding field_at
stand_field w v h p = ap number (rw digits_length at p.there) ∙ number_digits w v h

pub stand_none : (s : List ℕ) (at : ℕ) → at ≤ 8 * length s → BitsStand s at at []
unfolding bits_at
stand_none s at h = record { end = omega arith; room = h; there = refl }

pub stand_append : {s : List ℕ} {a b c : ℕ} {xs ys : List Bool} → BitsStand s a b xs → BitsStand s b c ys → BitsStand s a c (xs ++ ys)
stand_append {s} {a} {b} {c} {xs} {ys} p q =
    record {
      end = rw length-append (omega (arith, p.end, q.end));
      room = q.room;
      there = rw (length-append, bits_at_add s a (length xs) (length ys), p.there, ← p.end, q.there) refl;
    }

pub stand_split : {s : List ℕ} {a c : ℕ} (b : ℕ) (xs ys : List Bool) → b ≡ a + length xs → BitsStand s a c (xs ++ ys) → BitsStand s a b xs × BitsStand s b c ys
stand_split {s} {a} {c} b xs ys eb p =
    let n : c ≡ a + (length xs + length ys) = rw length-append at p.end in
    let e : bits_at s a (length xs) ++ bits_at s b (length ys) ≡ xs ++ ys =
    rw eb (sym (bits_at_add s a (length xs) (length ys)) ∙ (rw length-append at p.there)) in
    let l : length (bits_at s a (length xs)) ≡ length xs = bits_at_length s a (length xs) (omega (arith, p.room)) in (
      record { end = eb; room = omega (arith, p.room); there = append_front (bits_at s a (length xs)) (bits_at s b (length ys)) xs ys l e },
      record { end = omega arith; room = p.room; there = append_back (bits_at s a (length xs)) (bits_at s b (length ys)) xs ys l e },
    )

-- all of s
pub stand_whole : {s : List ℕ} {next : ℕ} {bs : List Bool} → BitsStand s 0 next bs → next ≡ 8 * length s → bits_of s ≡ bs
unfolding bits_at
stand_whole {s} {next} {bs} p e = sym (take_all (length bs) (bits_of s) (omega (arith, bits_of_length s, p.end))) ∙ p.there

pub whole_stand : {s : List ℕ} {bs : List Bool} → bits_of s ≡ bs → BitsStand s 0 (8 * length s) bs
unfolding bits_at
whole_stand {s} {bs} e =
    let l : length bs ≡ 8 * length s = sym (ap length e) ∙ bits_of_length s in
    record { end = omega arith; room = omega arith; there = rw e (take-length bs) }

-- ---- a write, then a read

module _ {s t : List ℕ} {at next : ℕ} {bs : List Bool} (w : Wrote s t at next bs) where
  pub wrote_stand : BitsStand t at next bs
  unfolding bits_at
  wrote_stand =
      record {
        end = w.end;
        room = rw w.kept w.room;
        there = rw (w.bits, drop_at (take at (bits_of s)) (bs ++ drop next (bits_of s)) at (start w)) (take_at bs (drop next (bits_of s)) (length bs) refl);
      }

-- taking the field just put gives the value back
pub take_put : TakePut
take_put s t at next w v h p = stand_field w v h (wrote_stand p)

-- there is room for one field more
pub one_more : (w i n : ℕ) → i < n → w * i + w ≤ w * n
one_more w i n h = rw (← mul-suc w i) (mul-le-mul_left w h)

-- ---- a run of zeros: each bit is 0, and where each is, the run stands

pub blank_bit : {s : List ℕ} {at next : ℕ} (n k : ℕ) → k < n → BitsStand s at next (replicate n false) → bits_at s (at + k) 1 ≡ false ∷ []
blank_bit {s} {at} {next} n k h p =
    let e : n ≡ k + 1 + (n - (k + 1)) = omega arith in
    let q : BitsStand s at next ((replicate k false ++ (false ∷ [])) ++ replicate (n - (k + 1)) false) =
    rw (e, ← replicate-append-replicate (k + 1) (n - (k + 1)) false, ← replicate-append-replicate k 1 false) at p in
    let q' = stand_split (at + k + 1) (replicate k false ++ (false ∷ [])) (replicate (n - (k + 1)) false) (simp (length-append, length-replicate) (omega arith)) q in
    (stand_split (at + k) (replicate k false) (false ∷ []) (rw length-replicate refl) q'.0).1.there

pub bits_blank : (s : List ℕ) (at n : ℕ) → at + n ≤ 8 * length s → ((k : ℕ) → k < n → bits_at s (at + k) 1 ≡ false ∷ []) → BitsStand s at (at + n) (replicate n false)
bits_blank s at zero h f = rw add-zero (stand_none s at (omega arith))
bits_blank s at (suc n) h f =
    let e : replicate n false ++ (false ∷ []) ≡ replicate (suc n) false = replicate-append-replicate n 1 false ∙ ap (λ m. replicate m false) (add-one n) in
    rw (← e, add-suc) (stand_append (bits_blank s at n (omega arith) (λ k l. f k (omega arith))) (record { end = omega arith; room = omega arith; there = f n (omega arith) }))
