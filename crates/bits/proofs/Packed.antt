-- Bits packed into bytes: the bits of the bytes are the bits packed, and no other bytes have them.
use Prim.Native.Nat.{ℕ, zero, suc, ◌+◌, ◌-◌, ◌*◌, ◌≤◌, ◌<◌}
use native.Mathlib.Nat.{mul-suc}
use native.Mathlib.Omega.{arith}
use mathlib.Core.Path.{◌≡◌, refl, sym, ap, ap₂, ◌∙◌}
use mathlib.Core.Bool.{Bool, false}
use mathlib.Core.List.{List, [], ◌∷◌, ◌++◌}
use lib.ListN.{length, take, drop, replicate, length-append, length-drop, length-replicate, take-append-drop}
use lib.Seq.{length-take-le, get_or-drop, drop_at}
use Rattle.bits.specs.Bits.{eights, bytes_for, bytes_of}
use Rattle.bits.specs.Fields.{Octets, fields, bits_of, Wrote}
use Rattle.bits.specs.Promise.{OneWrite, Packs, OnePack}
use Rattle.bits.proofs.Digits.{number_lt, digits_number_at}
use Rattle.bits.proofs.Byte.{bits_of_length, bits_of_append, bits_of_inj}

pub eights_length : (n : ℕ) (bs : List Bool) → length (eights n bs) ≡ n
unfolding eights
eights_length zero bs = refl
eights_length (suc n) bs = ap suc (eights_length n (drop 8 bs))

pub eights_octets : (n : ℕ) (bs : List Bool) → length bs ≡ 8 * n → Octets (eights n bs)
unfolding eights
eights_octets zero bs e i = omega arith
eights_octets (suc n) bs e zero = rw (length-take-le 8 bs (omega (arith, mul-suc 8 n))) at (number_lt (take 8 bs))
eights_octets (suc n) bs e (suc i) = eights_octets n (drop 8 bs) (rw length-drop (omega (arith, mul-suc 8 n))) i

pub bits_of_eights : (n : ℕ) (bs : List Bool) → length bs ≡ 8 * n → bits_of (eights n bs) ≡ bs
unfolding eights bits_of fields
bits_of_eights zero [] e = refl
bits_of_eights zero (b ∷ bs) e = absurd (omega arith)
bits_of_eights (suc n) bs e =
    ap₂ ◌++◌ (digits_number_at 8 (take 8 bs) (length-take-le 8 bs (omega (arith, mul-suc 8 n)))) (bits_of_eights n (drop 8 bs) (rw length-drop (omega (arith, mul-suc 8 n))))
    ∙ take-append-drop 8 bs

pub octets_append : (s t : List ℕ) → Octets s → Octets t → Octets (s ++ t)
octets_append [] t p q i = q i
octets_append (x ∷ s) t p q zero = p zero
octets_append (x ∷ s) t p q (suc i) = octets_append s t (λ j. p (suc j)) q i

pub octets_drop : (n : ℕ) (s : List ℕ) → Octets s → Octets (drop n s)
octets_drop n s o i = rw get_or-drop (o (n + i))

pub bits_of_drop : (n : ℕ) (s : List ℕ) → n ≤ length s → bits_of (drop n s) ≡ drop (8 * n) (bits_of s)
bits_of_drop n s h =
    let e : bits_of s ≡ bits_of (take n s) ++ bits_of (drop n s) = ap bits_of (sym (take-append-drop n s)) ∙ bits_of_append (take n s) (drop n s) in
    rw e (sym (drop_at (bits_of (take n s)) (bits_of (drop n s)) (8 * n) (rw (bits_of_length, length-take-le n s h) refl)))

module _ (bs : List Bool) where
  filled_length : length (bs ++ replicate (8 * bytes_for (length bs) - length bs) false) ≡ 8 * bytes_for (length bs)
  filled_length = rw (length-append, length-replicate) (omega arith)

  pub bytes_of_length : length (bytes_of bs) ≡ bytes_for (length bs)
  unfolding bytes_of
  bytes_of_length = eights_length (bytes_for (length bs)) (bs ++ replicate (8 * bytes_for (length bs) - length bs) false)

  pub bytes_of_octets : Octets (bytes_of bs)
  unfolding bytes_of
  bytes_of_octets = eights_octets (bytes_for (length bs)) (bs ++ replicate (8 * bytes_for (length bs) - length bs) false) filled_length

  pub bits_of_bytes_of : bits_of (bytes_of bs) ≡ bs ++ replicate (8 * bytes_for (length bs) - length bs) false
  unfolding bytes_of
  bits_of_bytes_of = bits_of_eights (bytes_for (length bs)) (bs ++ replicate (8 * bytes_for (length bs) - length bs) false) filled_length

  -- bytes that have these bits, and fewer than eight zero bits more
  pub bytes_are : (s : List ℕ) (z : ℕ) → Octets s → z < 8 → bits_of s ≡ bs ++ replicate z false → s ≡ bytes_of bs
  bytes_are s z o h e =
      let l : 8 * length s ≡ length bs + z = sym (bits_of_length s) ∙ ap length e ∙ rw (length-append, length-replicate) refl in
      let f : z ≡ 8 * bytes_for (length bs) - length bs = omega arith in
      bits_of_inj s (bytes_of bs) (rw bytes_of_length (omega arith)) o bytes_of_octets (e ∙ rw f (sym bits_of_bytes_of))

  -- a buffer that is written from its first bit on, to the end of a byte
  pub written : (s t : List ℕ) (next : ℕ) → Octets s → Octets t → next ≡ 8 * bytes_for (length bs)
      → Wrote s t 0 next (bs ++ replicate (next - length bs) false) → t ≡ bytes_of bs ++ drop (length (bytes_of bs)) s
  written s t next os ot e w =
      let n = length (bytes_of bs) in
      let h : n ≤ length s = rw bytes_of_length (omega (arith, w.room)) in
      bits_of_inj t (bytes_of bs ++ drop n s) (w.kept ∙ rw (length-append, length-drop) (omega arith)) ot (octets_append (bytes_of bs) (drop n s) bytes_of_octets (octets_drop n s os))
      (w.bits ∙ rw (bits_of_append (bytes_of bs) (drop n s), bits_of_bytes_of, bits_of_drop n s h, bytes_of_length, ← e) refl)

pub packs : Packs
packs bs = (8 * bytes_for (length bs) - length bs, omega arith, bits_of_bytes_of bs)

pub one_pack : OnePack
one_pack = bytes_are

pub one_write : OneWrite
one_write s t u at m n bs ot ou p q =
    let e : m ≡ n = p.end ∙ sym q.end in
    (bits_of_inj t u (p.kept ∙ sym q.kept) ot ou (p.bits ∙ rw e (sym q.bits)), e)
