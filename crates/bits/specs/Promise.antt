-- WHAT IS PROVED OF THESE DEFINITIONS: each promise is a type, and proofs/ has an element of it under its name (`take_put` of `TakePut`).
use Rattle.std.specs.Prelude.{ℕ, ◌<◌, ◌^◌, ◌≡◌, Bool, false, List, ◌++◌, length, replicate}
use Rattle.bits.specs.Bits.{digits, number, bytes_of}
use Rattle.bits.specs.Fields.{bits_of, field_at, Octets, Wrote}

-- a number and its bits, there and back, at every width
abbrev pub NumberDigits : Type 0
NumberDigits = (w v : ℕ) → v < 2 ^ w → number (digits w v) ≡ v

abbrev pub DigitsNumber : Type 0
DigitsNumber = (bs : List Bool) → digits (length bs) (number bs) ≡ bs

-- a field that was written is read back
abbrev pub TakePut : Type 0
TakePut = (s t : List ℕ) (at next w v : ℕ) → v < 2 ^ w → Wrote s t at next (digits w v) → field_at t at w ≡ v

-- what a write leaves is fixed, and so is where it ends
abbrev pub OneWrite : Type 0
OneWrite = (s t u : List ℕ) (at m n : ℕ) (bs : List Bool) → Octets t → Octets u → Wrote s t at m bs → Wrote s u at n bs → (t ≡ u) × (m ≡ n)

-- bits as bytes have these bits, and fewer than eight zero bits more; no other bytes have
abbrev pub Packs : Type 0
Packs = (bs : List Bool) → (z : ℕ) × (z < 8) × (bits_of (bytes_of bs) ≡ bs ++ replicate z false)

abbrev pub OnePack : Type 0
OnePack = (bs : List Bool) (s : List ℕ) (z : ℕ) → Octets s → z < 8 → bits_of s ≡ bs ++ replicate z false → s ≡ bytes_of bs
