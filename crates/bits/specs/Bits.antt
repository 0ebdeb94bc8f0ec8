-- Bits and bytes: a number as bits, most significant first, and back; and a run of bits packed into bytes.
use Rattle.std.specs.Prelude.{ℕ, zero, suc, ◌+◌, ◌-◌, ◌*◌, ◌/◌, ◌%◌, ◌^◌}
use Rattle.std.specs.Prelude.{Bool, true, false, List, [], ◌∷◌, ◌++◌, length, take, drop, replicate, eqb}

-- the lowest bit of a number, and a bit as a number
unfoldable pub bit : ℕ → Bool
bit n = eqb (n % 2) 1

unfoldable pub worth : Bool → ℕ
worth true = 1
worth false = 0

-- the w lowest bits of v, most significant first
unfoldable pub digits : ℕ → ℕ → List Bool
unfolding bit
digits zero v = []
digits (suc w) v = bit (v / 2 ^ w) ∷ digits w v

-- the number that bits write, most significant first
unfoldable pub number : List Bool → ℕ
unfolding worth
number [] = 0
number (b ∷ bs) = worth b * 2 ^ length bs + number bs

-- n bytes of eight bits each
unfoldable pub eights : ℕ → List Bool → List ℕ
eights zero bs = []
eights (suc n) bs = number (take 8 bs) ∷ eights n (drop 8 bs)

-- how many bytes hold n bits, and bits as bytes, with zero bits to the next byte
abbrev pub bytes_for : ℕ → ℕ
bytes_for n = (n + 7) / 8

unfoldable pub bytes_of : List Bool → List ℕ
bytes_of bs = eights (bytes_for (length bs)) (bs ++ replicate (8 * bytes_for (length bs) - length bs) false)
