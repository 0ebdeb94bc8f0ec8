-- Fields in bytes: the bits of bytes, the number that stands at a place, and what it is to write a run of bits at a place.
use Rattle.std.specs.Prelude.{◌≡◌, ℕ, ◌+◌, ◌*◌, ◌^◌, ◌≤◌, ◌<◌, Bool, List, [], ◌∷◌, ◌++◌, length, take, drop, get_or}
use Rattle.bits.specs.Bits.{digits, number}

-- numbers as fields of w bits each, one after the other
unfoldable pub fields : ℕ → List ℕ → List Bool
fields w [] = []
fields w (x ∷ xs) = digits w x ++ fields w xs

-- all bits of a list of bytes
unfoldable pub bits_of : List ℕ → List Bool
bits_of s = fields 8 s

-- every number is a byte
abbrev pub Octets : List ℕ → Type 0
Octets s = (i : ℕ) → get_or s i 0 < 2 ^ 8

-- the w bits from bit `at` on, and the number that they write
unfoldable pub bits_at : List ℕ → ℕ → ℕ → List Bool
bits_at s at w = take w (drop at (bits_of s))

unfoldable pub field_at : List ℕ → ℕ → ℕ → ℕ
field_at s at w = number (bits_at s at w)

-- `after` is `before` with the bits bs from bit `at` up to bit `next`, and every other bit as it was
pub record Wrote (before after : List ℕ) (at next : ℕ) (bs : List Bool) : Type 0 where
  pub end : next ≡ at + length bs
  pub room : next ≤ 8 * length before
  pub kept : length after ≡ length before
  pub bits : bits_of after ≡ take at (bits_of before) ++ (bs ++ drop next (bits_of before))
