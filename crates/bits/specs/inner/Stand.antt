-- A run of bits that stands in bytes.
use Rattle.std.specs.Prelude.{◌≡◌, ℕ, ◌+◌, ◌*◌, ◌≤◌, Bool, List, length}
use Rattle.bits.specs.Fields.{bits_at}

-- the bits bs stand in s from bit `at` up to bit `next`
pub record BitsStand (s : List ℕ) (at next : ℕ) (bs : List Bool) : Type 0 where
  pub end : next ≡ at + length bs
  pub room : next ≤ 8 * length s
  pub there : bits_at s at (length bs) ≡ bs
