-- `bits::set_bit` meets its contract: one bit of a byte is written.
use borrow.Author.Rules.{rules}
use native.Mathlib.Omega.{arith}
use Rattle.bits.proofs.Byte.{set_in_byte, clear_in_byte}
use Rattle.bits.proofs.set_bit.Goals as goal

pub returns-then-b : goal.returns-then-b
returns-then-b c = rw c.if-b.true (set_in_byte _ _ _ c.requires (omega (arith, c.mask.ensures)))

pub returns-else-b : goal.returns-else-b
returns-else-b c = rw c.if-b.false (clear_in_byte _ _ _ c.requires (omega (arith, c.mask-else-b.ensures)) (search rules) (omega arith))
