-- `bits::bit` meets its contract: one bit of a byte.
use Rattle.bits.proofs.Byte.{bit_in_byte}
use Rattle.bits.proofs.bit.Goals as goal

pub returns : goal.returns
returns c = bit_in_byte c.args.s.now c.args.at c.mask.result c.requires c.mask.ensures
