-- `bits::Cursor::blank` meets its contract.
use Rattle.std.proofs.Common.{rules}
use Rattle.bits.proofs.Blank.{blank_any}
use Rattle.bits.proofs.Cursor.blank.Goals as goal

pub returns-clause-bits_stand : goal.returns-clause-bits_stand
returns-clause-bits_stand c = (blank_any _ _ _ _ _ _ c.requires.0 c.requires.1 c.any.ensures.ran (λ x b q k. search rules)).0

pub returns-clause-value : goal.returns-clause-value
returns-clause-value c = (blank_any _ _ _ _ _ _ c.requires.0 c.requires.1 c.any.ensures.ran (λ x b q k. search rules)).1
