-- `bits::Cursor::take` meets its contract. The invariant: `value` is the number of the first i bits of the field.
use mathlib.Core.Path.{◌≡◌}
use Rattle.bits.specs.Fields.{field_at}
use Rattle.bits.proofs.Cursor.take.Given as goal

abbrev pub invariant-loop-i : goal.invariant-loop-i
invariant-loop-i l = l.value ≡ field_at l.s l.self.at l.i
