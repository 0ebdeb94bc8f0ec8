-- `bits::Cursor::put` meets its contract. The invariant: the field's i highest bits are written.
use Prim.Native.Nat.{◌+◌, ◌-◌, ◌/◌, ◌^◌}
use Rattle.bits.specs.Bits.{digits}
use Rattle.bits.specs.Fields.{Wrote}
use Rattle.bits.proofs.Cursor.put.Given as goal

abbrev pub invariant-loop-i : goal.invariant-loop-i
invariant-loop-i l = Wrote l.initial.buf l.buf l.self.at (l.self.at + l.i) (digits l.i (l.value / 2 ^ (l.width - l.i)))
