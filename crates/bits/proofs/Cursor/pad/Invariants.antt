-- `bits::Cursor::pad` meets its contract. The invariant: the bits up to `at` are written.
use mathlib.Core.Bool.{false}
use lib.ListN.{replicate}
use Rattle.bits.specs.Fields.{Wrote}
use Prim.Native.Nat.{◌-◌}
use Rattle.bits.proofs.Cursor.pad.Given as goal

abbrev pub invariant-loop-at : goal.invariant-loop-at
invariant-loop-at l = Wrote l.initial.buf l.buf l.initial.at l.at (replicate (l.at - l.initial.at) false)
