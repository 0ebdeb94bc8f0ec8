-- `writing::put_ins` meets its contract.
use Prim.Native.Nat.{◌+◌, ◌*◌}
use mathlib.Core.Path.{◌≡◌}
use lib.ListN.{length}
use Rattle.bits.specs.Bits.{digits}
use Rattle.bits.specs.Fields.{Wrote}
use Rattle.reply.specs.Write.{each}
use Rattle.writing.proofs.Chunks.{Left}
use Rattle.writing.proofs.Codes.{first_ins}
use Rattle.writing.proofs.put_ins.Given as goal

abbrev pub invariant-loop-row : goal.invariant-loop-row
invariant-loop-row l = record {
  size : l.row-iterator.size ≡ 6;
  left : Left 6 (length l.yielded) l.rows l.row-iterator.rest.now;
  at : l.c.at ≡ l.initial.c.at + 5 * length (first_ins l.rows (length l.yielded));
  wrote : Wrote l.initial.out l.out l.initial.c.at l.c.at (each (digits 5) (first_ins l.rows (length l.yielded)));
}
