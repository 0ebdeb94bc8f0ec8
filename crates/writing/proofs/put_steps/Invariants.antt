use Prim.Native.Nat.{◌+◌, ◌*◌}
use mathlib.Core.Path.{◌≡◌}
use lib.ListN.{length}
use Rattle.bits.specs.Fields.{Wrote}
use Rattle.reply.specs.Write.{step_bits, each}
use Rattle.reply.specs.inner.Decode.{step_width}
use Rattle.writing.specs.inner.Codes.{steps_at}
use Rattle.writing.proofs.Chunks.{Left}
use Rattle.writing.proofs.put_steps.Given as goal

abbrev pub invariant-loop-step : goal.invariant-loop-step
invariant-loop-step l = record {
  size : l.step-iterator.size ≡ 3;
  left : Left 3 (length l.yielded) l.steps l.step-iterator.rest.now;
  at : l.c.at ≡ l.initial.c.at + step_width l.w * length l.yielded;
  wrote : Wrote l.initial.out l.out l.initial.c.at l.c.at (each (step_bits l.w) (steps_at l.steps 0 (length l.yielded)));
}
