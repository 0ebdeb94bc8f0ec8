-- `reply::judging::steps_ok` meets its contract.
use Prim.Native.Nat.{ℕ, ◌+◌, ◌*◌, ◌<◌}
use Rattle.reply.specs.inner.Decode.{step_width}
use Rattle.reply.specs.inner.Checked.{StepGood}
use Rattle.reply.proofs.judging.steps_ok.Given as goal

abbrev pub invariant-loop-i : goal.invariant-loop-i
invariant-loop-i l = (j : ℕ) → j < l.i → StepGood l.w l.s l.vars j (l.at + step_width l.w * j)
