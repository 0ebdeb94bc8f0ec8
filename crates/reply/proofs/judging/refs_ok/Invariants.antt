-- `reply::judging::refs_ok` meets its contract.
use Prim.Native.Nat.{ℕ, ◌+◌, ◌*◌, ◌<◌}
use Rattle.reply.specs.inner.Decode.{ref_width}
use Rattle.reply.specs.inner.Checked.{RefGood}
use Rattle.reply.proofs.judging.refs_ok.Given as goal

abbrev pub invariant-loop-e : goal.invariant-loop-e
invariant-loop-e l = (j : ℕ) → j < l.e → RefGood l.w l.s l.counts.vars l.counts.steps (l.at + ref_width l.w * j)
