-- `reply::judging::ins_ok` meets its contract.
use Prim.Native.Nat.{ℕ, ◌<◌}
use Rattle.reply.specs.inner.Checked.{InGood}
use Rattle.reply.proofs.Judge.{Met}
use Rattle.reply.proofs.judging.ins_ok.Given as goal

abbrev pub invariant-loop-i : goal.invariant-loop-i
invariant-loop-i l = Met l.s l.i l.met × ((j : ℕ) → j < l.i → InGood l.s l.fragment j)
