use native.Mathlib.Omega.{arith}
use lib.ListN.{length-set}
use Rattle.formula.proofs.Loops.{onward, arrived, var_is}
use Rattle.formula.proofs.Memory.stood.Goals as goal

pub loop-e-preserved : goal.loop-e-preserved
loop-e-preserved c =
    let s = c.loop-e.invariant.same in
    record {
      same = (s.0, s.1, simp length-set s.2);
      steps = c.loop-e.invariant.steps;
      memory = onward _ _ _ c.loop-e-test.true c.loop-e.invariant.memory (var_is c.args.self.now.cells c.args.at c.args.count c.args.first c.loop-e.e c.loop-e.self.work.now s.1 (omega arith) (omega arith));
    }

pub returns-clause-memory : goal.returns-clause-memory
returns-clause-memory c = arrived _ _ _ c.loop-e-test.false c.loop-e.invariant.memory
