use Rattle.formula.specs.inner.Flat.{lift_f, push_f}
use Rattle.formula.specs.inner.Memory.{state}
use Rattle.formula.proofs.Loops.{Going}
use Rattle.formula.proofs.Memory.pushed.Given as goal

abbrev pub invariant-loop-e : goal.invariant-loop-e
invariant-loop-e l = Going l.initial.self l.self (lift_f l.initial.self.cells l.at l.up) l.e l.count (push_f l.initial.self.cells l.at l.up l.count (state l.initial.self))
