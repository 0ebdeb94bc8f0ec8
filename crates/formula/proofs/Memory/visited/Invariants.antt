use Rattle.formula.specs.inner.Flat.{entry_f, visit_f}
use Rattle.formula.specs.inner.Memory.{state, fragment_of}
use Rattle.formula.proofs.Loops.{Going}
use Rattle.formula.proofs.Memory.visited.Given as goal

abbrev pub invariant-loop-e : goal.invariant-loop-e
invariant-loop-e l = Going l.initial.self l.self (entry_f l.source.list l.source.text.now (fragment_of l.source) l.initial.self.cells l.at l.k) l.e l.source.list.count (visit_f l.source.list l.source.text.now (fragment_of l.source) l.initial.self.cells l.at l.k (state l.initial.self))
