use mathlib.Core.Path.{◌≡◌}
use Prim.Native.Nat.{◌-◌}
use Rattle.formula.specs.inner.Flat.{across, var_f, stand_f}
use Rattle.formula.specs.inner.Memory.{Same}
use Rattle.formula.proofs.Memory.stood.Given as goal

abbrev pub invariant-loop-e : goal.invariant-loop-e
invariant-loop-e l = record {
  same : Same l.initial.self l.self;
  steps : l.self.steps ≡ l.initial.self.steps;
  memory : across (var_f l.initial.self.cells l.at l.count l.first) l.e (l.count - l.e) l.self.work.now ≡ stand_f l.initial.self.cells l.at l.count l.first l.initial.self.work.now;
}
