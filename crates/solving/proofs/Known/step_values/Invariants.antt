-- `solving::Known::step_values` meets its contract.
use mathlib.Core.Path.{◌≡◌}
use mathlib.Core.List.{[]}
use lib.ListN.{length, take}
use Rattle.meaning.specs.Algebra.{bool}
use Rattle.meaning.specs.Formula.{step_values}
use Rattle.meaning.specs.Reply.{tabulated}
use Rattle.solving.specs.inner.Values.{truth_in}
use Rattle.solving.proofs.Replies.{steps_from}
use Rattle.solving.proofs.Known.step_values.Given as goal

abbrev pub invariant-loop-i : goal.invariant-loop-i
invariant-loop-i l = record {
  rows : l.self.rows ≡ l.initial.self.rows;
  vars : l.self.vars ≡ l.initial.self.vars;
  long : length l.self.values ≡ 4096;
  values : take l.i l.self.values ≡ step_values bool (truth_in l.initial.self.vars) [] (tabulated l.i 0 (steps_from l.r.bytes.now l.at));
}
