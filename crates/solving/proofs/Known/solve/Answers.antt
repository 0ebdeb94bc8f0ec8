-- `solving::Known::solve` meets its contract.
use Rattle.solving.proofs.Answers.{solves_row}
use Rattle.solving.proofs.Known.solve.Goals as goal

pub returns : goal.returns
returns c =
    solves_row c.args.bytes.now c.requires.0 c.args.self.now.rows c.gather.new.self.vars c.step_values.new.self.values c.results.new.self.rows c.args.f c.gather.ensures.vars c.step_values.ensures.values
    (rw (c.step_values.ensures.rows, c.step_values.ensures.vars, c.gather.ensures.rows) at c.results.ensures)
