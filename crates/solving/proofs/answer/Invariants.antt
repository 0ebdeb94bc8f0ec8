-- `solving::answer` meets its contract.
use Rattle.solving.proofs.Answers.{Left}
use Rattle.solving.proofs.answer.Given as goal

abbrev pub invariant-loop-f : goal.invariant-loop-f
invariant-loop-f l = Left l.q l.store l.f l.known.rows
