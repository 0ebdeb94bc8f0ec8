-- `reply::Reference::is_operand` meets its contract.
use mathlib.Core.Path.{sym, ◌∙◌}
use mathlib.Core.Bool.{true≢false}
use Rattle.reply.proofs.Reference.is_operand.Goals.{in-Var, in_default}
use Rattle.reply.proofs.Judge.{operand_kind, says_operand, says_no_operand}
use Rattle.reply.proofs.Reference.is_operand.Goals as goal

pub returns-then-matches : goal.returns-then-matches
returns-then-matches c = elim c.match-matches.branch [
  | in-Var w ↦ says_operand _ _ _ _ (operand_kind _ w.in-Var.is) c.is_result.ensures
  | in_default w ↦ absurd (true≢false (sym c.if-matches.true ∙ w.matches-is))
]

pub returns-else-matches : goal.returns-else-matches
returns-else-matches c = elim c.match-matches.branch [
  | in-Var w ↦ absurd (true≢false (sym w.matches-is ∙ c.if-matches.false))
  | in_default w ↦ rw c.if-matches.false (says_no_operand _ _ _ _ w.in_default.not-Var w.in_default.not-Step)
]
