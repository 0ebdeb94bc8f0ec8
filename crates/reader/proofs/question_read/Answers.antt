-- `reader::question_read` meets its contract. Assumes nothing.
use mathlib.Core.Path.{sym}
use native.Mathlib.Omega.{arith}
use borrow.Author.Tests.{eqb-true}
use Rattle.reader.proofs.Outcome.{sized, wrong_length, not_grammar, nothing, not_ended, Ended, ended, too_deep, too_many, all_read}
use Rattle.reader.proofs.question_read.Goals as goal
use Rattle.reader.proofs.question_read.Goals.{then-is_empty-via-then-is_empty, then-is_empty-via-else-is_empty+then-text-gt255, then-is_none-via-then-is_none, then-is_none-via-else-is_none+then-s-text, Else-s-text}

pub returns-then-is_empty : goal.returns-then-is_empty
returns-then-is_empty c = wrong_length (λ h. elim c.then-is_empty.branch [
  | then-is_empty-via-then-is_empty w ↦ omega (arith, h.0, eqb-true _ 0 (sym w.if-is_empty.ensures))
  | then-is_empty-via-else-is_empty+then-text-gt255 w ↦ omega (arith, h.1, w.if-text-gt255.true)
])

pub returns-then-is_none : goal.returns-then-is_none
returns-then-is_none c = not_grammar (sized _ (sym c.if-is_empty.ensures) c.if-text-gt255.false) (elim c.then-is_none.branch [
  | then-is_none-via-then-is_none w ↦ nothing _ c.args.text c.question.new.s c.question.result w.if-is_none.ensures c.question.ensures
  | then-is_none-via-else-is_none+then-s-text w ↦ not_ended _ c.args.text c.question.new.s c.question.result w.if-is_none.ensures c.question.ensures w.if-s-text.true
])

read : (c : Else-s-text) → Ended c.args.text.now c.args.text c.question.new.s
read c = ended _ c.args.text c.question.new.s (sized _ (sym c.if-is_empty.ensures) c.if-text-gt255.false) c.question.result c.if-is_none.ensures c.question.ensures c.if-s-text.false

pub returns-then-s-gt12 : goal.returns-then-s-gt12
returns-then-s-gt12 c = too_deep (read (goal.at.returns-then-s-gt12 c).Else-s-text) (omega arith)

pub returns-then-s-gt32 : goal.returns-then-s-gt32
returns-then-s-gt32 c = too_many (read (goal.at.returns-then-s-gt32 c).Else-s-text) c.if-s-gt12.false (omega arith)

pub returns : goal.returns
returns c = all_read (read (goal.at.returns c).Else-s-text) c.if-s-gt12.false (omega arith)
