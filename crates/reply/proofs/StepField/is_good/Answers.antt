-- `reply::StepField::is_good` meets its contract.
use native.Mathlib.Omega.{arith}
use mathlib.Core.Logic.{⊎_elim}
use Rattle.meaning.specs.Says.{nay}
use Rattle.meaning.proofs.Says.{says_true, says_false}
use Rattle.reply.specs.inner.Checked.{StepOk}
use Rattle.reply.proofs.Judge.{step_first, step_low, step_not}
use Rattle.reply.proofs.StepField.is_good.Goals as goal

pub returns-in_default : goal.returns-in_default
unfolding StepOk
returns-in_default c = rw c.in_default.is (nay (λ h. h))

pub returns-in-And : goal.returns-in-And
returns-in-And c =
    let l = says_true c.is_operand.ensures c.if-is_operand.true in
    let r = c.is_operand-in-And.ensures in
    rw c.in-Some.is (⊎_elim (λ e. rw e (step_low _ _ _ _ _ _ _ (omega arith) l r)) (λ e. rw e (step_low _ _ _ _ _ _ _ (omega arith) l r)) c.in-And.is)

pub returns-in-Not : goal.returns-in-Not
returns-in-Not c = rw (c.in-Some.is, c.in-Not.is) (step_not _ _ _ _ _ _ (says_true c.is_operand.ensures c.if-is_operand.true) c.is_zero.ensures)

pub returns-else-is_operand : goal.returns-else-is_operand
returns-else-is_operand c = rw c.if-is_operand.false (nay (λ h. says_false c.is_operand.ensures c.if-is_operand.false (step_first _ _ _ _ _ _ _ h)))
