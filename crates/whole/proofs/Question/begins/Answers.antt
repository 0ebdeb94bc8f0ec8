-- `whole::Question::begins` meets its contract.
use Rattle.meaning.proofs.Says.{says_iff, says_true, says_false}
use Rattle.whole.proofs.Question.begins.Goals as goal
use Rattle.meaning.proofs.Numbers.{says_eqb}

pub returns-then-is_heard : goal.returns-then-is_heard
returns-then-is_heard c = says_iff (λ e. (says_true c.is_heard.ensures c.if-is_heard.true, e)) (λ h. h.1) (says_eqb _ _)

pub returns-else-is_heard : goal.returns-else-is_heard
returns-else-is_heard c = says_iff (λ h. absurd (says_false c.is_heard.ensures c.if-is_heard.false h)) (λ h. h.0) c.is_heard.ensures
