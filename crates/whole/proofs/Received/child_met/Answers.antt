-- `whole::Received::child_met` meets its contract.
use Rattle.meaning.proofs.Says.{says_given, says_iff, says_not, says_true, says_false}
use Rattle.whole.proofs.Received.child_met.Goals as goal

pub returns-then-not-is_child : goal.returns-then-not-is_child
returns-then-not-is_child c = says_iff (λ n k. absurd (n k)) (λ f k. says_false c.is_child.ensures c.if-not-is_child.true k) (says_not c.is_child.ensures)

pub returns-else-not-is_child : goal.returns-else-not-is_child
returns-else-not-is_child c = says_given (says_true c.is_child.ensures c.if-not-is_child.false) c.stands_for.ensures
