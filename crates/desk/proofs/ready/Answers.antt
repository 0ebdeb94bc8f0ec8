-- `desk::ready` meets its contract.
use Rattle.meaning.proofs.Says.{says_false, says_true}
use Rattle.meaning.specs.Refused.{refused, passed, granted}
use Rattle.desk.proofs.ready.Goals as goal

pub returns-then-not-whole : goal.returns-then-not-whole
returns-then-not-whole c = refused (says_false c.whole.ensures c.if-not-whole.true)

pub returns-then-not-is_open : goal.returns-then-not-is_open
returns-then-not-is_open c = passed (says_true c.whole.ensures c.if-not-whole.false) (refused (says_false c.is_open.ensures c.if-not-is_open.true))

pub returns : goal.returns
returns c = passed (says_true c.whole.ensures c.if-not-whole.false) (passed (says_true c.is_open.ensures c.if-not-is_open.false) granted)
