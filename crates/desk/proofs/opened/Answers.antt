-- `desk::opened` meets its contract.
use Rattle.std.proofs.Common.{arith}
use Rattle.meaning.proofs.Says.{says_false, says_true}
use Rattle.desk.proofs.Calling.{rules_of, opens_10, opens_11, opens}
use Rattle.desk.proofs.opened.Goals as goal

pub returns-then-not-rules_ok : goal.returns-then-not-rules_ok
returns-then-not-rules_ok c = opens_10 c.args.desk c.args.layout.now c.args.entries c.args.number (λ k. says_false c.rules_ok.ensures c.if-not-rules_ok.true (rules_of k (omega arith)))

pub returns-then-number-desk : goal.returns-then-number-desk
returns-then-number-desk c =
    opens_11 c.args.desk c.args.layout.now c.args.entries c.args.number (rules_of (says_true c.rules_ok.ensures c.if-not-rules_ok.false) (omega arith)) (omega (arith, c.from-number.ensures))

pub opened_as-requires : goal.opened_as-requires
opened_as-requires c = (says_true c.rules_ok.ensures c.if-not-rules_ok.false).layout_keeps.most

pub returns : goal.returns
returns c =
    opens c.args.desk c.args.layout.now c.args.entries c.args.number c.opened_as.result (rules_of (says_true c.rules_ok.ensures c.if-not-rules_ok.false) (omega arith)) (omega (arith, c.from-number.ensures))
    (rw c.from-number.ensures at c.opened_as.ensures)
