-- `desk::asked_of` meets its contract.
use Rattle.std.proofs.Common.{refl, sym, ◌∙◌}
use Rattle.meaning.proofs.Says.{says_false, says_true}
use Rattle.desk.proofs.Calling.{ready_open, asks, says_waiting, answers}
use Rattle.desk.proofs.asked_of.Goals as goal

pub all_heard-requires : goal.all_heard-requires
all_heard-requires c = (ready_open c.in_ok-ready.ensures refl).rules.few_parts

pub returns-then-not-all_heard : goal.returns-then-not-all_heard
returns-then-not-all_heard c = asks c.in_ok-ready.ensures refl (says_waiting c.args.desk.question c.args.store.now (says_false c.all_heard.ensures c.if-not-all_heard.true))

pub answer-requires : goal.answer-requires
answer-requires c = (ready_open c.in_ok-ready.ensures refl, says_true c.all_heard.ensures c.if-not-all_heard.false)

pub returns-then-answer : goal.returns-then-answer
returns-then-answer c =
    asks c.in_ok-ready.ensures refl (answers c.args.desk.question c.args.store.now (says_true c.all_heard.ensures c.if-not-all_heard.false) _ (sym c.if-answer.true ∙ c.answer.ensures))

pub returns-else-answer : goal.returns-else-answer
returns-else-answer c =
    asks c.in_ok-ready.ensures refl (answers c.args.desk.question c.args.store.now (says_true c.all_heard.ensures c.if-not-all_heard.false) _ (sym c.if-answer.false ∙ c.answer.ensures))
