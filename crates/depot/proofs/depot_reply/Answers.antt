use Rattle.fragment.specs.Lent.{lent}
use Rattle.depot.specs.Answer.{call}
use Rattle.depot.proofs.Answers.{answered_early, answered_late}
use Rattle.depot.proofs.depot_reply.Goals as goal

pub returns-in_err-check : goal.returns-in_err-check
returns-in_err-check c =
    let a = c.args in
    answered_early (call a.list a.text.now (lent a.rows.now a.pool.now) a.fragment a.number) a.work.now a.out.now _ _ c.from_residual.ensures c.in_err-check.ensures

pub returns : goal.returns
returns c =
    let a = c.args in
    answered_late (call a.list a.text.now (lent a.rows.now a.pool.now) a.fragment a.number) a.work.now a.out.now _ c.reply-outcome.new.work c.in_ok-check.ensures c.reply-outcome.ensures c.reply-outcome.auto.work (c.fill.ensures.after (λ y e. e))
