-- `whole::judge` meets its contract.
use Rattle.std.proofs.Common.{◌≡◌, refl, ap, ◌∙◌, arith}
use Rattle.std.proofs.lemmas.Result.{err_from_is_err_and}
use Rattle.meaning.proofs.Says.{says_true, says_false}
use Rattle.whole.proofs.Pieces.{checked, failed_check, wrong_number, misfit, well}
use Rattle.whole.specs.inner.Steps.{number_of, judge_number}
use Rattle.whole.proofs.judge.Goals as goal

pub returns-in_err-reply_check-clause-number : goal.returns-in_err-reply_check-clause-number
returns-in_err-reply_check-clause-number c =
    let y = err_from_is_err_and c.from_residual.result c.from_residual.ensures.1 in
    let e : judge_number c.from_residual.result ≡ 13 = ap judge_number y.1 ∙ ap number_of y.2 in
    rw e (failed_check c.in_err-reply_check.ensures (λ z. omega (arith, z)))

pub header-head-requires : goal.header-head-requires
header-head-requires c = omega (arith, (checked c.in_ok-reply_check.ensures refl).head)

pub returns-then-from-q-clause-number : goal.returns-then-from-q-clause-number
returns-then-from-q-clause-number c = wrong_number c.in_ok-reply_check.ensures refl c.args.q c.header-head.ensures (λ e. omega (arith, e, c.if-from-q.true, c.from.ensures))

pub invariant_of-fits : goal.invariant_of-fits
invariant_of-fits c = record { room = omega (arith, (checked c.in_ok-reply_check.ensures refl).room, c.header-head.ensures.ins_is); few = c.header-head.ensures.ins_lt }

pub returns-then-not-fits-clause-number : goal.returns-then-not-fits-clause-number
returns-then-not-fits-clause-number c =
    misfit c.in_ok-reply_check.ensures refl c.args.q c.header-head.ensures (omega (arith, c.if-from-q.false, c.from.ensures)) (says_false c.fits.ensures c.if-not-fits.true)

pub returns-clause-number : goal.returns-clause-number
returns-clause-number c = well c.in_ok-reply_check.ensures refl c.args.q c.header-head.ensures (omega (arith, c.if-from-q.false, c.from.ensures)) (says_true c.fits.ensures c.if-not-fits.false)
