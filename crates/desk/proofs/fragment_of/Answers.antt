-- `desk::fragment_of` meets its contract.
use Rattle.std.proofs.Common.{refl, subst, arith}
use Rattle.std.proofs.lemmas.Result.{err_from_is_err_and}
use Rattle.meaning.proofs.Says.{says_false, says_true}
use Rattle.meaning.specs.Refused.{refused, passed, granted}
use Rattle.whole.specs.inner.Steps.{Judged}
use Rattle.whole.proofs.Pieces.{fragment_is}
use Rattle.desk.proofs.Calling.{number_some, unfit_number, ready_open, why_early, why_then, judging_refused, judging_passed, not_heard, heard_before}
use Rattle.desk.proofs.fragment_of.Goals as goal

pub returns-in_err-ready-clause-number : goal.returns-in_err-ready-clause-number
returns-in_err-ready-clause-number c =
    let y = err_from_is_err_and c.from_residual.result c.from_residual.ensures.1 in
    rw (y.1, y.2) (why_early c.in_err-ready.ensures (number_some _))

pub judge-requires : goal.judge-requires
judge-requires c = (ready_open c.in_ok-ready.ensures refl).rules.few_parts

pub returns-in_err-fragment-clause-number : goal.returns-in_err-fragment-clause-number
returns-in_err-fragment-clause-number c =
    let q = c.args.desk.question in
    let s = c.args.s.now in
    let y = err_from_is_err_and c.from_residual-in_err-fragment.result c.from_residual-in_err-fragment.ensures.1 in
    rw (y.1, y.2) (why_then c.in_ok-ready.ensures refl (judging_refused (subst (Judged q s) (unfit_number _) c.in_err-fragment.ensures.number) (number_some _)))

pub is_heard-requires : goal.is_heard-requires
is_heard-requires c = c.in_ok-fragment.ensures.head.fragment_lt

pub returns-then-is_heard-clause-number : goal.returns-then-is_heard-clause-number
returns-then-is_heard-clause-number c =
    let j = c.in_ok-fragment.ensures in
    why_then c.in_ok-ready.ensures refl (judging_passed j.number refl (refused (heard_before c.args.desk.question c.args.s.now _ j.head j.number refl (says_true c.is_heard.ensures c.if-is_heard.true))))

pub returns-then-store-desk-clause-number : goal.returns-then-store-desk-clause-number
returns-then-store-desk-clause-number c =
    let j = c.in_ok-fragment.ensures in
    let o = ready_open c.in_ok-ready.ensures refl in
    why_then c.in_ok-ready.ensures refl (judging_passed j.number refl
    (passed (not_heard c.args.desk.question c.args.s.now _ j.head (says_false c.is_heard.ensures c.if-is_heard.false)) (refused (λ l. omega (arith, o.laid.fits, c.if-store-desk.true, l)))))

pub returns-clause-number : goal.returns-clause-number
returns-clause-number c =
    let j = c.in_ok-fragment.ensures in
    let o = ready_open c.in_ok-ready.ensures refl in
    why_then c.in_ok-ready.ensures refl (judging_passed j.number refl
    (passed (not_heard c.args.desk.question c.args.s.now _ j.head (says_false c.is_heard.ensures c.if-is_heard.false)) (passed (omega (arith, o.laid.fits, c.if-store-desk.false)) granted)))

pub returns-clause-fragment : goal.returns-clause-fragment
returns-clause-fragment c = (c.in_ok-fragment.ensures.head.fragment_lt, λ r i. fragment_is c.args.desk.question c.args.s.now r i _ c.in_ok-fragment.ensures.head)
