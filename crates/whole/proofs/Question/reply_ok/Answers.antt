-- `whole::Question::reply_ok` meets its contract.
use Rattle.std.proofs.Common.{rules, refl}
use Rattle.meaning.proofs.Says.{says_false, says_given, says_true, says_at}
use Rattle.meaning.specs.Says.{aye}
use Rattle.whole.specs.Whole.{start_of, size_of}
use Rattle.whole.proofs.Pieces.{judged_own, part_is}
use Rattle.whole.proofs.Question.reply_ok.Goals as goal
use Rattle.meaning.proofs.Numbers.{says_eqb}

pub returns-then-not-is_heard : goal.returns-then-not-is_heard
returns-then-not-is_heard c = aye (λ h. absurd (says_false c.is_heard.ensures c.if-not-is_heard.true h))

pub returns : goal.returns
returns c =
    let q = c.args.self.now in
    says_given (says_true c.is_heard.ensures c.if-not-is_heard.false)
    (rw (part_is q c.args.store.now c.args.f (start_of q c.args.f) (size_of q c.args.f) refl refl) at
    (judged_own q _ c.args.f c.judge.result c.judge.ensures.number c.judge.ensures.head c.is_ok_and.ensures (λ h k. search (rules, says_at, says_eqb))))
