-- `whole::Question::apart` meets its contract.
use Rattle.std.proofs.Common.{◌-◌, inl, inr, ⊎_elim, arith}
use Rattle.std.proofs.Common.{get_or}
use Rattle.meaning.proofs.Says.{says_false, says_given, says_iff, says_true}
use Rattle.meaning.specs.Says.{aye}
use Rattle.whole.proofs.Question.apart.Goals as goal
use Rattle.whole.proofs.Question.apart.Goals.{then-g-f-via-then-g-f, then-g-f-via-else-g-f+then-not-is_heard}
use Rattle.meaning.proofs.Numbers.{says_leb}

pub returns-then-g-f : goal.returns-then-g-f
returns-then-g-f c = aye (λ h n. elim c.then-g-f.branch [ then-g-f-via-then-g-f w ↦ absurd (n w.if-g-f.true) | then-g-f-via-else-g-f+then-not-is_heard w ↦ absurd (says_false w.is_heard.ensures w.if-not-is_heard.true h) ])

pub returns-then-a-self : goal.returns-then-a-self
returns-then-a-self c = says_iff (λ z h n. inl z) (λ k. c.if-a-self.true) (says_leb _ _)

pub returns-then-b-a : goal.returns-then-b-a
returns-then-b-a c =
    let q = c.args.self.now in
    says_given (says_true c.is_heard.ensures c.if-not-is_heard.false) (says_given c.if-g-f.false
    (says_iff (λ z. inr (omega (arith, z))) (λ k. ⊎_elim (λ z. absurd (omega (arith, z))) (λ z. omega (arith, z)) k) (says_leb (get_or q.size c.args.g 0) (get_or q.place c.args.f 0 - get_or q.place c.args.g 0))))

pub returns-else-b-a : goal.returns-else-b-a
returns-else-b-a c =
    let q = c.args.self.now in
    says_given (says_true c.is_heard.ensures c.if-not-is_heard.false) (says_given c.if-g-f.false
    (says_iff (λ z. absurd (omega (arith, z))) (λ k. ⊎_elim (λ z. absurd (omega (arith, z))) (λ z. omega (arith, z)) k) (says_leb (get_or q.place c.args.g 0) (get_or q.place c.args.f 0))))
