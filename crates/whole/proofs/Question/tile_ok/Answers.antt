-- `whole::Question::tile_ok` meets its contract.
use Rattle.std.proofs.Common.{inl, inr, ⊎_elim, arith}
use Rattle.meaning.proofs.Says.{says_false, says_given, says_iff, says_true}
use Rattle.meaning.specs.Says.{aye, nay}
use Rattle.whole.proofs.Question.tile_ok.Goals as goal
use Rattle.whole.proofs.Question.tile_ok.Goals.{then-used-n-via-then-used-n, then-used-n-via-else-used-n+then-used-n-2}
use Rattle.meaning.proofs.Numbers.{says_eqb}

pub returns-then-not-is_heard : goal.returns-then-not-is_heard
returns-then-not-is_heard c = aye (λ h. absurd (says_false c.is_heard.ensures c.if-not-is_heard.true h))

pub returns-then-used-n : goal.returns-then-used-n
returns-then-used-n c =
    let heard = says_true c.is_heard.ensures c.if-not-is_heard.false in
    nay (λ k. elim c.then-used-n.branch [ then-used-n-via-then-used-n w ↦ omega (arith, (k heard).inside) | then-used-n-via-else-used-n+then-used-n-2 w ↦ omega (arith, (k heard).inside) ])

pub returns-then-a-n : goal.returns-then-a-n
returns-then-a-n c =
    says_given (says_true c.is_heard.ensures c.if-not-is_heard.false)
    (says_iff (λ e. record { inside = omega arith; apart = says_true c.apart_from.ensures c.if-apart_from.true; follows = inl e }) (λ t. c.if-a-n.true) (says_eqb _ _))

pub returns-else-a-n : goal.returns-else-a-n
returns-else-a-n c =
    says_given (says_true c.is_heard.ensures c.if-not-is_heard.false)
    (says_iff (λ z. record { inside = omega arith; apart = says_true c.apart_from.ensures c.if-apart_from.true; follows = inr z })
    (λ t. ⊎_elim (λ e. absurd (c.if-a-n.false e)) (λ s. s) t.follows) c.starts.ensures)

pub returns-else-apart_from : goal.returns-else-apart_from
returns-else-apart_from c =
    says_given (says_true c.is_heard.ensures c.if-not-is_heard.false)
    (says_iff (λ a. absurd (says_false c.apart_from.ensures c.if-apart_from.false a)) (λ t. t.apart) c.apart_from.ensures)
