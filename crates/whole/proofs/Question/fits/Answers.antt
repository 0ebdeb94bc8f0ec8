-- `whole::Question::fits` meets its contract.
use Rattle.std.proofs.Common.{arith}
use Rattle.meaning.proofs.Says.{says_iff, says_true, says_false}
use Rattle.meaning.specs.Says.{nay}
use Rattle.whole.proofs.Question.fits.Goals as goal
use Rattle.whole.proofs.Question.fits.Goals.{then-self-head-via-then-self-head, then-self-head-via-else-self-head+then-head-self}

pub returns-then-self-head : goal.returns-then-self-head
returns-then-self-head c = nay (λ p. elim c.then-self-head.branch [
  | then-self-head-via-then-self-head w ↦ omega (arith, p.fragment_in)
  | then-self-head-via-else-self-head+then-head-self w ↦ w.if-head-self.true p.entries_same
])

pub returns-then-only_children : goal.returns-then-only_children
returns-then-only_children c =
    says_iff (λ a. record { fragment_in = omega arith; entries_same = omega arith; only = says_true c.only_children.ensures c.if-only_children.true; all = a }) (λ p. p.all) c.all_children.ensures

pub returns-else-only_children : goal.returns-else-only_children
returns-else-only_children c = says_iff (λ o. absurd (says_false c.only_children.ensures c.if-only_children.false o)) (λ p. p.only) c.only_children.ensures
