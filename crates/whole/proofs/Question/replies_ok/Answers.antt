-- `whole::Question::replies_ok` meets its contract.
use Rattle.std.proofs.Common.{rules}
use Rattle.meaning.proofs.Says.{says_at}
use Rattle.meaning.proofs.Ranges.{says_below, says_each}
use Rattle.whole.proofs.Question.replies_ok.Goals as goal

pub returns : goal.returns
returns c = says_each (λ f h. h.0) (says_below _ c.all.ensures.ran (λ x b q k. (search rules, search (rules, says_at))))
