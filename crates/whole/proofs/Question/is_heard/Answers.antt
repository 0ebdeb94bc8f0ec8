-- `whole::Question::is_heard` meets its contract.
use Rattle.std.proofs.Common.{arith}
use Rattle.std.proofs.lemmas.Bool.Decides.{nat_tests}
use Rattle.whole.proofs.Question.is_heard.Goals as goal
use Rattle.meaning.proofs.Says.{says_by}

pub returns : goal.returns
returns c = says_by _ (λ e. (c.requires, λ z. grind (arith, nat_tests))) (λ e h. h.1 (grind (arith, nat_tests)))
