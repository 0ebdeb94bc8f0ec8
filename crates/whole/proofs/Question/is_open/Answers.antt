-- `whole::Question::is_open` meets its contract.
use Rattle.std.proofs.Common.{arith}
use Rattle.std.proofs.lemmas.Bool.Decides.{nat_tests}
use Rattle.meaning.proofs.Says.{says_by}
use Rattle.whole.proofs.Question.is_open.Goals as goal

pub returns : goal.returns
returns c = says_by _ (λ e z. grind (arith, nat_tests)) (λ e h. h (grind (arith, nat_tests)))
