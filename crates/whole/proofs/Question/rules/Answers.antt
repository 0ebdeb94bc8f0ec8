-- `whole::Question::rules` meets its contract.
use Rattle.std.proofs.Common.{arith}
use Rattle.meaning.proofs.Says.{says_iff}
use Rattle.whole.proofs.Question.rules.Goals as goal
use Rattle.meaning.proofs.Numbers.{says_leb}

pub returns-then-self-le32 : goal.returns-then-self-le32
returns-then-self-le32 c = says_iff (λ k. record { few_parts = c.if-self-le32.true; keeps = k }) (λ r. r.keeps) c.rules_ok.ensures

pub returns-else-self-le32 : goal.returns-else-self-le32
returns-else-self-le32 c = says_iff (λ l. absurd (omega arith)) (λ r. r.few_parts) (says_leb _ _)
