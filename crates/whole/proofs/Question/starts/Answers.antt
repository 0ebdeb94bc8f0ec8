-- `whole::Question::starts` meets its contract.
use Rattle.std.proofs.Common.{◌≡◌, rules}
use Rattle.meaning.proofs.Says.{says_iff, says_at}
use Rattle.meaning.proofs.Ranges.{says_some}
use Rattle.whole.specs.Whole.{Heard, start_of}
use Rattle.whole.proofs.Question.starts.Goals as goal

pub returns : goal.returns
returns c =
    let q = c.args.self.now in
    says_iff (λ t. record { part = t.0; is = t.2.0; here = t.2.1 }) (λ s. (s.part, s.is.0, (s.is, s.here)))
    (says_some (λ g. Heard q g × (start_of q g ≡ c.args.at)) c.any.ensures.ran (λ x b q k. (search rules, search (rules, says_at))))
