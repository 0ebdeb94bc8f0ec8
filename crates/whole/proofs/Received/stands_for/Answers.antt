-- `whole::Received::stands_for` meets its contract.
use Rattle.std.proofs.Common.{◌≡◌, rules}
use Rattle.meaning.proofs.Says.{says_iff, says_at}
use Rattle.meaning.proofs.Ranges.{says_some}
use Rattle.reply.specs.inner.Decode.{in_at}
use Rattle.whole.proofs.Received.stands_for.Goals as goal
use Rattle.meaning.proofs.Numbers.{says_eqb}

pub returns : goal.returns
returns c =
    let r = c.args.self.now in
    says_iff (λ t. record { at = t.0; less = t.1; is = t.2 }) (λ t. (t.at, t.less, t.is))
    (says_some (λ i. in_at r.bytes.now i ≡ c.args.g) c.any.ensures.ran (λ x b q k. (search rules, search (rules, says_at, says_eqb))))
