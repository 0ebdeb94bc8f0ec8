-- `whole::Received::all_children` meets its contract.
use Rattle.std.proofs.Common.{rules}
use Rattle.meaning.proofs.Says.{says_at}
use Rattle.meaning.proofs.Ranges.{says_below, says_each}
use Rattle.whole.proofs.Received.all_children.Goals as goal

pub returns : goal.returns
returns c = says_each (λ g k. k.inside) (says_below _ c.all.ensures.ran (λ x b q k. (search rules, search (rules, says_at))))
