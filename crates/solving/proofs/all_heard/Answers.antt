-- `solving::all_heard` meets its contract.
use native.Mathlib.Omega.{arith}
use borrow.Author.Rules.{rules}
use Rattle.meaning.proofs.Says.{says_iff}
use Rattle.meaning.proofs.Ranges.{says_all}
use Rattle.whole.specs.Whole.{Heard}
use Rattle.solving.proofs.all_heard.Goals as goal

pub returns : goal.returns
returns c = says_iff (λ w f l. w f (omega arith) l) (λ w f a l. w f l) (says_all _ _ _ _ (λ f. Heard c.args.q f) c.all.ensures.ran (λ x b q k. search rules))
