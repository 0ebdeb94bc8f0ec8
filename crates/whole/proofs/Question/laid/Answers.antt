-- `whole::Question::laid` meets its contract.
use Rattle.std.proofs.Common.{arith}
use Rattle.meaning.proofs.Says.{says_iff, says_true, says_false}
use Rattle.meaning.specs.Says.{nay}
use Rattle.whole.proofs.Pieces.{laid_tested, laid_says}
use Rattle.whole.proofs.Question.laid.Goals as goal

pub returns-then-store-used : goal.returns-then-store-used
returns-then-store-used c = nay (λ l. omega (arith, l.fits))

pub replies_ok-requires-clause-inside : goal.replies_ok-requires-clause-inside
replies_ok-requires-clause-inside c = λ f h. omega (arith, ((says_true c.all_tiles.ensures c.if-all_tiles.true).each f h).inside)

pub returns-then-all_tiles : goal.returns-then-all_tiles
returns-then-all_tiles c = laid_says c.args.self.now c.args.used c.args.store.now c.if-store-used.false (says_true c.all_tiles.ensures c.if-all_tiles.true) c.replies_ok.ensures

pub returns-else-all_tiles : goal.returns-else-all_tiles
returns-else-all_tiles c =
    says_iff (λ t. absurd (says_false c.all_tiles.ensures c.if-all_tiles.false t)) (laid_tested c.args.self.now c.args.used c.args.store.now) c.all_tiles.ensures
