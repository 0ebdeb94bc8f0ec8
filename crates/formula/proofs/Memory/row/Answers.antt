use borrow.Author.Tests.{eq-eqb, ne_eqb}
use borrow.Author.Rules.{rules}
use Rattle.meaning.proofs.Says.{says_true, says_false}
use Rattle.fragment.proofs.Rules.{sound_real}
use Rattle.formula.specs.inner.Flat.{st, row_f}
use Rattle.formula.specs.inner.Memory.{fragment_of}
use Rattle.formula.proofs.Memory.row.Goals as goal

pub returns-then-is-clause-does : goal.returns-then-is-clause-does
unfolding row_f
returns-then-is-clause-does c = record { is = simp (eq-eqb _ _ (says_true c.is.ensures c.if-is.true)) (λ i. st (c.stood.ensures.memory i) (c.stood.ensures.steps i)); count = search rules }

pub visited-requires-clause-real_row : goal.visited-requires-clause-real_row
visited-requires-clause-real_row c = sound_real _ (fragment_of c.args.source.now) c.requires.ruled.sound _ c.requires.k_in_bounds (says_false c.is.ensures c.if-is.false)

pub returns-else-is-clause-does : goal.returns-else-is-clause-does
unfolding row_f
returns-else-is-clause-does c = simp (ne_eqb _ _ (says_false c.is.ensures c.if-is.false)) c.visited.ensures.does
