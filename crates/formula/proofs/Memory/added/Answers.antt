use native.Mathlib.Omega.{arith}
use borrow.Author.Tests.{lt-ltb, le-ltb}
use borrow.Author.Rules.{rules}
use Rattle.formula.specs.inner.Flat.{add_f}
use Rattle.formula.proofs.Joins.{tag_is}
use Rattle.formula.proofs.Memory.added.Goals as goal

pub returns-then-self-ge-MOST_STEPS-clause-gives : goal.returns-then-self-ge-MOST_STEPS-clause-gives
unfolding add_f
returns-then-self-ge-MOST_STEPS-clause-gives c = simp (le-ltb c.args.self.now.steps 4096 (omega (arith, c.if-self-ge-MOST_STEPS.true)))

pub returns-clause-gives : goal.returns-clause-gives
unfolding add_f
returns-clause-gives c = record { is = simp (tag_is c.args.op, lt-ltb c.args.self.now.steps 4096 (omega (arith, c.if-self-ge-MOST_STEPS.false))); count = search rules }
