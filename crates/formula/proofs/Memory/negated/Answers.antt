use borrow.Author.Tests.{eq-eqb, ne_eqb}
use borrow.Author.Rules.{rules}
use native.Mathlib.Omega.{arith}
use Rattle.formula.specs.inner.Flat.{not_f}
use Rattle.formula.proofs.Memory.negated.Goals as goal

pub returns-in-0-clause-gives : goal.returns-in-0-clause-gives
unfolding not_f
returns-in-0-clause-gives c = record { is = simp (eq-eqb c.args.a 0 c.in-0.is); count = search rules }

pub returns-in-4096-clause-gives : goal.returns-in-4096-clause-gives
unfolding not_f
returns-in-4096-clause-gives c = record { is = simp (ne_eqb c.args.a 0 (λ e. omega arith), eq-eqb c.args.a 4096 c.in-4096.is); count = search rules }

pub returns-in_default-clause-gives : goal.returns-in_default-clause-gives
unfolding not_f
returns-in_default-clause-gives c = simp (ne_eqb c.args.a 0 (λ e. omega arith), ne_eqb c.args.a 4096 (λ e. omega arith)) c.added.ensures.gives
