use mathlib.Core.Path.{ap}
use native.Mathlib.Omega.{arith}
use borrow.Author.Rules.{rules}
use Rattle.formula.specs.inner.Flat.{put_at, or_into}
use Rattle.formula.proofs.Stops.{does_stop}
use Rattle.formula.proofs.Memory.or_into.Goals as goal

pub returns-in_err-self-clause-does : goal.returns-in_err-self-clause-does
unfolding or_into
returns-in_err-self-clause-does c = does_stop _ _ _ c.from_residual.ensures c.in_err-self.ensures.gives

pub bounds-self-i-2 : goal.bounds-self-i-2
bounds-self-i-2 c = omega (arith, c.either.ensures.same.2)

pub returns-clause-does : goal.returns-clause-does
unfolding or_into
returns-clause-does c = record { is = ap (put_at c.args.i) c.in_ok-self.ensures.gives.is; count = search rules }
