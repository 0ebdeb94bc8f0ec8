use native.Mathlib.Omega.{arith}
use lib.ListN.{length-set}
use borrow.Author.Rules.{rules}
use Rattle.formula.specs.inner.Flat.{enter_f}
use Rattle.formula.proofs.Grows.{join_over}
use Rattle.formula.proofs.Stops.{does_stop, then_stops, then_is}
use Rattle.formula.proofs.Memory.entered.Goals as goal

pub returns-in_err-v-clause-does : goal.returns-in_err-v-clause-does
unfolding enter_f
returns-in_err-v-clause-does c = does_stop _ _ _ c.from_residual.ensures (join_over _ _ _ _ _ _ c.in_err-v.ensures.gives)

pub bounds-self-lower : goal.bounds-self-lower
bounds-self-lower c = omega (arith, c.value.ensures.same.2)

pub returns-in_err-d-clause-does : goal.returns-in_err-d-clause-does
unfolding enter_f
returns-in_err-d-clause-does c = does_stop _ _ _ c.from_residual-in_err-d.ensures (then_stops _ _ _ c.in_ok-v.ensures.same.1 c.in_ok-v.ensures.gives.is c.in_err-d.ensures.gives)

pub bounds-self-at : goal.bounds-self-at
bounds-self-at c = omega (arith, c.in_ok-v.ensures.same.2, c.in_ok-d.ensures.same.2)

pub bounds-self-lower-2 : goal.bounds-self-lower-2
bounds-self-lower-2 c = simp length-set (omega (arith, c.in_ok-v.ensures.same.2, c.in_ok-d.ensures.same.2))

pub returns-clause-does : goal.returns-clause-does
unfolding enter_f
returns-clause-does c = record { is = then_is _ _ _ c.in_ok-v.ensures.same.1 c.in_ok-v.ensures.gives.is c.in_ok-d.ensures.gives.is; count = search rules }
