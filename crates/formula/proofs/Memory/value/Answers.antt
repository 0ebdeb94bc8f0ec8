use native.Mathlib.Omega.{arith}
use Rattle.question.specs.Listed.{entry_of}
use Rattle.formula.proofs.KindTests.{told_value, child_value, below_value, both_value}
use Rattle.formula.proofs.Stops.{room_of, gives_along}
use Rattle.formula.proofs.Memory.value.Goals as goal

pub returns-in-Itself-clause-gives : goal.returns-in-Itself-clause-gives
returns-in-Itself-clause-gives c = record { is = rw (← c.tested.ensures) (told_value _ _ _ _ _ _ _ c.args.x.kind c.in-Itself.is); count = (room_of c.args.self.now).count }

pub returns-in-Child-clause-gives : goal.returns-in-Child-clause-gives
returns-in-Child-clause-gives c = record { is = child_value _ _ _ _ _ _ _ c.args.x.kind c.in-Child.is (omega arith); count = (room_of c.args.self.now).count }

pub returns-in-Below-clause-gives : goal.returns-in-Below-clause-gives
returns-in-Below-clause-gives c = record { is = below_value _ _ _ _ _ _ _ c.args.x.kind c.in-Below.is (omega arith); count = (room_of c.args.self.now).count }

pub returns-in-Not-clause-gives : goal.returns-in-Not-clause-gives
unfolding entry_of
returns-in-Not-clause-gives c = rw c.in-Not.is c.negated.ensures.gives

pub returns-in-Or-clause-gives : goal.returns-in-Or-clause-gives
unfolding entry_of
returns-in-Or-clause-gives c = rw c.in-Or.is c.either.ensures.gives

pub returns-in-At-clause-gives : goal.returns-in-At-clause-gives
returns-in-At-clause-gives c = gives_along _ _ (both_value _ _ _ _ _ _ _ c.args.x.kind c.in-At.is) c.both.ensures.gives
