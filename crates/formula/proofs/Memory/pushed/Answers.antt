use mathlib.Core.Path.{refl}
use Rattle.formula.specs.inner.Flat.{lift_f}
use Rattle.formula.specs.inner.Memory.{state}
use Rattle.formula.proofs.Grows.{lift_over}
use Rattle.formula.proofs.Loops.{going, going_on, going_stops, gone}
use Rattle.formula.proofs.Stops.{room_of, does_stop}
use Rattle.formula.proofs.Memory.pushed.Goals as goal

pub loop-e-init : goal.loop-e-init
loop-e-init c = going _ _ _ (room_of c.args.self.now) refl

pub returns-in_err-lifted-clause-does : goal.returns-in_err-lifted-clause-does
returns-in_err-lifted-clause-does c =
    let a = c.args in
    let l = c.loop-e in
    does_stop _ _ _ c.from_residual.ensures (going_stops a.self.now l.self _ (lift_over a.self.now.cells a.at a.up) l.e a.count _ c.loop-e-test.true l.invariant (λ i. lift_f (l.invariant.same.1 i) a.at a.up l.e (state l.self)) c.in_err-lifted.ensures.does)

pub loop-e-preserved : goal.loop-e-preserved
loop-e-preserved c =
    let a = c.args in
    let l = c.loop-e in
    going_on a.self.now l.self c.lifted.new.self _ l.e a.count _ c.loop-e-test.true l.invariant (λ i. lift_f (l.invariant.same.1 i) a.at a.up l.e (state l.self)) c.in_ok-lifted.ensures.same c.in_ok-lifted.ensures.does

pub returns-clause-does : goal.returns-clause-does
returns-clause-does c = gone c.args.self.now c.loop-e.self _ c.loop-e.e c.args.count _ c.loop-e-test.false c.loop-e.invariant
