use Prim.Native.Nat.{◌+◌, ◌*◌}
use Rattle.formula.specs.inner.Flat.{or_into, lift_f}
use Rattle.formula.proofs.Grows.{or_over}
use Rattle.formula.proofs.Stops.{does_stop, does_along}
use Rattle.formula.proofs.Memory.lifted.Goals as goal

pub returns-in_err-or_into-clause-does : goal.returns-in_err-or_into-clause-does
unfolding lift_f
returns-in_err-or_into-clause-does c = does_stop _ _ _ c.from_residual.ensures (or_over _ _ _ _ c.in_err-or_into.ensures.does)

pub returns-clause-does : goal.returns-clause-does
unfolding lift_f
returns-clause-does c =
    let a = c.args in
    does_along _ _ (λ i. or_into (c.in_ok-or_into.ensures.same.1 i) (2 * a.self.now.cells + a.up + a.e) (2 * a.self.now.cells + a.at + a.e) (c.in_ok-or_into.ensures.does.is i)) c.or_into-2.ensures.does
