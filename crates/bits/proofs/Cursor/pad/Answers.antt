use native.Mathlib.Nat.{sub_self}
use mathlib.Core.Bool.{false}
use lib.ListN.{replicate-append-replicate}
use Rattle.bits.proofs.Laws.{wrote_none, wrote_append}
use Prim.Native.Nat.{◌+◌, ◌-◌}
use mathlib.Core.Path.{◌≡◌, refl}
use native.Mathlib.Omega.{arith}
use Rattle.bits.proofs.Cursor.pad.Goals as goal

pub loop-at-init : goal.loop-at-init
loop-at-init c = rw sub_self (wrote_none _ _ (omega arith))

pub loop-at-preserved : goal.loop-at-preserved
loop-at-preserved c =
    let a = c.args in
    let e : c.loop-at.at + 1 - a.self.at ≡ c.loop-at.at - a.self.at + 1 = omega arith in
    rw (e, ← replicate-append-replicate (c.loop-at.at - a.self.at) 1 false) (wrote_append c.loop-at.invariant c.set_bit.ensures)

pub returns : goal.returns
returns c =
    let e : c.loop-at.at ≡ c.args.to = omega arith in
    (rw e at c.loop-at.invariant, refl)
