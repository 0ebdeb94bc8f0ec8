use mathlib.Core.Path.{◌≡◌}
use native.Mathlib.Nat.{add-zero, sub_self, div-one}
use native.Mathlib.Omega.{arith}
use Rattle.bits.specs.Bits.{bit, digits}
use Rattle.bits.proofs.Laws.{wrote_none, put_more}
use Rattle.bits.proofs.Cursor.put.Goals as goal

pub loop-i-init : goal.loop-i-init
unfolding digits
loop-i-init c = rw add-zero (wrote_none c.args.buf.now c.args.self.at (omega arith))

pub loop-i-preserved : goal.loop-i-preserved
unfolding bit
loop-i-preserved c =
    let a = c.args in
    put_more a.self.at c.loop-i.i a.width a.value _ (omega arith) c.loop-i.invariant c.set_bit.ensures (omega arith)

pub returns : goal.returns
returns c =
    let e : c.loop-i.i ≡ c.args.width = omega arith in
    (rw c.after.ensures (rw (e, sub_self, div-one) at c.loop-i.invariant), c.after.ensures)
