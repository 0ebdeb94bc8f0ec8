use borrow.Rule.Slice.PartMut.{same_len_mid}
use Prim.Native.Nat.{◌+◌, ◌-◌, ◌*◌}
use native.Mathlib.Omega.{arith}
use mathlib.Core.Path.{◌≡◌, refl, ap, ◌∙◌}
use lib.ListN.{length}
use Rattle.solving.proofs.Replies.{small, row_room, gather_more, variable_is}
use Rattle.solving.proofs.Known.gather.Goals as goal

pub loop-p-preserved : goal.loop-p-preserved
loop-p-preserved c =
    let w = 2 * c.args.r.now.head.entries in
    let p = c.loop-p.p in
    let g = c.take_in-from.result in
    let m = small c.args.r.now.bytes.now c.args.r.now.sound in
    let b = row_room w c.args.r.now.head.entries p refl (omega arith) (omega arith) in
    let part = c.copy_from_slice.new.self in
    let k = w * p + w - w * p in
    record {
      same = c.loop-p.invariant.same;
      long = same_len_mid (w * p) k c.loop-p.self.vars part c.copy_from_slice.auto.self ∙ c.loop-p.invariant.long;
      gathered = gather_more c.args.r.now.bytes.now c.loop-p.self.rows c.loop-p.self.vars w p g k (64 * g + w - 64 * g) part c.take_in-from.ensures.in_is (omega arith) (omega arith)
          (omega (arith, b)) (omega (arith, ap length c.loop-p.invariant.same, c.take_in-from.ensures.in_lt)) c.copy_from_slice.ensures.after c.loop-p.invariant.gathered;
    }

pub returns-clause-vars : goal.returns-clause-vars
returns-clause-vars c =
    let H = c.args.r.now.read in
    let z : c.loop-p.p ≡ c.args.r.now.head.ins = omega arith in
    variable_is c.args.r.now.bytes.now c.args.r.now.sound c.args.self.now.rows c.loop-p.self.vars (rw (c.loop-p.invariant.same, z, H.entries_is, H.ins_is) at c.loop-p.invariant.gathered)
