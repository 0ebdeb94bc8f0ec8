-- `desk::accepted` meets its contract.
use Rattle.std.proofs.Common.{arith}
use Rattle.desk.proofs.Calling.{put_back, accepts}
use Rattle.desk.proofs.Unique.{passed}
use Rattle.desk.proofs.accepted.Goals as goal

pub slice_bounds-copy_from_slice-end : goal.slice_bounds-copy_from_slice-end
slice_bounds-copy_from_slice-end c = omega (arith, (passed _ _ _ c.in_ok-fragment.ensures.number).room)

pub noted_in-requires : goal.noted_in-requires
noted_in-requires c = (c.in_ok-fragment.ensures.fragment.0, omega (arith, (passed _ _ _ c.in_ok-fragment.ensures.number).room))

pub returns : goal.returns
returns c =
    let d = c.args.desk in
    let store = c.args.store.now in
    let s = c.args.reply.now in
    accepts d store s c.in_ok-fragment.fragment c.noted_in.result _ c.in_ok-fragment.ensures.number c.in_ok-fragment.ensures.fragment.1 c.noted_in.ensures
    (put_back d.used _ store s c.copy_from_slice.new.self (omega arith) c.copy_from_slice.ensures.after)
