-- `reply::take_in` meets its contract.
use Prim.Native.Nat.{◌+◌, ◌*◌}
use native.Mathlib.Omega.{arith}
use Rattle.bits.proofs.Laws.{field_lt}
use Rattle.reply.proofs.take_in.Goals as goal

pub returns : goal.returns
returns c =
    let t = c.take-x.ensures.0 in
    record { in_is = t; in_lt = rw t (field_lt c.args.s.now (60 + 5 * c.args.i) 5 (omega (arith, c.requires))) }
