-- `reply::take_ref` meets its contract.
use mathlib.Core.Path.{◌∙◌}
use native.Mathlib.Omega.{arith}
use Rattle.bits.proofs.Laws.{field_lt}
use Rattle.reply.proofs.Judge.{ref_of}
use Rattle.reply.proofs.take_ref.Goals as goal

pub kind_of-requires : goal.kind_of-requires
kind_of-requires c = rw c.take-k.ensures.0 (field_lt c.args.s.now c.args.c.at 2 (omega (arith, c.requires)))

pub returns : goal.returns
returns c =
    let t1 = c.take-k in
    let t2 = c.take-x in
    let a = c.args in
    ref_of a.w a.s.now a.c.at _ c.requires.0 (c.kind_of.ensures ∙ t1.ensures.0) (rw t1.ensures.1 at t2.ensures.0) (omega (arith, t1.ensures.1, t2.ensures.1))
