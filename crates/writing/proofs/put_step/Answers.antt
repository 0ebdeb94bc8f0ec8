-- `writing::put_step` meets its contract.
use native.Mathlib.Omega.{arith}
use Rattle.bits.proofs.Laws.{wrote_append}
use lib.ListN.{get_or}
use Rattle.writing.specs.inner.Codes.{step_of}
use Rattle.writing.proofs.Codes.{step_code}
use Rattle.writing.proofs.put_step.Goals as goal

pub returns : goal.returns
unfolding step_of
returns c =
    let p1 = c.put-k in
    let p2 = c.put_ref-a in
    let p3 = c.put_ref in
    let s = c.args.step.now in
    let p = c.requires.good.1 in
    (rw (← step_code c.args.w (get_or s 0 0) (get_or s 1 0) (get_or s 2 0) p.op p.single, ← c.from.ensures) (wrote_append p1.ensures.0 (wrote_append p2.ensures.0 p3.ensures.0)), omega (arith, p1.ensures.1, p2.ensures.1, p3.ensures.1))
