-- `writing::put_head` meets its contract.
use native.Mathlib.Omega.{arith}
use Rattle.bits.proofs.Laws.{wrote_append}
use Rattle.reply.specs.Write.{head_bits}
use Rattle.writing.proofs.put_head.Goals as goal

pub returns : goal.returns
unfolding head_bits
returns c =
    let p1 = c.put-a in
    let p2 = c.put-b in
    let p3 = c.put-c in
    let p4 = c.put-d in
    let p5 = c.put in
    (wrote_append p1.ensures.0 (wrote_append p2.ensures.0 (wrote_append p3.ensures.0 (wrote_append p4.ensures.0 p5.ensures.0))), omega (arith, p1.ensures.1, p2.ensures.1, p3.ensures.1, p4.ensures.1, p5.ensures.1))
