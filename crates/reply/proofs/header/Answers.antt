-- `reply::header` meets its contract.
use mathlib.Core.Path.{◌≡◌, refl}
use native.Mathlib.Omega.{arith}
use Rattle.bits.specs.Fields.{field_at}
use Rattle.reply.proofs.Judge.{read_at, head_of}
use Rattle.reply.proofs.header.Goals as goal

pub returns : goal.returns
returns c =
    let t1 = c.take-a in
    let t2 = c.take-b in
    let t3 = c.take-c in
    let t4 = c.take-d in
    let t5 = c.take-e in
    let s = c.args.s.now in
    let p2 : t1.result.next.at ≡ 32 = omega (arith, t1.ensures.1) in
    let p3 : t2.result.next.at ≡ 37 = omega (arith, t2.ensures.1, p2) in
    let p4 : t3.result.next.at ≡ 42 = omega (arith, t3.ensures.1, p3) in
    let p5 : t4.result.next.at ≡ 47 = omega (arith, t4.ensures.1) in
    let e3 : t3.result.value ≡ field_at s 37 5 = read_at s _ 37 5 _ t3.ensures.0 (omega (arith, p3)) in
    head_of s _ c.requires
    t1.ensures.0 (read_at s _ 32 5 _ t2.ensures.0 (omega (arith, p2))) (rw e3 refl)
    (read_at s _ 42 5 _ t4.ensures.0 (omega (arith, p4))) (read_at s _ 47 13 _ t5.ensures.0 (omega (arith, p5)))
