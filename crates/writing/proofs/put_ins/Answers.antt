use Prim.Native.Nat.{◌<◌}
use mathlib.Core.Path.{◌≡◌, ap, ◌∙◌}
use native.Mathlib.Omega.{arith}
use lib.ListN.{length, length-append}
use Rattle.bits.specs.Bits.{digits}
use Rattle.bits.proofs.Laws.{wrote_none, wrote_append}
use Rattle.writing.specs.inner.Codes.{bare}
use Rattle.meaning.specs.Fragment.{row_count}
use Rattle.reply.proofs.Lists.{each_append}
use Rattle.writing.proofs.Chunks.{left_all, chunk_of, left_end}
use Rattle.writing.proofs.Codes.{rows_none, first_ins, row_at, ins_none, ins_more, ins_longer, ins_room, ins_all}
use Rattle.writing.proofs.put_ins.Goals as goal

pub loop-row-init : goal.loop-row-init
loop-row-init c =
    let a = c.args in
    let z = ins_none a.rows.now in
    record {
      size = cc;
      left = rw (c.into_iter-row-iterator.ensures.into_iter_gives, c.chunks_exact-row-items.ensures.rest) (left_all 6 _);
      at = rw z (omega arith);
      wrote = rw (z, rows_none) (wrote_none a.out.now a.c.at (omega (arith, c.requires.rows_bound)));
    }

pub put_row-c-requires : goal.put_row-c-requires
put_row-c-requires c =
    let a = c.args in
    let i = c.loop-row.invariant in
    let p = c.requires in
    let k = length c.loop-row.yielded in
    let s = c.in-Some.ensures.steps in
    let q = chunk_of 6 k a.rows.now _ c.in-Some.row.now c.next.new.self.rest.now (omega arith) i.left s.1.0 (s.1.1 ∙ i.size) in
    let h : k < row_count (bare a.rows.now) = omega (arith, q.inside) in
    let b = ins_room a.rows.now k h in
    rw (q.at 1 (omega arith), q.at 2 (omega arith)) (omega (arith, i.at, i.wrote.kept, b, p.rows_bound), omega (arith, i.at, b, p.rows_bound), p.k_bound k h)

pub loop-row-preserved : goal.loop-row-preserved
loop-row-preserved c =
    let r = c.args.rows.now in
    let i = c.loop-row.invariant in
    let k = length c.loop-row.yielded in
    let s = c.in-Some.ensures.steps in
    let q = chunk_of 6 k r _ c.in-Some.row.now c.next.new.self.rest.now (omega arith) i.left s.1.0 (s.1.1 ∙ i.size) in
    let e = rw (q.at 1 (omega arith), q.at 2 (omega arith)) at c.put_row-c.ensures in
    rw length-append (record {
      size = s.0 ∙ i.size;
      left = q.next;
      at = omega (arith, e.1, i.at, ins_longer r k);
      wrote = rw (ins_more r k, each_append (digits 5) (first_ins r k) (row_at r k)) (wrote_append i.wrote e.0);
    })

pub returns : goal.returns
returns c =
    let r = c.args.rows.now in
    let i = c.loop-row.invariant in
    let e : length c.loop-row.yielded ≡ row_count (bare r) = left_end 6 _ r _ i.left (omega (arith, i.size, c.in-None.ensures.steps.1.0)) in
    let w = rw (ap (first_ins r) e ∙ ins_all r) at i in
    (w.wrote, w.at)
