use native.Mathlib.Nat.{zero-add}
use native.Mathlib.Omega.{arith}
use mathlib.Core.Path.{◌≡◌}
use lib.ListN.{length}
use Rattle.bits.proofs.Laws.{wrote_none, wrote_append}
use Rattle.reply.specs.inner.Decode.{ref_width}
use Rattle.reply.proofs.Judge.{next_place, first_place}
use Rattle.writing.proofs.Codes.{refs_none, refs_more}
use Rattle.writing.proofs.put_refs.Goals as goal

pub loop-code-init : goal.loop-code-init
loop-code-init c =
    let a = c.args in
    record { at = first_place (ref_width a.w) a.c.at; wrote = rw (refs_none a.w a.codes.now 0) (wrote_none a.out.now a.c.at (omega (arith, c.requires.room))) }

pub loop-code-preserved : goal.loop-code-preserved
loop-code-preserved c =
    let a = c.args in
    let l = c.loop-code in
    let q = c.put_ref-c in
    record {
      at = omega (arith, q.ensures.1, l.invariant.at, next_place (ref_width a.w) a.c.at l.code-index);
      wrote = rw (refs_more a.w a.codes.now 0 l.code-index, zero-add) (wrote_append l.invariant.wrote q.ensures.0);
    }

pub returns : goal.returns
returns c =
    let l = c.loop-code in
    let e : l.code-index ≡ length c.args.codes.now = omega arith in
    let i = rw e at l.invariant in
    (i.wrote, i.at)
