use Prim.Native.Nat.{◌/◌}
use mathlib.Core.Path.{◌≡◌, ◌∙◌}
use native.Mathlib.Omega.{arith}
use lib.ListN.{length, length-append}
use Rattle.bits.proofs.Laws.{wrote_none, wrote_append}
use Rattle.reply.specs.inner.Decode.{step_width}
use Rattle.reply.proofs.Judge.{next_place, first_place}
use Rattle.writing.proofs.Chunks.{left_all, chunk_of, left_end}
use Rattle.writing.proofs.Codes.{steps_none, step_here, code_here}
use Rattle.writing.proofs.put_steps.Goals as goal

pub loop-step-init : goal.loop-step-init
loop-step-init c =
    let a = c.args in
    record {
      size = cc;
      left = rw (c.into_iter-step-iterator.ensures.into_iter_gives, c.chunks_exact-step-items.ensures.rest) (left_all 3 _);
      at = first_place (step_width a.w) a.c.at;
      wrote = rw (steps_none a.w a.steps.now 0) (wrote_none a.out.now a.c.at (omega (arith, c.requires.room)));
    }

pub put_step-c-requires-clause-good : goal.put_step-c-requires-clause-good
put_step-c-requires-clause-good c =
    let a = c.args in
    let i = c.loop-step.invariant in
    let k = length c.loop-step.yielded in
    let s = c.in-Some.ensures.steps in
    let q = chunk_of 3 k a.steps.now _ c.in-Some.step.now c.next.new.self.rest.now (omega arith) i.left s.1.0 (s.1.1 ∙ i.size) in
    (s.1.1 ∙ i.size, code_here a.w k a.steps.now c.in-Some.step.now _ q (c.requires.good k (omega (arith, q.inside))))

pub loop-step-preserved : goal.loop-step-preserved
loop-step-preserved c =
    let a = c.args in
    let i = c.loop-step.invariant in
    let k = length c.loop-step.yielded in
    let s = c.in-Some.ensures.steps in
    let q = chunk_of 3 k a.steps.now _ c.in-Some.step.now c.next.new.self.rest.now (omega arith) i.left s.1.0 (s.1.1 ∙ i.size) in
    let e = c.put_step-c.ensures in
    rw length-append (record {
      size = s.0 ∙ i.size;
      left = q.next;
      at = omega (arith, e.1, i.at, next_place (step_width a.w) a.c.at k);
      wrote = rw (step_here a.w k a.steps.now c.in-Some.step.now _ q) (wrote_append i.wrote e.0);
    })

pub returns : goal.returns
returns c =
    let i = c.loop-step.invariant in
    let e : length c.loop-step.yielded ≡ length c.args.steps.now / 3 = left_end 3 _ c.args.steps.now _ i.left (omega (arith, i.size, c.in-None.ensures.steps.1.0)) in
    let w = rw e at i in
    (w.wrote, w.at)
