-- `reply::take_step` meets its contract.
use mathlib.Core.Path.{refl, ◌∙◌}
use native.Mathlib.Omega.{arith}
use Rattle.bits.proofs.Laws.{field_lt}
use Rattle.reply.proofs.Judge.{op_is, step_of}
use Rattle.reply.proofs.take_step.Goals as goal

pub returns : goal.returns
returns c =
    let t1 = c.take-k in
    let t2 = c.take_ref-a in
    let t3 = c.take_ref-b in
    let a = c.args in
    step_of a.w a.s.now a.c.at _ _ _ t2.result t3.result (op_is t1.result.value c.try_from.result (rw t1.ensures.0 (field_lt a.s.now a.c.at 2 (omega (arith, c.requires)))) c.ok.ensures.value c.try_from.ensures ∙ t1.ensures.0) t2.ensures t3.ensures (omega (arith, t1.ensures.1)) (omega (arith, t1.ensures.1, t2.ensures.next_is)) refl refl
