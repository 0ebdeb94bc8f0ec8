use native.Mathlib.Omega.{arith}
use Rattle.meaning.specs.Says.{aye, nay}
use Rattle.reply.specs.inner.Checked.{InGood}
use Rattle.reply.proofs.Lists.{up_to_suc}
use Rattle.reply.proofs.Judge.{met_none, met_more, in_good, in_low, in_met}
use Rattle.reply.proofs.judging.ins_ok.Goals.{then-x-fragment-via-then-x-fragment, then-x-fragment-via-else-x-fragment+then-met-x}
use Rattle.reply.proofs.judging.ins_ok.Goals as goal

pub loop-i-init : goal.loop-i-init
loop-i-init c = (met_none c.args.s.now, λ j h. absurd (omega arith))

pub bounds-met-x : goal.bounds-met-x
bounds-met-x c = omega (arith, c.take_in-x.ensures.in_lt, c.loop-i.invariant.0.size)

pub returns-then-x-fragment : goal.returns-then-x-fragment
returns-then-x-fragment c =
    let i = c.loop-i.i in
    let met = c.loop-i.invariant.0 in
    let e = c.take_in-x.ensures.in_is in
    nay (λ h. elim c.then-x-fragment.branch [
      | then-x-fragment-via-then-x-fragment w ↦ in_low _ _ _ _ _ met e w.if-x-fragment.true (h i (omega arith))
      | then-x-fragment-via-else-x-fragment+then-met-x w ↦ in_met _ _ _ _ _ met e w.if-met-x.true (h i (omega arith))
    ])

pub bounds-met-x-in-loop-i : goal.bounds-met-x-in-loop-i
bounds-met-x-in-loop-i c = omega (arith, c.take_in-x.ensures.in_lt, c.loop-i.invariant.0.size)

pub loop-i-preserved : goal.loop-i-preserved
loop-i-preserved c =
    let a = c.args in
    let l = c.loop-i in
    let x = c.take_in-x in
    let g = in_good a.s.now a.fragment l.i x.result l.met l.invariant.0 x.ensures.in_is (omega (arith, c.if-x-fragment.false)) c.if-met-x.false in
    (met_more a.s.now a.fragment l.i x.result l.met l.invariant.0 x.ensures.in_is x.ensures.in_lt, λ j h. up_to_suc (λ j. InGood a.s.now a.fragment j) l.i l.invariant.1 g j (omega arith))

pub returns : goal.returns
returns c = aye (λ j h. c.loop-i.invariant.1 j (omega arith))
