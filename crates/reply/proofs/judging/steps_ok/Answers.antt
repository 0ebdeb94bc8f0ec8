use native.Mathlib.Omega.{arith}
use mathlib.Core.Path.{◌≡◌, sym, subst}
use Prim.Native.Nat.{ℕ, ◌+◌, ◌*◌}
use Rattle.meaning.specs.Says.{aye, nay}
use Rattle.meaning.proofs.Says.{says_true, says_false}
use Rattle.reply.specs.inner.Decode.{step_width}
use Rattle.reply.specs.inner.Checked.{StepGood}
use Rattle.reply.proofs.Lists.{up_to_suc}
use Rattle.reply.proofs.Judge.{step_good}
use Rattle.reply.proofs.judging.steps_ok.Goals as goal

-- the width as the code works it out
wide : (w : ℕ) → step_width w ≡ 2 + 2 * (2 + w)
wide w = omega arith

pub returns-then-not-is_good : goal.returns-then-not-is_good
returns-then-not-is_good c =
    let a = c.args in
    let i = c.loop-i.i in
    nay (λ h. says_false c.is_good.ensures c.if-not-is_good.true ((step_good _ _ _ _ _ _ c.take_step.ensures).1 (subst (λ W. StepGood a.w a.s.now a.vars i (a.at + W * i)) (wide a.w) (h i (omega arith)))))

pub loop-i-preserved : goal.loop-i-preserved
loop-i-preserved c =
    let a = c.args in
    let i = c.loop-i.i in
    let good = (step_good _ _ _ _ _ _ c.take_step.ensures).0 (says_true c.is_good.ensures c.if-not-is_good.false) in
    λ j h. up_to_suc (λ j. StepGood a.w a.s.now a.vars j (a.at + step_width a.w * j)) i c.loop-i.invariant (subst (λ W. StepGood a.w a.s.now a.vars i (a.at + W * i)) (sym (wide a.w)) good) j (omega arith)

pub returns : goal.returns
returns c = aye (λ j h. c.loop-i.invariant j (omega arith))
