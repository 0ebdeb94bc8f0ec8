use native.Mathlib.Omega.{arith}
use Prim.Native.Nat.{◌+◌, ◌*◌}
use Rattle.meaning.specs.Says.{aye, nay}
use Rattle.meaning.proofs.Says.{says_true, says_false}
use Rattle.reply.specs.inner.Decode.{ref_width}
use Rattle.reply.specs.inner.Checked.{RefGood}
use Rattle.reply.proofs.Lists.{up_to_suc}
use Rattle.reply.proofs.Judge.{ref_good}
use Rattle.reply.proofs.judging.refs_ok.Goals as goal

pub returns-then-not-is_result : goal.returns-then-not-is_result
returns-then-not-is_result c = nay (λ h. says_false c.is_result.ensures c.if-not-is_result.true ((ref_good _ _ _ _ _ _ c.take_ref.ensures).1 (h c.loop-e.e (omega arith))))

pub loop-e-preserved : goal.loop-e-preserved
loop-e-preserved c =
    let a = c.args in
    let e = c.loop-e.e in
    λ j h. up_to_suc (λ j. RefGood a.w a.s.now a.counts.vars a.counts.steps (a.at + ref_width a.w * j)) e c.loop-e.invariant ((ref_good _ _ _ _ _ _ c.take_ref.ensures).0 (says_true c.is_result.ensures c.if-not-is_result.false)) j (omega arith)

pub returns : goal.returns
returns c = aye (λ j h. c.loop-e.invariant j (omega arith))
