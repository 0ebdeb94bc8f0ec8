use native.Mathlib.Omega.{arith}
use Rattle.depot.specs.inner.Worked.{call_of}
use Rattle.writing.proofs.Cut.{cut_front}
use Rattle.formula.proofs.Counts.{cells_few}
use Rattle.depot.proofs.Answers.{late_over, late_short, late_done, size_asks, write_asks}
use Rattle.depot.proofs.Call.reply.Goals as goal

-- 8
pub returns-in_err-steps : goal.returns-in_err-steps
returns-in_err-steps c = late_over (call_of c.args.self.now) c.requires c.args.out.now _ c.from_residual.ensures c.in_err-steps.ensures

pub reply_size-need-requires : goal.reply_size-need-requires
reply_size-need-requires c = size_asks (call_of c.args.self.now) c.requires c.in_ok-steps.ensures c.stand_ins.ensures

-- 9
pub returns-then-out-need : goal.returns-then-out-need
returns-then-out-need c = late_short (call_of c.args.self.now) c.requires c.args.out.now c.in_ok-steps.ensures c.stand_ins.ensures c.reply_size-need.ensures (omega (arith, c.if-out-need.true))

pub layout-layout-requires : goal.layout-layout-requires
layout-layout-requires c = cells_few _ _ _ _ c.requires.sound c.requires.asks.0

pub reply_write-requires : goal.reply_write-requires
reply_write-requires c =
    rw (c.layout-layout.ensures.steps, c.layout-layout.ensures.d, ← cut_front c.formula.new.work c.args.self.now.source.list.count) (write_asks (call_of c.args.self.now) c.requires (omega (arith, c.requires.enough, c.formula.auto.work)) c.in_ok-steps.ensures c.stand_ins.ensures c.reply_size-need.ensures (omega (arith, c.if-out-need.false)))

-- written
pub returns : goal.returns
returns c =
    late_done (call_of c.args.self.now) c.requires c.args.out.now (omega (arith, c.requires.enough, c.formula.auto.work)) c.in_ok-steps.ensures c.stand_ins.ensures c.reply_size-need.ensures (omega (arith, c.if-out-need.false)) (rw (c.layout-layout.ensures.steps, c.layout-layout.ensures.d, ← cut_front c.formula.new.work c.args.self.now.source.list.count) at c.reply_write.ensures)
