-- `writing::reply_write` meets its contract.
use Prim.Native.Nat.{ℕ, ◌+◌, ◌*◌}
use mathlib.Core.Path.{◌≡◌}
use native.Mathlib.Omega.{arith}
use Rattle.reply.specs.inner.Decode.{ref_width, step_width, end_of}
use Rattle.bits.proofs.Laws.{wrote_append}
use Rattle.writing.proofs.Whole.{reply_written}
use borrow.Author.Rules.{rules}
use Rattle.writing.proofs.reply_write.Goals as goal

-- the place after the last field
end_here : (w n m x count : ℕ) {k i s a b : ℕ} → m ≡ n → k ≡ 60 → i ≡ k + 5 * x → s ≡ i + step_width w * count → a ≡ s + ref_width w * n → b ≡ a + ref_width w * m → b ≡ end_of w x count n
end_here w n m x count e h f g v d = omega (arith, rw e at d, h, f, g, v)

pub returns : goal.returns
returns c =
    let a = c.args in
    let h = c.put_head-a.ensures in
    let f = c.put_ins-b.ensures in
    let g = c.put_steps-c.ensures in
    let v = c.put_refs-d.ensures in
    let d = c.put_refs-end.ensures in
    let same = c.requires.2.same in
    reply_written a.w a.number a.fragment a.rows.now a.held.steps.now a.held.v.now a.held.d.now same (λ i. search rules) (λ i. (c.type_inv.out i).fits) (rw (← c.stand_ins.ensures) (wrote_append h.0 f.0)) g.0 v.0 d.0 c.pad.ensures.0 (end_here a.w _ _ _ _ same h.1 f.1 g.1 v.1 d.1) (omega arith) (omega arith)
