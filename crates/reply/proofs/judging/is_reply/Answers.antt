-- `reply::judging::is_reply` meets its contract.
use native.Mathlib.Omega.{arith}
use Rattle.meaning.specs.Says.{Says, nay}
use Rattle.meaning.proofs.Says.{says_true, says_false, says_then, says_else, says_by}
use Rattle.reply.specs.inner.Checked.{SizesOk}
use Rattle.reply.proofs.Verdicts.{Ins, Steps, Results, checked_parts, checked_filled, all_checked}
use lib.ListN.{length}
use mathlib.Core.Path.{sym, ◌∙◌}
use mathlib.Core.Bool.{true≢false}
use Rattle.reply.proofs.judging.is_reply.Goals.{then-sizes_ok, else-sizes_ok, then-ins_ok, else-ins_ok, then-steps_ok, else-steps_ok}
use Rattle.reply.proofs.judging.is_reply.Goals as goal

pub returns-then-refs_ok : goal.returns-then-refs_ok
returns-then-refs_ok c =
    let s = c.args.bytes.now in
    let h = c.args.h in
    let H = c.requires.2 in
    let x : Says (SizesOk h (length s) × Ins s h H) c.if-sizes_ok.value = elim c.if-sizes_ok.branch [
      | then-sizes_ok w ↦ says_then c.sizes_ok.ensures w.if-sizes_ok.true w.ins_ok.ensures w.value-is
      | else-sizes_ok w ↦ says_else c.sizes_ok.ensures w.if-sizes_ok.false w.value-is
    ] in
    let y : Says ((SizesOk h (length s) × Ins s h H) × Steps s h H) c.if-ins_ok.value = elim c.if-ins_ok.branch [
      | then-ins_ok w ↦ says_then x w.if-ins_ok.true (rw c.steps_at-steps_at.ensures at w.steps_ok.ensures) w.value-is
      | else-ins_ok w ↦ says_else x w.if-ins_ok.false w.value-is
    ] in
    let z : Says (((SizesOk h (length s) × Ins s h H) × Steps s h H) × Results s h H) c.if-steps_ok.value = elim c.if-steps_ok.branch [
      | then-steps_ok w ↦ says_then y w.if-steps_ok.true (rw c.results_at-results_at.ensures at w.refs_ok.ensures) w.value-is
      | else-steps_ok w ↦ says_else y w.if-steps_ok.false w.value-is
    ] in
    let t = says_true z c.if-refs_ok.true in
    says_by _ (λ e. all_checked s h H _ _ c.end-end.ensures (omega arith) c.requires.0 (t.0.0.0, t.0.0.1, t.0.1, t.1) (c.blank.ensures.bits_stand e))
    (λ e q. true≢false (sym (c.blank.ensures.value (checked_filled s h H _ _ c.end-end.ensures (omega arith) q)) ∙ e))

pub returns-else-refs_ok : goal.returns-else-refs_ok
returns-else-refs_ok c =
    let s = c.args.bytes.now in
    let h = c.args.h in
    let H = c.requires.2 in
    let x : Says (SizesOk h (length s) × Ins s h H) c.if-sizes_ok.value = elim c.if-sizes_ok.branch [
      | then-sizes_ok w ↦ says_then c.sizes_ok.ensures w.if-sizes_ok.true w.ins_ok.ensures w.value-is
      | else-sizes_ok w ↦ says_else c.sizes_ok.ensures w.if-sizes_ok.false w.value-is
    ] in
    let y : Says ((SizesOk h (length s) × Ins s h H) × Steps s h H) c.if-ins_ok.value = elim c.if-ins_ok.branch [
      | then-ins_ok w ↦ says_then x w.if-ins_ok.true (rw c.steps_at-steps_at.ensures at w.steps_ok.ensures) w.value-is
      | else-ins_ok w ↦ says_else x w.if-ins_ok.false w.value-is
    ] in
    let z : Says (((SizesOk h (length s) × Ins s h H) × Steps s h H) × Results s h H) c.if-steps_ok.value = elim c.if-steps_ok.branch [
      | then-steps_ok w ↦ says_then y w.if-steps_ok.true (rw c.results_at-results_at.ensures at w.refs_ok.ensures) w.value-is
      | else-steps_ok w ↦ says_else y w.if-steps_ok.false w.value-is
    ] in
    rw c.if-refs_ok.false (nay (λ q. let t = checked_parts s h H q in says_false z c.if-refs_ok.false (((t.0, t.1), t.2), t.3)))
