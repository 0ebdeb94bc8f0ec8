use Prim.Native.Nat.{◌+◌, ◌*◌}
use mathlib.Core.Path.{sym, ap, ◌∙◌}
use native.Mathlib.Omega.{arith}
use Rattle.meaning.specs.Algebra.{bool}
use Rattle.meaning.specs.Formula.{ref_value}
use Rattle.reply.specs.inner.Decode.{ref_at, steps_of}
use Rattle.reply.specs.inner.Checked.{vars_of}
use Rattle.reply.proofs.Judge.{ref_from_lem, ref_good}
use Rattle.solving.specs.inner.Values.{truth_in}
use Rattle.solving.proofs.Replies.{small, few_vars, ref_wider, put_more, results_good}
use Rattle.solving.proofs.Known.results.Goals as goal

pub value-requires : goal.value-requires
value-requires c =
    let s = c.args.r.now.bytes.now in
    let m = small s c.args.r.now.sound in
    let H = c.args.r.now.read in
    ref_wider (vars_of s) (steps_of s) 2048 4096 _ _ (omega (arith, few_vars s c.args.r.now.sound)) m.few_steps
    ((ref_good 12 _ _ _ _ _ c.take_ref-x.ensures).1 (rw (c.results_at-at.ensures, H.ins_is, H.steps_is) (results_good s c.args.r.now.sound c.loop-e.e (omega arith))))

pub loop-e-preserved : goal.loop-e-preserved
loop-e-preserved c =
    let s = c.args.r.now.bytes.now in
    let p = c.results_at-at.result in
    let α = truth_in c.args.self.now.vars in
    let vs = c.args.self.now.values in
    let v = rw (c.loop-e.invariant.vars, c.loop-e.invariant.values) at c.value.ensures in
    record {
      vars = c.loop-e.invariant.vars;
      values = c.loop-e.invariant.values;
      put = put_more _ c.loop-e.self.rows (64 * c.args.f) c.loop-e.e (λ e. ref_value bool α vs (ref_at 12 s (p + 14 * e))) c.value.result (omega (arith, c.loop-e.invariant.put.long))
          (v ∙ ap (ref_value bool α vs) (sym (ref_from_lem 12 s (p + 14 * c.loop-e.e) c.take_ref-x.result c.take_ref-x.ensures))) c.loop-e.invariant.put;
    }
