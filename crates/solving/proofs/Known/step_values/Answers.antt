use Prim.Native.Nat.{◌+◌, ◌*◌}
use mathlib.Core.Path.{◌≡◌, refl, sym, ap, ◌∙◌}
use native.Mathlib.Omega.{arith}
use native.Mathlib.Numerals.{add-one}
use lib.ListN.{length-set}
use Rattle.meaning.specs.Algebra.{bool}
use Rattle.meaning.specs.Formula.{step_value}
use Rattle.reply.specs.inner.Decode.{steps_of, decoded}
use Rattle.reply.specs.inner.Checked.{vars_of}
use Rattle.reply.proofs.Judge.{step_from_lem, step_good}
use Rattle.solving.specs.inner.Values.{truth_in}
use Rattle.solving.proofs.Replies.{small, few_vars, step_wider, steps_from, operands_at}
use Rattle.solving.proofs.Formulas.{no_steps, values_more}
use Rattle.solving.proofs.Known.step_values.Goals as goal

pub loop-i-init : goal.loop-i-init
loop-i-init c = record { rows = refl; vars = refl; long = omega arith; values = sym (no_steps bool (truth_in c.args.self.now.vars) (steps_from c.args.r.now.bytes.now c.steps_at-at.result)) }

pub step_value-requires : goal.step_value-requires
step_value-requires c =
    let m = small c.args.r.now.bytes.now c.args.r.now.sound in
    step_wider (vars_of c.args.r.now.bytes.now) c.loop-i.i 2048 4096 _ _ _ _ _ (omega (arith, few_vars c.args.r.now.bytes.now c.args.r.now.sound)) (omega arith)
    ((step_good 12 _ _ _ _ _ c.take_step-t.ensures).1 (rw (c.steps_at-at.ensures, c.args.r.now.read.ins_is) (c.args.r.now.sound.steps_good c.loop-i.i (omega arith))))

pub loop-i-preserved : goal.loop-i-preserved
loop-i-preserved c =
    let s = c.args.r.now.bytes.now in
    let m = small s c.args.r.now.sound in
    let H = c.args.r.now.read in
    let i = c.loop-i.i in
    let at = c.steps_at-at.result in
    let α = truth_in c.args.self.now.vars in
    let e = step_from_lem 12 s (at + 30 * i) c.take_step-t.result c.take_step-t.ensures in
    record {
      rows = c.loop-i.invariant.rows;
      vars = c.loop-i.invariant.vars;
      long = length-set c.loop-i.self.values i c.step_value.result ∙ c.loop-i.invariant.long;
      values = rw add-one (values_more bool α (vars_of s) i (steps_from s at) c.loop-i.self.values c.step_value.result (omega arith)
          (rw (c.steps_at-at.ensures, H.ins_is) (operands_at s c.args.r.now.sound i (omega arith))) c.loop-i.invariant.values ((rw c.loop-i.invariant.vars at c.step_value.ensures) ∙ ap (step_value bool α c.loop-i.self.values) (sym e)));
    }

pub returns-clause-values : goal.returns-clause-values
unfolding decoded
returns-clause-values c =
    let e : c.loop-i.i ≡ steps_of c.args.r.now.bytes.now = omega arith in
    rw (e, c.steps_at-at.ensures, c.args.r.now.read.ins_is) at c.loop-i.invariant.values
