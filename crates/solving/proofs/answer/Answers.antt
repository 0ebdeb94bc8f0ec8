use Prim.Native.Nat.{◌-◌}
use mathlib.Core.Path.{refl}
use native.Mathlib.Omega.{arith}
use Rattle.solving.proofs.Answers.{sound_here, part_agree, left_start, left_step, left_end}
use Rattle.solving.proofs.answer.Goals as goal

pub loop-f-init : goal.loop-f-init
loop-f-init c = left_start c.args.q c.args.store.now 2048

pub solve-requires : goal.solve-requires
solve-requires c =
    let q = c.args.q in
    let f = c.loop-f.f - 1 in
    let h = c.requires.1 f (omega arith) in
    (sound_here q c.args.used c.args.store.now c.requires.0 f h, h.0)

pub loop-f-preserved : goal.loop-f-preserved
loop-f-preserved c =
    let q = c.args.q in
    let f = c.loop-f.f - 1 in
    let h = c.requires.1 f (omega arith) in
    left_step q c.args.store.now c.loop-f.f c.loop-f.known.rows c.solve.new.self.rows c.loop-f-test.true c.loop-f.invariant (part_agree q c.args.used c.args.store.now c.requires.0 f h c.loop-f.known.rows c.solve.new.self.rows c.solve.ensures)

pub returns : goal.returns
returns c =
    let q = c.args.q in
    left_end q c.args.store.now c.loop-f.f (q.entries - 1) c.loop-f.known.rows (omega arith) (omega (arith, c.requires.0.rules.keeps.some_entry)) refl c.loop-f.invariant
