use mathlib.Core.Path.{refl}
use Rattle.formula.specs.inner.Memory.{fragment_of, state}
use Rattle.formula.proofs.Grows.{entry_over}
use Rattle.formula.proofs.KindTests.{kept_operands, entered_is}
use Rattle.formula.proofs.Loops.{going, going_on, going_stops, gone}
use Rattle.formula.proofs.Stops.{room_of, does_stop}
use Rattle.formula.proofs.Memory.visited.Goals as goal

pub loop-e-init : goal.loop-e-init
loop-e-init c = going _ _ _ (room_of c.args.self.now) refl

pub entered-requires-clause-reads : goal.entered-requires-clause-reads
entered-requires-clause-reads c = kept_operands c.args.source.now.list c.args.source.now.text.now _ c.entry-x.result c.entry-x.ensures c.requires.keeps c.loop-e-test.true

pub returns-in_err-entered-clause-does : goal.returns-in_err-entered-clause-does
returns-in_err-entered-clause-does c =
    let a = c.args in
    let s = a.source.now in
    let l = c.loop-e in
    does_stop _ _ _ c.from_residual.ensures (going_stops a.self.now l.self _ (entry_over s.list s.text.now (fragment_of s) a.self.now.cells a.at a.k) l.e s.list.count _ c.loop-e-test.true l.invariant (entered_is s.list s.text.now l.e c.entry-x.result c.entry-x.ensures (fragment_of s) a.self.now.cells a.at a.k _ (state l.self) l.invariant.same.1 refl) c.in_err-entered.ensures.does)

pub loop-e-preserved : goal.loop-e-preserved
loop-e-preserved c =
    let a = c.args in
    let s = a.source.now in
    let l = c.loop-e in
    going_on a.self.now l.self c.entered.new.self _ l.e s.list.count _ c.loop-e-test.true l.invariant (entered_is s.list s.text.now l.e c.entry-x.result c.entry-x.ensures (fragment_of s) a.self.now.cells a.at a.k _ (state l.self) l.invariant.same.1 refl) c.in_ok-entered.ensures.same c.in_ok-entered.ensures.does

pub returns-clause-does : goal.returns-clause-does
returns-clause-does c = gone c.args.self.now c.loop-e.self _ c.loop-e.e c.args.source.now.list.count _ c.loop-e-test.false c.loop-e.invariant
