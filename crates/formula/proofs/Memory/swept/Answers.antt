use Prim.Native.Nat.{◌-◌}
use native.Mathlib.Omega.{arith}
use mathlib.Core.Path.{refl, ◌∙◌}
use Rattle.meaning.specs.Bound.{count}
use Rattle.formula.specs.inner.Flat.{stands}
use Rattle.formula.specs.inner.Memory.{fragment_of, state}
use Rattle.formula.proofs.Counts.{one_is, count_less, place_less, count_most, ins_count}
use Rattle.formula.proofs.Grows.{deliver_over}
use Rattle.formula.proofs.Loops.{falling_on, falling_stops, fallen, delivered_at}
use Rattle.formula.proofs.Stops.{room_of, does_stop}
use Rattle.formula.proofs.Memory.swept.Goals as goal

pub loop-k-init : goal.loop-k-init
loop-k-init c = record { place = c.stand_ins-place.ensures ∙ ins_count c.args.source.now.fragment.rows.now; falling = record { same = (refl, refl, refl); room = (room_of c.args.self.now); is = refl } }

pub overflow_sub-place : goal.overflow_sub-place
overflow_sub-place c =
    let rows = c.args.source.now.fragment.rows.now in
    omega (arith, count_less (stands rows) _ c.loop-k-test.true c.loop-k.invariant.place (one_is rows _ c.is.ensures c.from-place.ensures))

pub delivered-requires-clause-place_bound : goal.delivered-requires-clause-place_bound
delivered-requires-clause-place_bound c =
    let rows = c.args.source.now.fragment.rows.now in
    omega (arith, place_less (stands rows) _ c.loop-k-test.true c.loop-k.invariant.place (one_is rows _ c.is.ensures c.from-place.ensures), count_most (stands rows) (c.loop-k.k - 1), c.requires.ruled.sound.rows_most)

pub loop-k-preserved : goal.loop-k-preserved
loop-k-preserved c =
    let s = c.args.source.now in
    let l = c.loop-k in
    let p = place_less (stands s.fragment.rows.now) _ c.loop-k-test.true l.invariant.place (one_is s.fragment.rows.now _ c.is.ensures c.from-place.ensures) in
    record {
      place = p;
      falling = falling_on c.args.self.now l.self c.delivered.new.self _ l.k _ c.loop-k-test.true l.invariant.falling (delivered_at s.list s.text.now (fragment_of s) _ (state l.self) l.invariant.falling.same.1 p) c.in_ok-delivered.ensures.same c.in_ok-delivered.ensures.does;
    }

pub returns-in_err-delivered-clause-does : goal.returns-in_err-delivered-clause-does
returns-in_err-delivered-clause-does c =
    let s = c.args.source.now in
    let l = c.loop-k in
    let p = place_less (stands s.fragment.rows.now) _ c.loop-k-test.true l.invariant.place (one_is s.fragment.rows.now _ c.is.ensures c.from-place.ensures) in
    does_stop _ _ _ c.from_residual.ensures (falling_stops c.args.self.now l.self _ (λ i s' h. deliver_over s.list s.text.now (fragment_of s) c.args.self.now.cells i (count (stands s.fragment.rows.now) i) s' h) l.k _ c.loop-k-test.true l.invariant.falling (delivered_at s.list s.text.now (fragment_of s) _ (state l.self) l.invariant.falling.same.1 p) c.in_err-delivered.ensures.does)

pub returns-clause-does : goal.returns-clause-does
returns-clause-does c = fallen c.args.self.now c.loop-k.self _ c.loop-k.k _ c.loop-k-test.false c.loop-k.invariant.falling
