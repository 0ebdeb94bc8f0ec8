use native.Mathlib.Omega.{arith}
use mathlib.Core.Path.{refl}
use borrow.Author.Tests.{eq-eqb}
use Rattle.formula.specs.inner.Flat.{deliver_f}
use Rattle.formula.specs.inner.Memory.{fragment_of, state}
use Rattle.formula.proofs.Grows.{deliver_stops}
use Rattle.formula.proofs.Loops.{delivered_is}
use Rattle.formula.proofs.Stops.{does_stop, does_along}
use Rattle.fragment.proofs.Rules.{parent_block}
use Rattle.formula.proofs.Memory.delivered.Goals as goal

pub returns-in_err-row-clause-does : goal.returns-in_err-row-clause-does
returns-in_err-row-clause-does c = does_stop _ _ _ c.from_residual.ensures (deliver_stops _ _ _ _ _ _ _ c.in_err-row.ensures.does)

pub returns-then-k-eq0-clause-does : goal.returns-then-k-eq0-clause-does
unfolding deliver_f
returns-then-k-eq0-clause-does c = simp (eq-eqb _ _ c.if-k-eq0.true) c.in_ok-row.ensures.does

pub pushed-requires-clause-count_bound_2 : goal.pushed-requires-clause-count_bound_2
pushed-requires-clause-count_bound_2 c = omega (arith, parent_block _ _ c.requires.ruled.sound c.args.source.now.list.count _ _ c.requires.k_in_bounds c.if-k-eq0.false refl, c.requires.ruled.cells, c.in_ok-row.ensures.same.1)

pub returns-clause-does : goal.returns-clause-does
returns-clause-does c =
    let s = c.args.source.now in
    does_along _ _ (delivered_is s.list s.text.now (fragment_of s) c.args.self.now.cells c.args.k c.args.place _ _ (state c.args.self.now) c.if-k-eq0.false c.in_ok-row.ensures.same.1 refl c.in_ok-row.ensures.does.is) c.pushed.ensures.does
