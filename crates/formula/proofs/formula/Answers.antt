use native.Mathlib.Omega.{arith}
use mathlib.Core.Path.{refl, sym, ◌∙◌}
use lib.ListN.{length}
use borrow.Author.Rules.{rules}
use Rattle.formula.specs.inner.Memory.{fragment_of, state}
use Rattle.formula.proofs.Counts.{cells_few}
use Rattle.formula.proofs.Sweeps.{end_by, made, too_many}
use Rattle.formula.proofs.formula.Goals as goal

pub layout-cells-requires : goal.layout-cells-requires
layout-cells-requires c = cells_few _ (fragment_of c.args.source.now) _ _ c.requires.sound c.requires.keeps

pub returns-in_err-swept : goal.returns-in_err-swept
returns-in_err-swept c =
    let s = c.args.source.now in
    too_many s.list s.text.now (fragment_of s) _ c.requires.sound c.requires.keeps c.fill.new.self (length c.args.work.now) _ _ (omega (arith, c.requires.room, c.fill.ensures.len)) (c.fill.ensures.after (λ y e. e)) (sym (λ i. ((end_by s.list s.text.now (fragment_of s) _ c.requires.sound c.requires.keeps c.fill.new.self c.layout-cells.ensures.cells_is i).steps)) ∙ c.in_err-swept.ensures.does) c.from_residual.ensures

pub returns : goal.returns
returns c =
    let s = c.args.source.now in
    made s.list s.text.now (fragment_of s) _ c.requires.sound c.requires.keeps c.fill.new.self (length c.args.work.now) _ (state c.swept.new.self) (omega (arith, c.requires.room, c.fill.ensures.len)) (c.fill.ensures.after (λ y e. e)) (c.in_ok-swept.ensures.does.is ∙ (end_by s.list s.text.now (fragment_of s) _ c.requires.sound c.requires.keeps c.fill.new.self c.layout-cells.ensures.cells_is)) c.in_ok-swept.ensures.does.count (search rules) refl
