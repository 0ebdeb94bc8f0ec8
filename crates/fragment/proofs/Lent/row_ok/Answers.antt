use mathlib.Core.Path.{refl, sym, ap, ◌∙◌}
use Rattle.meaning.specs.Says.{aye}
use Rattle.meaning.proofs.Says.{says_not, says_then, says_else, says_off}
use Rattle.meaning.proofs.Numbers.{says_eqb}
use Rattle.fragment.specs.inner.Kind.{code_of}
use Rattle.fragment.specs.inner.Parts.{fragment_of}
use Rattle.fragment.proofs.Rules.{real_row, stand_row, no_row}
use Rattle.fragment.proofs.Lent.row_ok.Goals as goal
use Rattle.fragment.proofs.Lent.row_ok.Goals.{then-k-ne0, else-k-ne0}

pub returns-then-parent_ok : goal.returns-then-parent_ok
returns-then-parent_ok c = real_row _ (fragment_of c.args.self) _ (sym c.in-Ok-Real.ensures ∙ ap code_of c.in-Ok-Real.field-0-is) (says_then c.parent_ok.ensures c.if-parent_ok.true c.real_ok.ensures refl)

pub returns-else-parent_ok : goal.returns-else-parent_ok
returns-else-parent_ok c = real_row _ (fragment_of c.args.self) _ (sym c.in-Ok-Real.ensures ∙ ap code_of c.in-Ok-Real.field-0-is) (says_else c.parent_ok.ensures c.if-parent_ok.false refl)

pub returns-then-parent_ok-2 : goal.returns-then-parent_ok-2
returns-then-parent_ok-2 c = stand_row _ (fragment_of c.args.self) _ (sym c.in-Ok-StandIn.ensures ∙ ap code_of c.in-Ok-StandIn.field-0-is)
    (says_then (elim c.if-k-ne0.branch [ then-k-ne0 w ↦ says_then (aye w.if-k-ne0.true) refl w.parent_ok-then-k-ne0.ensures w.value-is | else-k-ne0 w ↦ says_off (says_not (says_eqb _ _)) (λ h. h w.if-k-ne0.false) w.value-is ]) c.if-parent_ok-2.true c.stand_in_ok.ensures refl)

pub returns-else-parent_ok-2 : goal.returns-else-parent_ok-2
returns-else-parent_ok-2 c = stand_row _ (fragment_of c.args.self) _ (sym c.in-Ok-StandIn.ensures ∙ ap code_of c.in-Ok-StandIn.field-0-is)
    (says_else (elim c.if-k-ne0.branch [ then-k-ne0 w ↦ says_then (aye w.if-k-ne0.true) refl w.parent_ok-then-k-ne0.ensures w.value-is | else-k-ne0 w ↦ says_off (says_not (says_eqb _ _)) (λ h. h w.if-k-ne0.false) w.value-is ]) c.if-parent_ok-2.false refl)

pub returns-in-Err : goal.returns-in-Err
returns-in-Err c = no_row _ (fragment_of c.args.self) _ c.in-Err.ensures.1
