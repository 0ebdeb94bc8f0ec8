use Prim.Native.Nat.{◌*◌, ◌/◌, ◌≤◌}
use mathlib.Core.Path.{◌≡◌, refl}
use lib.ListN.{length}
use native.Mathlib.Omega.{arith}
use borrow.Author.Rules.{rules}
use Rattle.meaning.specs.Says.{Says, aye}
use Rattle.meaning.proofs.Numbers.{says_eqb, says_leb}
use Rattle.meaning.proofs.Ranges.{says_below, says_within}
use Rattle.fragment.proofs.Rules.{says_sound}
use Rattle.fragment.proofs.Lent.ok.Goals as goal
use Rattle.fragment.proofs.Lent.ok.Goals.{then-number-le31, else-number-le31, then-self-count, else-self-count}
use Rattle.meaning.proofs.Says.{says_then, says_else, says_off}

pub returns-then-contains : goal.returns-then-contains
returns-then-contains c =
    let rows = c.args.self.rows.now in
    let first : Says ((c.args.number ≤ 31) × (length rows ≡ length rows / 6 * 6)) c.if-number-le31.value =
    elim c.if-number-le31.branch [ then-number-le31 u ↦ says_then (aye u.if-number-le31.true) refl (says_eqb _ _) u.value-is | else-number-le31 u ↦ says_off (says_leb _ _) (λ h. omega (arith, h, u.if-number-le31.false)) u.value-is ] in
    let second : Says (((c.args.number ≤ 31) × (length rows ≡ length rows / 6 * 6)) × ((1 ≤ length rows / 6) × (length rows / 6 ≤ 512))) c.if-self-count.value =
    elim c.if-self-count.branch [ then-self-count w ↦ says_then first w.if-self-count.true (says_within _ _ w.new.ensures.start w.new.ensures.end w.new.ensures.exhausted w.contains.ensures.value) w.value-is | else-self-count w ↦ says_else first w.if-self-count.false w.value-is ] in
    says_sound _ _ (says_then second c.if-contains.true (says_below _ c.all.ensures.ran (λ x b q h. search rules)) refl)

pub returns-else-contains : goal.returns-else-contains
returns-else-contains c =
    let rows = c.args.self.rows.now in
    let first : Says ((c.args.number ≤ 31) × (length rows ≡ length rows / 6 * 6)) c.if-number-le31.value =
    elim c.if-number-le31.branch [ then-number-le31 u ↦ says_then (aye u.if-number-le31.true) refl (says_eqb _ _) u.value-is | else-number-le31 u ↦ says_off (says_leb _ _) (λ h. omega (arith, h, u.if-number-le31.false)) u.value-is ] in
    let second : Says (((c.args.number ≤ 31) × (length rows ≡ length rows / 6 * 6)) × ((1 ≤ length rows / 6) × (length rows / 6 ≤ 512))) c.if-self-count.value =
    elim c.if-self-count.branch [ then-self-count w ↦ says_then first w.if-self-count.true (says_within _ _ w.new.ensures.start w.new.ensures.end w.new.ensures.exhausted w.contains.ensures.value) w.value-is | else-self-count w ↦ says_else first w.if-self-count.false w.value-is ] in
    says_sound _ _ (says_else second c.if-contains.false refl)
