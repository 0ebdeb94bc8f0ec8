use mathlib.Core.Path.{refl}
use native.Mathlib.Omega.{arith}
use borrow.Author.Rules.{rules}
use Rattle.meaning.specs.Says.{aye, nay}
use Rattle.meaning.proofs.Says.{says_not, says_then, says_else}
use Rattle.meaning.proofs.Ranges.{says_some}
use Rattle.fragment.proofs.Rules.{says_stand, says_zeros}
use Rattle.fragment.proofs.Lent.stand_in_ok.Goals as goal
use Rattle.fragment.proofs.Lent.stand_in_ok.Goals.{then-goes-le31, else-goes-le31}

pub returns-then-eq : goal.returns-then-eq
returns-then-eq c = says_stand _ _ _ c.requires.1 (says_then (elim c.if-goes-le31.branch [ then-goes-le31 w ↦ says_then (aye (omega (arith, w.if-goes-le31.true), omega (arith, w.if-goes-le31.true))) refl (says_zeros _ _ c.requires.0 w.eq.ensures) w.value-is | else-goes-le31 w ↦ says_else (nay (λ h. omega (arith, h, w.if-goes-le31.either))) refl (cc) ]) c.if-eq.true (says_not (says_some _ c.any.ensures.ran (λ x b q h. search rules))) refl)

pub returns-else-eq : goal.returns-else-eq
returns-else-eq c = says_stand _ _ _ c.requires.1 (says_else (elim c.if-goes-le31.branch [ then-goes-le31 w ↦ says_then (aye (omega (arith, w.if-goes-le31.true), omega (arith, w.if-goes-le31.true))) refl (says_zeros _ _ c.requires.0 w.eq.ensures) w.value-is | else-goes-le31 w ↦ says_else (nay (λ h. omega (arith, h, w.if-goes-le31.either))) refl (cc) ]) c.if-eq.false refl)
