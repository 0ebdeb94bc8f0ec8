use mathlib.Core.Path.{refl}
use Rattle.meaning.proofs.Numbers.{says_eqb}
use Rattle.fragment.proofs.Lent.stands_for.Goals as goal
use Rattle.meaning.proofs.Says.{says_then, says_else}

pub returns-then-is : goal.returns-then-is
returns-then-is c = says_then c.is.ensures c.if-is.true (says_eqb _ _) refl

pub returns-else-is : goal.returns-else-is
returns-else-is c = says_else c.is.ensures c.if-is.false refl
