use native.Mathlib.Omega.{arith}
use Rattle.fragment.specs.inner.Parts.{fragment_of}
use Rattle.fragment.proofs.Rules.{first_parent, late_parent, real_parent}
use Rattle.fragment.proofs.Lent.parent_ok.Goals as goal

pub returns-then-k-eq0 : goal.returns-then-k-eq0
returns-then-k-eq0 c = first_parent (fragment_of c.args.self) _ c.if-k-eq0.true

pub returns-then-parent-k : goal.returns-then-parent-k
returns-then-parent-k c = real_parent (fragment_of c.args.self) _ c.if-k-eq0.false (omega arith) c.is.ensures

pub returns-else-parent-k : goal.returns-else-parent-k
returns-else-parent-k c = late_parent (fragment_of c.args.self) _ _ c.if-k-eq0.false c.if-parent-k.false (omega arith)
