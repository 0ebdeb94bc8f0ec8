use native.Mathlib.Omega.{arith}
use borrow.Author.Tests.{ltb-true, ltb-false, leb-true, leb-false}
use Rattle.meaning.specs.Says.{aye}
use Rattle.meaning.proofs.Numbers.{says_ltb, says_leb}
use Rattle.question.proofs.Codes.{self_rule, word_rule, one_rule, two_rule}
use Rattle.question.proofs.entry.Entry.ok.Goals as goal
use Rattle.meaning.proofs.Says.{says_by, both_then, both_else}

pub returns-in-Itself : goal.returns-in-Itself
returns-in-Itself c = self_rule _ _ _ _ c.args.self.kind c.in-Itself.is (aye tt)

pub returns-then-b-le64 : goal.returns-then-b-le64
returns-then-b-le64 c = word_rule _ _ _ _ c.args.self.kind c.in-Label.is (both_then (omega arith) (says_leb _ _))

pub returns-else-b-le64 : goal.returns-else-b-le64
returns-else-b-le64 c = word_rule _ _ _ _ c.args.self.kind c.in-Label.is (both_else (λ h. omega arith) (says_leb _ _))

pub returns-in-Child : goal.returns-in-Child
returns-in-Child c = one_rule _ _ _ _ c.args.self.kind c.in-Child.is (says_ltb _ _)

pub returns-then-a-i : goal.returns-then-a-i
returns-then-a-i c = two_rule _ _ _ _ c.args.self.kind c.in-At.is (says_by _ (λ e. (omega arith, omega (arith, e, ltb-true, leb-true))) (λ e w. omega (arith, e, w.1, ltb-false, leb-false)))

pub returns-else-a-i : goal.returns-else-a-i
returns-else-a-i c = two_rule _ _ _ _ c.args.self.kind c.in-At.is (both_else (λ h. omega arith) (says_ltb _ _))
