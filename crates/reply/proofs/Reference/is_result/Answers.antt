-- `reply::Reference::is_result` meets its contract.
use native.Mathlib.Omega.{arith}
use borrow.Author.Tests.{ltb-true, ltb-false, leb-true, leb-false}
use mathlib.Core.Logic.{⊎_elim}
use Rattle.reply.specs.inner.Checked.{RefOk}
use Rattle.reply.proofs.Reference.is_result.Goals as goal
use Rattle.meaning.proofs.Says.{says_by}
use Rattle.meaning.proofs.Numbers.{says_eqb}

pub returns-in-Low : goal.returns-in-Low
unfolding RefOk
returns-in-Low c = ⊎_elim (λ e. rw e (says_eqb _ _)) (λ e. rw e (says_eqb _ _)) c.in-Low.is

pub returns-in-Var : goal.returns-in-Var
unfolding RefOk
returns-in-Var c = rw c.in-Var.is (says_by _ (λ e. omega (arith, ltb-true, leb-true)) (λ e h. omega (arith, ltb-false, leb-false)))

pub returns-in-Step : goal.returns-in-Step
unfolding RefOk
returns-in-Step c = rw c.in-Step.is (says_by _ (λ e. omega (arith, ltb-true, leb-true)) (λ e h. omega (arith, ltb-false, leb-false)))
