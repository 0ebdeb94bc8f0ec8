use native.Mathlib.Omega.{arith}
use mathlib.Core.Logic.{inl, inr}
use borrow.Author.Rules.{rules}
use Rattle.formula.proofs.Joins.{takes_left, takes_right, takes_step}
use Rattle.formula.proofs.Stops.{gives_along}
use Rattle.formula.proofs.Memory.joined.Goals as goal
use Rattle.formula.proofs.Memory.joined.Goals.{then-a-leaves-via-then-a-leaves, then-a-leaves-via-else-a-leaves+then-b-decides}

pub returns-then-a-decides-clause-gives : goal.returns-then-a-decides-clause-gives
returns-then-a-decides-clause-gives c =
    record { is = takes_left _ _ _ _ _ _ _ c.requires c.deciding-decides.ensures (inl (omega (arith, c.if-a-decides.true))); count = search rules }

pub returns-then-a-leaves-clause-gives : goal.returns-then-a-leaves-clause-gives
returns-then-a-leaves-clause-gives c =
    record {
      is = takes_right _ _ _ _ _ _ _ c.requires c.deciding-decides.ensures (elim c.then-a-leaves.branch [
        | then-a-leaves-via-then-a-leaves w ↦ inl (omega (arith, w.if-a-leaves.true))
        | then-a-leaves-via-else-a-leaves+then-b-decides w ↦ inr (omega (arith, w.if-b-decides.true))
      ]);
      count = search rules;
    }

pub returns-then-b-leaves-clause-gives : goal.returns-then-b-leaves-clause-gives
returns-then-b-leaves-clause-gives c =
    record {
      is = takes_left _ _ _ _ _ _ _ c.requires c.deciding-decides.ensures (inr ((λ e. omega (arith, e, c.if-a-decides.false)), omega (arith, c.if-b-leaves.true)));
      count = search rules;
    }

pub returns-clause-gives : goal.returns-clause-gives
returns-clause-gives c = gives_along _ _ (takes_step _ _ _ _ _ _ _ c.requires c.deciding-decides.ensures
    (λ e. omega (arith, e, c.if-a-decides.false)) (λ e. omega (arith, e, c.if-a-leaves.false)) (λ e. omega (arith, e, c.if-b-decides.false)) (λ e. omega (arith, e, c.if-b-leaves.false))) c.added.ensures.gives
