-- `whole::Question::all_tiles` meets its contract.
use Rattle.std.proofs.Common.{ℕ, inl, inr, ⊎_elim, rules}
use Rattle.meaning.proofs.Says.{says_iff, says_true, says_false, says_at}
use Rattle.meaning.specs.Says.{Says}
use Rattle.meaning.proofs.Ranges.{says_below, says_each}
use Rattle.whole.specs.Whole.{Heard, start_of, size_of}
use Rattle.whole.specs.inner.Steps.{TileOk}
use Rattle.whole.proofs.Question.all_tiles.Goals as goal
use Rattle.whole.proofs.Question.all_tiles.Goals.{After-all}
use Rattle.meaning.proofs.Numbers.{says_eqb}

each : (c : After-all) → Says ((f : ℕ) → Heard c.args.self.now f → TileOk (Heard c.args.self.now) (start_of c.args.self.now) (size_of c.args.self.now) c.args.used f) c.all.result
each c = says_each (λ f h. h.0) (says_below _ c.all.ensures.ran (λ x b q k. (search rules, search (rules, says_at))))

pub returns-then-used-eq0 : goal.returns-then-used-eq0
returns-then-used-eq0 c = says_iff (λ e. record { each = says_true (each (goal.at.returns-then-used-eq0 c).After-all) c.if-all.true; begins = inl e }) (λ t. c.if-used-eq0.true) (says_eqb _ _)

pub returns-else-used-eq0 : goal.returns-else-used-eq0
returns-else-used-eq0 c =
    says_iff (λ z. record { each = says_true (each (goal.at.returns-else-used-eq0 c).After-all) c.if-all.true; begins = inr z })
    (λ t. ⊎_elim (λ e. absurd (c.if-used-eq0.false e)) (λ z. z) t.begins) c.starts.ensures

pub returns-else-all : goal.returns-else-all
returns-else-all c =
    let e = each (goal.at.returns-else-all c).After-all in
    says_iff (λ a. absurd (says_false e c.if-all.false a)) (λ t. t.each) e
