-- STEP LISTS (01, "A depot's formula"): a reference is false, true, a variable or a step; joining with a constant makes no step.
use Rattle.std.specs.Prelude.{ℕ, Bool, true, false, List, [], ◌∷◌, ◌++◌, length, get_or}
use Rattle.std.proofs.Math.Option.{Option, none, some}
use Rattle.meaning.specs.Algebra.{Algebra, Truth}

pub data Ref : Type 0 where
  low high : Ref
  var step : ℕ → Ref

pub data Step : Type 0 where
  and or : Ref → Ref → Step
  not : Ref → Step

-- any other and, or, not adds one step
abbrev pub added : List Step → Step → List Step × Ref
added s x = (s ++ (x ∷ []), step (length s))

abbrev pub constant : Ref → Option Bool
constant low = some false
constant high = some true
constant (var x) = none
constant (step i) = none

-- a and b, where the last two are `constant a` and `constant b`: false decides an and, true leaves the other, no constant makes a step
abbrev pub and_of : List Step → Ref → Ref → Option Bool → Option Bool → List Step × Ref
and_of s a b (some false) o = (s, a)
and_of s a b (some true) o = (s, b)
and_of s a b none (some false) = (s, b)
and_of s a b none (some true) = (s, a)
and_of s a b none none = added s (and a b)

-- true decides an or, false leaves the other, no constant makes a step
abbrev pub or_of : List Step → Ref → Ref → Option Bool → Option Bool → List Step × Ref
or_of s a b (some true) o = (s, a)
or_of s a b (some false) o = (s, b)
or_of s a b none (some true) = (s, b)
or_of s a b none (some false) = (s, a)
or_of s a b none none = added s (or a b)

abbrev pub negated : List Step → Ref → List Step × Ref
negated s low = (s, high)
negated s high = (s, low)
negated s (var x) = added s (not (var x))
negated s (step i) = added s (not (step i))

abbrev pub formula : Algebra
formula = record {
  St = List Step;
  Ref = Ref;
  low = low;
  high = high;
  and = λ s a b. and_of s a b (constant a) (constant b);
  or = λ s a b. or_of s a b (constant a) (constant b);
  neg = negated;
}

-- THE VALUE of a reference, where `α` gives the variables their values
module _ (B : Truth) (α : ℕ → B.X) where
  abbrev pub ref_value : List B.X → Ref → B.X
  ref_value vs low = B.no
  ref_value vs high = B.yes
  ref_value vs (var x) = α x
  ref_value vs (step i) = get_or vs i B.no

  abbrev pub step_value : List B.X → Step → B.X
  step_value vs (and a b) = B.and (ref_value vs a) (ref_value vs b)
  step_value vs (or a b) = B.or (ref_value vs a) (ref_value vs b)
  step_value vs (not a) = B.neg (ref_value vs a)

  -- the steps' values in order, after those of the steps before
  unfoldable pub step_values : List B.X → List Step → List B.X
  step_values vs [] = vs
  step_values vs (x ∷ s) = step_values (vs ++ (step_value vs x ∷ [])) s

  abbrev pub value : List Step → Ref → B.X
  value s r = ref_value (step_values [] s) r
