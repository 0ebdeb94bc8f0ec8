-- STEP LISTS keep the laws, under every assignment of the variables.
use Prim.Native.Nat.{ℕ, ◌+◌, ◌≤◌, ◌<◌}
use native.Mathlib.Omega.{arith}
use native.Mathlib.Nat.{add-zero, zero-add}
use mathlib.Core.Path.{◌≡◌, refl, sym, ap, ◌∙◌, subst}
use mathlib.Core.Bool.{Bool, true, false, not, ◌&&◌, ◌||◌, true≢false, false≢true}
use mathlib.Core.Option.{Option, none, some}
use mathlib.Core.List.{List, [], ◌∷◌, ◌++◌, append_assoc, append-nil}
use lib.ListN.{length, get_or, length-append, get_or-append}
use lib.Seq.{get_or_at}
use Rattle.meaning.specs.Algebra.{bool}
use Rattle.meaning.specs.Formula.{Ref, Step, added, constant, and_of, or_of, negated, formula, ref_value, step_value, step_values, value}
use Rattle.meaning.proofs.Entry.{length_snoc}
use Rattle.meaning.proofs.Algebra.{Reading, Laws}

-- BOTH OPERATIONS AT ONCE: or where z is true, and where it is false; z is the constant that decides
abbrev pub step_of : Bool → Ref → Ref → Step
step_of true a b = Step.or a b
step_of false a b = Step.and a b

abbrev pub join_of : Bool → List Step → Ref → Ref → Option Bool → Option Bool → List Step × Ref
join_of true s a b o p = or_of s a b o p
join_of false s a b o p = and_of s a b o p

abbrev pub join : Bool → List Step → Ref → Ref → List Step × Ref
join z s a b = join_of z s a b (constant a) (constant b)

-- what holds of both: the left operand decides or leaves the right, or the right one does, or there is one more step
module _ (s : List Step) (a b : Ref) (P : List Step × Ref → Type 0) where
  pub joins : (z : Bool) → (constant a ≡ some z → P (s, a)) → (constant a ≡ some (not z) → P (s, b)) → (constant b ≡ some z → P (s, b)) → (constant b ≡ some (not z) → P (s, a))
      → (constant a ≡ none → constant b ≡ none → P (added s (step_of z a b))) → P (join z s a b)
  joins true d l d' l' m = go (constant a) (constant b) refl refl
    where
      go : (o p : Option Bool) → constant a ≡ o → constant b ≡ p → P (or_of s a b o p)
      go (some true) p e f = d e
      go (some false) p e f = l e
      go none (some true) e f = d' f
      go none (some false) e f = l' f
      go none none e f = m e f
  joins false d l d' l' m = go (constant a) (constant b) refl refl
    where
      go : (o p : Option Bool) → constant a ≡ o → constant b ≡ p → P (and_of s a b o p)
      go (some false) p e f = d e
      go (some true) p e f = l e
      go none (some false) e f = d' f
      go none (some true) e f = l' f
      go none none e f = m e f

-- the reference is no step past the list
abbrev pub Within : ℕ → Ref → Type 0
Within n Ref.low = Unit {0}
Within n Ref.high = Unit {0}
Within n (Ref.var x) = Unit {0}
Within n (Ref.step i) = i < n

pub record Extends (s s' : List Step) : Type 0 where
  pub more : List Step
  pub is : s' ≡ s ++ more

extends_same : (s : List Step) → Extends s s
extends_same s = record { more = []; is = sym (append-nil s) }

extends_trans : (s s' s'' : List Step) → Extends s s' → Extends s' s'' → Extends s s''
extends_trans s s' s'' x y = record { more = x.more ++ y.more; is = y.is ∙ ap (λ z. z ++ y.more) x.is ∙ append_assoc s x.more y.more }

extends_added : (s : List Step) (x : Step) → Extends s (added s x).0
extends_added s x = record { more = x ∷ []; is = refl }

extends_join : (z : Bool) (s : List Step) (a b : Ref) → Extends s (join z s a b).0
extends_join z s a b = joins s a b (λ o. Extends s o.0) z (λ e. extends_same s) (λ e. extends_same s) (λ e. extends_same s) (λ e. extends_same s) (λ e f. extends_added s (step_of z a b))

extends_negated : (s : List Step) (a : Ref) → Extends s (negated s a).0
extends_negated s Ref.low = extends_same s
extends_negated s Ref.high = extends_same s
extends_negated s (Ref.var x) = extends_added s (Step.not (Ref.var x))
extends_negated s (Ref.step i) = extends_added s (Step.not (Ref.step i))

module _ (α : ℕ → Bool) where
  values_append : (vs : List Bool) (s t : List Step) → step_values bool α vs (s ++ t) ≡ step_values bool α (step_values bool α vs s) t
  unfolding step_values
  values_append vs [] t = refl
  values_append vs (x ∷ s) t = values_append (vs ++ (step_value bool α vs x ∷ [])) s t

  values_keep : (vs : List Bool) (s : List Step) (i : ℕ) → i < length vs → get_or (step_values bool α vs s) i false ≡ get_or vs i false
  unfolding step_values
  values_keep vs [] i h = refl
  values_keep vs (x ∷ s) i h = values_keep (vs ++ (step_value bool α vs x ∷ [])) s i (rw length_snoc (omega arith)) ∙ get_or-append vs (step_value bool α vs x ∷ []) false i h

  values_length : (vs : List Bool) (s : List Step) → length (step_values bool α vs s) ≡ length s + length vs
  unfolding step_values
  values_length vs [] = sym (zero-add (length vs))
  values_length vs (x ∷ s) = values_length (vs ++ (step_value bool α vs x ∷ [])) s ∙ rw length_snoc (omega arith)

  -- in the steps s the reference r exists and has the value b
  pub record Value (s : List Step) (r : Ref) (b : Bool) : Type 0 where
    pub within : Within (length s) r
    pub is : value bool α s r ≡ b

  within_more : (n m : ℕ) (r : Ref) → n ≤ m → Within n r → Within m r
  within_more n m Ref.low h w = tt
  within_more n m Ref.high h w = tt
  within_more n m (Ref.var x) h w = tt
  within_more n m (Ref.step i) h w = omega arith

  value_keeps : (s t : List Step) (r : Ref) → Within (length s) r → value bool α (s ++ t) r ≡ value bool α s r
  value_keeps s t Ref.low w = refl
  value_keeps s t Ref.high w = refl
  value_keeps s t (Ref.var x) w = refl
  value_keeps s t (Ref.step i) w = rw values_append (values_keep (step_values bool α [] s) t i (rw (values_length [] s) (omega arith)))

  keeps : (s s' : List Step) (r : Ref) (b : Bool) → Extends s s' → Value s r b → Value s' r b
  keeps s s' r b x v = subst (λ z. Value z r b) (sym x.is) (record { within = within_more (length s) (length (s ++ x.more)) r (omega (arith, length-append s x.more)) v.within; is = value_keeps s x.more r v.within ∙ v.is })

  -- a step that is added has its value
  added_is : (s : List Step) (x : Step) → Value (added s x).0 (added s x).1 (step_value bool α (step_values bool α [] s) x)
  unfolding step_values
  added_is s x = record { within = rw length_snoc (omega arith); is = rw values_append (get_or_at (step_values bool α [] s) (step_value bool α (step_values bool α [] s) x) [] false (length s) (values_length [] s ∙ add-zero (length s))) }

  -- a constant has its value
  constant_is : (s : List Step) (r : Ref) (b x : Bool) → constant r ≡ some b → Value s r x → x ≡ b
  constant_is s Ref.low b x e v = sym v.is ∙ cc
  constant_is s Ref.high b x e v = sym v.is ∙ cc
  constant_is s (Ref.var i) b x e v = cc
  constant_is s (Ref.step i) b x e v = cc

  -- or and and: the truth value z decides, and the other leaves what it meets
  value_by : Bool → Bool → Bool → Bool
  value_by true x y = x || y
  value_by false x y = x && y

  decides : (z x y : Bool) → x ≡ z → value_by z x y ≡ x
  unfolding value_by
  decides true true y e = refl
  decides true false y e = absurd (false≢true e)
  decides false true y e = absurd (true≢false e)
  decides false false y e = refl

  leaves : (z x y : Bool) → x ≡ not z → value_by z x y ≡ y
  unfolding value_by
  leaves true true y e = absurd (true≢false e)
  leaves true false y e = refl
  leaves false true y e = refl
  leaves false false y e = absurd (false≢true e)

  turned : (z x y : Bool) → value_by z x y ≡ value_by z y x
  unfolding value_by
  turned true true true = refl
  turned true true false = refl
  turned true false true = refl
  turned true false false = refl
  turned false true true = refl
  turned false true false = refl
  turned false false true = refl
  turned false false false = refl

  step_value_lem : (z : Bool) (vs : List Bool) (a b : Ref) → step_value bool α vs (step_of z a b) ≡ value_by z (ref_value bool α vs a) (ref_value bool α vs b)
  unfolding value_by
  step_value_lem true vs a b = refl
  step_value_lem false vs a b = refl

  join_is : (z : Bool) (s : List Step) (a b : Ref) (x y : Bool) → Value s a x → Value s b y → Value (join z s a b).0 (join z s a b).1 (value_by z x y)
  join_is z s a b x y va vb =
      joins s a b (λ o. Value o.0 o.1 (value_by z x y)) z
      (λ e. subst (Value s a) (sym (decides z x y (constant_is s a z x e va))) va)
      (λ e. subst (Value s b) (sym (leaves z x y (constant_is s a (not z) x e va))) vb)
      (λ e. subst (Value s b) (sym (turned z x y ∙ decides z y x (constant_is s b z y e vb))) vb)
      (λ e. subst (Value s a) (sym (turned z x y ∙ leaves z y x (constant_is s b (not z) y e vb))) va)
      (λ e f. subst (Value (added s (step_of z a b)).0 (added s (step_of z a b)).1) (step_value_lem z (step_values bool α [] s) a b ∙ ap (λ w. value_by z w (value bool α s b)) va.is ∙ ap (value_by z x) vb.is) (added_is s (step_of z a b)))

  low_value : (s : List Step) → Value s Ref.low false
  low_value s = record { within = tt; is = refl }

  high_value : (s : List Step) → Value s Ref.high true
  high_value s = record { within = tt; is = refl }

  neg_value : (s : List Step) (r : Ref) (x : Bool) → Value s r x → Value (negated s r).0 (negated s r).1 (not x)
  neg_value s Ref.low x v = subst (λ z. Value s Ref.high (not z)) v.is (high_value s)
  neg_value s Ref.high x v = subst (λ z. Value s Ref.low (not z)) v.is (low_value s)
  neg_value s (Ref.var i) x v = subst (λ z. Value (added s (Step.not (Ref.var i))).0 (Ref.step (length s)) (not z)) v.is (added_is s (Step.not (Ref.var i)))
  neg_value s (Ref.step i) x v = subst (λ z. Value (added s (Step.not (Ref.step i))).0 (Ref.step (length s)) (not z)) v.is (added_is s (Step.not (Ref.step i)))

  abbrev pub reading : Reading formula
  reading = record { Later = Extends; Is = Value }

  pub formula_laws : Laws formula reading
  unfolding value_by
  formula_laws = record {
    same = extends_same;
    trans = extends_trans;
    keep = keeps;
    low_is = low_value;
    high_is = high_value;
    and_later = extends_join false;
    or_later = extends_join true;
    neg_later = extends_negated;
    and_is = join_is false;
    or_is = join_is true;
    neg_is = neg_value;
  }
