-- What an entry reads and what it says, by its kind.
use Prim.Native.Nat.{ℕ, ◌+◌, ◌*◌, ◌<◌}
use mathlib.Core.Path.{◌≡◌, refl}
use mathlib.Core.Logic.{◌⊎◌, inl, inr}
use mathlib.Core.List.{List}
use lib.ListN.{get_or}
use Rattle.meaning.specs.Bytes.{Bytes, word}
use Rattle.meaning.specs.Fragment.{Fragment}
use Rattle.question.specs.declared.entry.Entry as E
use Rattle.formula.specs.inner.Memory.{Operands}
use Rattle.formula.specs.inner.Flat.{St, got, join_f, value_f, test_f, enter_f, entry_f}
use Rattle.question.specs.declared.List as L
use Rattle.question.specs.declared.kind.Kind.{Kind}
use Rattle.question.specs.declared.kind.Kind.TheVariants.{Itself, Label, Text, Child, At, Below, Or, And, Not}
use Rattle.question.specs.inner.Kind.{code, IsEntry}
use Rattle.question.specs.Listed.{entry_of, placed, EntryRule, Keeps}

rule_operands : {t : Bytes} {e i j : ℕ} (kind : Kind) → EntryRule t e (code kind) i j → Operands e kind i j
unfolding entry_of
rule_operands Itself r = tt
rule_operands Label r = tt
rule_operands Text r = tt
rule_operands Child r = r.points
rule_operands At r = r.points
rule_operands Below r = r.points
rule_operands Or r = r.points
rule_operands And r = r.points
rule_operands Not r = r.points

-- what a test says, of kinds that are no tests
pub told_test : (t : Bytes) (F : Fragment) (r a b : ℕ) (kind : Kind) → (kind ≡ Label → ⊥) → (kind ≡ Text → ⊥) → 4096 ≡ test_f F r (entry_of (word t) (code kind) a b)
unfolding entry_of
told_test t F r a b Itself x y = refl
told_test t F r a b Label x y = absurd (x refl)
told_test t F r a b Text x y = absurd (y refl)
told_test t F r a b Child x y = refl
told_test t F r a b At x y = refl
told_test t F r a b Below x y = refl
told_test t F r a b Or x y = refl
told_test t F r a b And x y = refl
told_test t F r a b Not x y = refl

module _ (size base i j t : ℕ) (m : List ℕ) (n : ℕ) (kind : Kind) where
  pub told_value : kind ≡ Itself ⊎ (kind ≡ Label ⊎ kind ≡ Text) → got m n t ≡ value_f size base (placed (code kind) i j) t m n
  unfolding entry_of
  told_value (inl e) = rw e refl
  told_value (inr (inl e)) = rw e refl
  told_value (inr (inr e)) = rw e refl

  -- child and below, at the place that was read
  pub child_value : {place : ℕ} → kind ≡ Child → place ≡ size + base + i → got m n (get_or m place 0) ≡ value_f size base (placed (code kind) i j) t m n
  unfolding entry_of
  child_value e p = rw (e, p) refl

  pub below_value : {place : ℕ} → kind ≡ Below → place ≡ 2 * size + base + i → got m n (get_or m place 0) ≡ value_f size base (placed (code kind) i j) t m n
  unfolding entry_of
  below_value e p = rw (e, p) refl

  pub both_value : kind ≡ At ⊎ kind ≡ And → join_f size 0 (get_or m (base + i) 0) (get_or m (base + j) 0) m n ≡ value_f size base (placed (code kind) i j) t m n
  unfolding entry_of
  both_value (inl e) = rw e refl
  both_value (inr e) = rw e refl

module _ (l : L.List) (t : Bytes) (e : ℕ) (x : E.Entry) (is : IsEntry l e x) where
  pub kept_rule : Keeps l t → e < l.count → EntryRule t e (code x.kind) x.a x.b
  kept_rule h inside = rw (is.kind, is.a, is.b) (h.each e inside)

  pub kept_operands : Keeps l t → e < l.count → Operands e x.kind x.a x.b
  kept_operands h inside = rule_operands x.kind (kept_rule h inside)

  pub entered_is : (F : Fragment) (size base k told : ℕ) (s : St) {size' : ℕ} → size' ≡ size → told ≡ test_f F k (entry_of (word t) (code x.kind) x.a x.b)
      → enter_f size' base e (placed (code x.kind) x.a x.b) told s ≡ entry_f l t F size base k e s
  unfolding entry_f
  entered_is F size base k told s z q = cc
