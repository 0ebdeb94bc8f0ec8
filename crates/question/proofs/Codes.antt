-- The rule for an entry, from its kind and what the code tests of its operands.
use Prim.Native.Nat.{ℕ, ◌≤◌, ◌<◌}
use native.Mathlib.Omega.{arith}
use mathlib.Core.Path.{◌≡◌}
use mathlib.Core.Bool.{Bool, false}
use mathlib.Core.Logic.{◌⊎◌, inl, inr}
use Rattle.meaning.specs.Says.{Says, nay}
use Rattle.meaning.specs.Bytes.{Bytes}
use Rattle.meaning.proofs.Says.{says_iff}
use Rattle.meaning.specs.Entry.{Points}
use Rattle.question.specs.declared.kind.Kind.{Kind}
use Rattle.question.specs.declared.kind.Kind.TheVariants.{Itself, Label, Text, Child, At, Below, Or, And, Not}
use Rattle.question.specs.declared.List as L
use Rattle.question.specs.declared.entry.Entry.{Entry}
use lib.ListN.{get_or}
use Rattle.question.specs.inner.Kind.{code, IsEntry}
use Rattle.question.specs.Listed.{Inside, entry_of, placed, EntryRule}

pub known : (kind : Kind) → code kind ≤ 8
known Itself = omega arith
known Label = omega arith
known Text = omega arith
known Child = omega arith
known At = omega arith
known Below = omega arith
known Or = omega arith
known And = omega arith
known Not = omega arith

-- an entry of this kind keeps its rule where the kind's own part of the rule holds
module _ (t : Bytes) (i a b : ℕ) {r : Bool} (kind : Kind) where
  rule : Says (Points (Inside t) i (placed (code kind) a b)) r → Says (EntryRule t i (code kind) a b) r
  rule s = says_iff (λ p. record { known = known kind; points = p }) (λ w. w.points) s

  pub self_rule : kind ≡ Itself → Says (Unit {0}) r → Says (EntryRule t i (code kind) a b) r
  unfolding entry_of
  self_rule h s = rule (rw h s)

  pub word_rule : kind ≡ Label ⊎ kind ≡ Text → Says (Inside t (a, b)) r → Says (EntryRule t i (code kind) a b) r
  unfolding entry_of
  word_rule (inl h) s = rule (rw h s)
  word_rule (inr h) s = rule (rw h s)

  pub one_rule : kind ≡ Child ⊎ (kind ≡ Below ⊎ kind ≡ Not) → Says (a < i) r → Says (EntryRule t i (code kind) a b) r
  unfolding entry_of
  one_rule (inl h) s = rule (rw h s)
  one_rule (inr (inl h)) s = rule (rw h s)
  one_rule (inr (inr h)) s = rule (rw h s)

  pub two_rule : kind ≡ At ⊎ (kind ≡ Or ⊎ kind ≡ And) → Says ((a < i) × (b < i)) r → Says (EntryRule t i (code kind) a b) r
  unfolding entry_of
  two_rule (inl h) s = rule (rw h s)
  two_rule (inr (inl h)) s = rule (rw h s)
  two_rule (inr (inr h)) s = rule (rw h s)

-- the rule for entry i of a list, whose place gives x, or gives no entry
module _ (l : L.List) {t : Bytes} {i : ℕ} where
  pub given_rule : {b : Bool} {x : Entry} → IsEntry l i x → Says (EntryRule t i (code x.kind) x.a x.b) b
      → Says (EntryRule t i (get_or l.kinds i 0) (get_or l.left i 0) (get_or l.right i 0)) b
  given_rule is s = rw (← is.kind, ← is.a, ← is.b) s

  pub no_rule : 8 < get_or l.kinds i 0 → Says (EntryRule t i (get_or l.kinds i 0) (get_or l.left i 0) (get_or l.right i 0)) false
  no_rule h = nay (λ w. omega (arith, w.known))
