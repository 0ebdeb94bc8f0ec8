-- A byte is read as one kind, or refused in one way; so is an entry.
use Prim.Native.Nat.{◌≤◌}
use native.Mathlib.Omega.{arith}
use mathlib.Core.Path.{◌≡◌, refl, sym, ap, ◌∙◌}
use mathlib.Core.List.{List, [], ◌∷◌}
use lib.ListN.{get_or}
use Rattle.std.specs.Prelude.{Ok, Err}
use Rattle.question.specs.declared.kind.Kind.{Kind}
use Rattle.question.specs.declared.kind.Kind.TheVariants.{Itself, Label, Text, Child, At, Below, Or, And, Not}
use Rattle.question.specs.inner.Kind.{code}
use Rattle.question.proofs.Codes.{known}
use Rattle.question.specs.inner.Promise.{OneKind, OneEntry}

kinds : List Kind
kinds = Itself ∷ Label ∷ Text ∷ Child ∷ At ∷ Below ∷ Or ∷ And ∷ Not ∷ []

back : (k : Kind) → get_or kinds (code k) Itself ≡ k
unfolding kinds
back Itself = refl
back Label = refl
back Text = refl
back Child = refl
back At = refl
back Below = refl
back Or = refl
back And = refl
back Not = refl

one_code : (j k : Kind) → code j ≡ code k → j ≡ k
one_code j k e = sym (back j) ∙ ap (λ n. get_or kinds n Itself) e ∙ back k

pub one_kind : OneKind
one_kind n (Ok j) (Ok k) d e = ap Ok (one_code j k (d ∙ sym e))
one_kind n (Ok j) (Err y) d e = absurd (omega (arith, known j, d, e.1))
one_kind n (Err x) (Ok k) d e = absurd (omega (arith, known k, e, d.1))
one_kind n (Err x) (Err y) d e = λ i. Err (record { 0 = (d.0 ∙ sym e.0) i })

pub one_entry : OneEntry
one_entry l i (Ok x) (Ok y) d e = λ t. Ok (record {
  kind = one_code x.kind y.kind (d.kind ∙ sym e.kind) t;
  a = (d.a ∙ sym e.a) t;
  b = (d.b ∙ sym e.b) t;
})
one_entry l i (Ok x) (Err y) d e = absurd (omega (arith, known x.kind, d.kind, e.1))
one_entry l i (Err x) (Ok y) d e = absurd (omega (arith, known y.kind, e.kind, d.1))
one_entry l i (Err x) (Err y) d e = λ t. Err (record { 0 = (d.0 ∙ sym e.0) t })
