-- The kinds of entries and the bytes that stand for them, and an entry of a list with its kind.
use Rattle.std.specs.Prelude.{◌≡◌, ℕ, ◌<◌, get_or, Result, MatchResult}
use Rattle.question.specs.declared.List as L
use Rattle.question.specs.declared.entry.Entry.{Entry}
use Rattle.question.specs.declared.kind.Kind.{Kind}
use Rattle.question.specs.declared.kind.Kind.TheVariants.{Itself, Label, Text, Child, At, Below, Or, And, Not}
use Rattle.question.specs.declared.kind.UnknownKind.{UnknownKind}

-- the byte that stands for a kind
abbrev pub code : Kind → ℕ
code Itself = 0
code Label = 1
code Text = 2
code Child = 3
code At = 4
code Below = 5
code Or = 6
code And = 7
code Not = 8

-- WHAT A BYTE GIVES: the kind that it stands for, or, where it stands for none, the byte back
abbrev pub Decodes : ℕ → Result Kind UnknownKind → Type 0
Decodes b r = MatchResult r (λ kind. code kind ≡ b) (λ e. (e.0 ≡ b) × (8 < b))

-- entry i of a list; its operands are bytes there
pub record IsEntry (l : L.List) (i : ℕ) (x : Entry) : Type 0 where
  pub kind : code x.kind ≡ get_or l.kinds i 0
  pub a : x.a ≡ get_or l.left i 0
  pub b : x.b ≡ get_or l.right i 0
  pub small : (x.a < 256) × (x.b < 256)

-- WHAT PLACE i GIVES: the entry that stands there, or, where its byte stands for no kind, that byte
abbrev pub GivesEntry : L.List → ℕ → Result Entry UnknownKind → Type 0
GivesEntry l i r = MatchResult r (λ x. IsEntry l i x) (λ e. (e.0 ≡ get_or l.kinds i 0) × (8 < get_or l.kinds i 0))
