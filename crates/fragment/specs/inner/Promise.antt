-- What is proved of the kinds of rows: a number is read as one kind, or refused in one way.
use Rattle.std.specs.Prelude.{ℕ, ◌≡◌, Result}
use Rattle.fragment.specs.declared.kind.RowKind.{RowKind}
use Rattle.fragment.specs.declared.kind.UnknownRowKind.{UnknownRowKind}
use Rattle.fragment.specs.inner.Kind.{Decodes}

abbrev pub OneKind : Type 0
OneKind = (code : ℕ) (a b : Result RowKind UnknownRowKind) → Decodes code a → Decodes code b → a ≡ b
