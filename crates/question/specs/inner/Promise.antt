-- What is proved of the kinds of entries: a byte is read as one kind, or refused in one way, and so is an entry.
use Rattle.std.specs.Prelude.{ℕ, ◌≡◌, Result}
use Rattle.question.specs.declared.List as L
use Rattle.question.specs.declared.entry.Entry.{Entry}
use Rattle.question.specs.declared.kind.Kind.{Kind}
use Rattle.question.specs.declared.kind.UnknownKind.{UnknownKind}
use Rattle.question.specs.inner.Kind.{Decodes, GivesEntry}

abbrev pub OneKind : Type 0
OneKind = (byte : ℕ) (a b : Result Kind UnknownKind) → Decodes byte a → Decodes byte b → a ≡ b

abbrev pub OneEntry : Type 0
OneEntry = (l : L.List) (i : ℕ) (a b : Result Entry UnknownKind) → GivesEntry l i a → GivesEntry l i b → a ≡ b
