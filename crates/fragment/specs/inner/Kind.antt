-- The kinds of rows and their numbers.
use Rattle.std.specs.Prelude.{◌≡◌, ℕ, ◌<◌, Result, MatchResult}
use Rattle.fragment.specs.declared.kind.RowKind.{RowKind}
use Rattle.fragment.specs.declared.kind.RowKind.TheVariants.{Real, StandIn}
use Rattle.fragment.specs.declared.kind.UnknownRowKind.{UnknownRowKind}

-- the number that stands for a kind
abbrev pub code_of : RowKind → ℕ
code_of Real = 0
code_of StandIn = 1

-- the kind with this number, or the number, where no kind has it
abbrev pub Decodes : ℕ → Result RowKind UnknownRowKind → Type 0
Decodes code r = MatchResult r (λ kind. code_of kind ≡ code) (λ e. (e.0 ≡ code) × (1 < code))
