-- What the lent slices stand for.
use Rattle.std.specs.Prelude.{ℕ, List}
use Rattle.meaning.specs.Bytes.{Bytes}
use Rattle.meaning.specs.Fragment.{Fragment}

abbrev pub lent : List ℕ → Bytes → Fragment
lent rows pool = record { rows = rows; pool = pool }
