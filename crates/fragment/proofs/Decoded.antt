-- A number is read as one kind, or refused in one way.
use native.Mathlib.Omega.{arith}
use mathlib.Core.Path.{refl, sym, ◌∙◌}
use Rattle.std.specs.Prelude.{Ok, Err}
use Rattle.fragment.specs.declared.kind.RowKind.TheVariants.{Real, StandIn}
use Rattle.fragment.specs.inner.Promise.{OneKind}

pub one_kind : OneKind
one_kind n (Ok Real) (Ok Real) d e = refl
one_kind n (Ok Real) (Ok StandIn) d e = absurd (omega arith)
one_kind n (Ok StandIn) (Ok Real) d e = absurd (omega arith)
one_kind n (Ok StandIn) (Ok StandIn) d e = refl
one_kind n (Ok Real) (Err y) d e = absurd (omega arith)
one_kind n (Ok StandIn) (Err y) d e = absurd (omega arith)
one_kind n (Err x) (Ok Real) d e = absurd (omega arith)
one_kind n (Err x) (Ok StandIn) d e = absurd (omega arith)
one_kind n (Err x) (Err y) d e = λ i. Err (record { 0 = (d.0 ∙ sym e.0) i })
