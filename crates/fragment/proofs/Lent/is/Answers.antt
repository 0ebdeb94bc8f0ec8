use Prim.Native.Nat.{ℕ}
use native.Mathlib.Omega.{arith}
use mathlib.Core.Path.{◌≡◌}
use mathlib.Core.Bool.{Bool}
use Rattle.std.specs.Prelude.{Result, Ok, Err}
use Rattle.std.specs.Result.{result_eq}
use Rattle.meaning.specs.Says.{Says, aye, nay}
use Rattle.fragment.specs.inner.Kind.{code_of, Decodes}
use Rattle.fragment.specs.declared.kind.RowKind.{RowKind}
use Rattle.fragment.specs.declared.kind.RowKind.TheVariants.{Real, StandIn}
use Rattle.fragment.specs.declared.kind.UnknownRowKind.{UnknownRowKind}
use Rattle.fragment.specs.contracts.kind.RowKindPartialEq.TheImpl.{eq-value}
use Rattle.fragment.proofs.Lent.is.Goals as goal

-- a number read as a kind, and compared with one
compared : (n : ℕ) (kind : RowKind) (r : Result RowKind UnknownRowKind) (F : UnknownRowKind → UnknownRowKind → Bool) → Decodes n r → {b : Bool} → b ≡ result_eq eq-value.it F r (Ok kind) → Says (n ≡ code_of kind) b
compared n Real (Ok Real) F d e = rw e (aye (omega arith))
compared n Real (Ok StandIn) F d e = rw e (nay (λ h. omega arith))
compared n StandIn (Ok Real) F d e = rw e (nay (λ h. omega arith))
compared n StandIn (Ok StandIn) F d e = rw e (aye (omega arith))
compared n Real (Err x) F d e = rw e (nay (λ h. omega arith))
compared n StandIn (Err x) F d e = rw e (nay (λ h. omega arith))

pub returns : goal.returns
returns c = compared _ _ _ _ c.kind.ensures c.eq.ensures
