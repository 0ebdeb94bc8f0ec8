-- `writing::is_stand_in` meets its contract.
use Prim.Native.Nat.{ℕ}
use native.Mathlib.Omega.{arith}
use mathlib.Core.Path.{◌≡◌}
use mathlib.Core.Bool.{Bool}
use Rattle.std.specs.Prelude.{Result, Ok, Err}
use Rattle.std.specs.Result.{result_eq}
use Rattle.meaning.specs.Says.{Says, aye, nay}
use Rattle.fragment.specs.inner.Kind.{Decodes}
use Rattle.fragment.specs.declared.kind.RowKind.{RowKind}
use Rattle.fragment.specs.declared.kind.RowKind.TheVariants.{Real, StandIn}
use Rattle.fragment.specs.declared.kind.UnknownRowKind.{UnknownRowKind}
use Rattle.fragment.specs.contracts.kind.RowKindPartialEq.TheImpl.{eq-value}
use Rattle.writing.proofs.is_stand_in.Goals as goal

-- a number read as a kind, and compared with a stand-in's
stands : (n : ℕ) (r : Result RowKind UnknownRowKind) (F : UnknownRowKind → UnknownRowKind → Bool) → Decodes n r → {b : Bool} → b ≡ result_eq eq-value.it F r (Ok StandIn) → Says (n ≡ 1) b
stands n (Ok Real) F d e = rw e (nay (λ h. omega arith))
stands n (Ok StandIn) F d e = rw e (aye (omega arith))
stands n (Err x) F d e = rw e (nay (λ h. omega arith))

pub returns : goal.returns
returns c = stands _ _ _ c.try_from.ensures c.eq.ensures
