-- `solving::Known::results` meets its contract.
use Prim.Native.Nat.{◌+◌, ◌*◌}
use mathlib.Core.Path.{◌≡◌}
use Rattle.meaning.specs.Algebra.{bool}
use Rattle.meaning.specs.Formula.{ref_value}
use Rattle.reply.specs.inner.Decode.{ref_at}
use Rattle.solving.specs.inner.Values.{truth_in, Put}
use Rattle.solving.proofs.Known.results.Given as goal

abbrev pub invariant-loop-e : goal.invariant-loop-e
invariant-loop-e l = record {
  vars : l.self.vars ≡ l.initial.self.vars;
  values : l.self.values ≡ l.initial.self.values;
  put : Put l.initial.self.rows (64 * l.f) l.e (λ e. ref_value bool (truth_in l.initial.self.vars) l.initial.self.values (ref_at 12 l.r.bytes.now (l.at + 14 * e))) l.self.rows;
}
