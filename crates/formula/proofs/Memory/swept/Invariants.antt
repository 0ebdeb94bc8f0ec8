use mathlib.Core.Path.{◌≡◌}
use Prim.Native.Nat.{◌/◌}
use lib.ListN.{length}
use Rattle.meaning.specs.Bound.{count}
use Rattle.formula.specs.inner.Flat.{stands, deliver_f, sweep_f}
use Rattle.formula.specs.inner.Memory.{state, fragment_of}
use Rattle.formula.proofs.Loops.{Falling}
use Rattle.formula.proofs.Memory.swept.Given as goal

abbrev pub invariant-loop-k : goal.invariant-loop-k
invariant-loop-k l =
    let s = l.source in
    let rows = s.fragment.rows.now in
    let size = l.initial.self.cells in
    record {
      place : l.place ≡ count (stands rows) l.k;
      falling : Falling l.initial.self l.self (λ j. deliver_f s.list s.text.now (fragment_of s) size j (count (stands rows) j)) l.k (sweep_f s.list s.text.now (fragment_of s) size (length rows / 6) (state l.initial.self));
    }
