-- `solving::Known::gather` meets its contract.
use mathlib.Core.Path.{◌≡◌}
use lib.ListN.{length}
use Rattle.solving.proofs.Replies.{Gathered}
use Rattle.solving.proofs.Known.gather.Given as goal

abbrev pub invariant-loop-p : goal.invariant-loop-p
invariant-loop-p l = record {
  same : l.self.rows ≡ l.initial.self.rows;
  long : length l.self.vars ≡ 2048;
  gathered : Gathered l.r.bytes.now l.self.rows l.self.vars l.n l.p;
}
