use native.Mathlib.Omega.{arith}
use mathlib.Core.Path.{ap}
use lib.ListN.{length, length-append}
use Prim.Native.Nat.{ℕ}
use Rattle.listing.proofs.Lines.{one_size, two_size, put_one, put_two}
use Rattle.listing.proofs.page.Page.put_number.Goals as goal
use Rattle.listing.proofs.page.Page.put_number.Goals.{then-n-ge10, else-n-ge10}

pub put-requires : goal.put-requires
put-requires c = omega (arith, two_size c.args.n c.if-n-ge10.true)

pub put-requires-2 : goal.put-requires-2
put-requires-2 c = elim c.if-n-ge10.branch [
  | then-n-ge10 w ↦ omega (arith, two_size c.args.n w.if-n-ge10.true, ap length w.self-is, ap length w.put.ensures, length-append {A = ℕ})
  | else-n-ge10 w ↦ omega (arith, one_size c.args.n w.if-n-ge10.false, ap length w.self-is)
]

pub returns : goal.returns
returns c = elim c.if-n-ge10.branch [
  | then-n-ge10 w ↦ put_two _ w.if-n-ge10.true w.put.ensures (rw w.self-is at c.put-2.ensures) (omega arith) (omega arith)
  | else-n-ge10 w ↦ put_one _ w.if-n-ge10.false (rw w.self-is at c.put-2.ensures) (omega arith)
]
