-- `desk::desk_fresh` meets its contract.
use Rattle.std.proofs.Common.{arith}
use Rattle.desk.proofs.Calling.{zeros, fresh_is}
use Rattle.desk.proofs.desk_fresh.Goals as goal

pub returns : goal.returns
returns c =
    let d = c.default.ensures in
    let q = d.1.1 in
    let a = q.1.1.1 in
    fresh_is _ _ _ _ _ _ _ _ _ (omega (arith, d.0)) (omega (arith, d.1.0)) (omega (arith, q.0)) (omega (arith, q.1.0)) (omega (arith, q.1.1.0)) (zeros _ _ a.0) (zeros _ _ a.1.0) (zeros _ _ a.1.1.0) (zeros _ _ a.1.1.1)
