-- `writing::put_ref` meets its contract.
use native.Mathlib.Omega.{arith}
use Rattle.bits.proofs.Laws.{wrote_append}
use Rattle.writing.proofs.Codes.{ref_code}
use Rattle.writing.proofs.put_ref.Goals as goal

pub returns : goal.returns
returns c =
    let p1 = c.put-k in
    let p2 = c.put in
    let a = c.args in
    (rw (← ref_code a.w a.code c.requires.3, ← c.from.ensures, ← c.from-2.ensures) (wrote_append p1.ensures.0 p2.ensures.0), omega (arith, p1.ensures.1, p2.ensures.1))
