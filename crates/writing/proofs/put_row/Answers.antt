-- `writing::put_row` meets its contract.
use native.Mathlib.Omega.{arith}
use Rattle.bits.proofs.Laws.{wrote_none}
use Rattle.meaning.proofs.Says.{says_true, says_false}
use Rattle.writing.proofs.Codes.{row_other, row_one, rows_none, rows_one}
use Rattle.writing.proofs.put_row.Goals as goal

pub returns-else-is_stand_in : goal.returns-else-is_stand_in
returns-else-is_stand_in c =
    let a = c.args in
    let e = row_other a.kind a.fragment (says_false c.is_stand_in.ensures c.if-is_stand_in.false) in
    (rw (e, rows_none) (wrote_none a.out.now a.c.at (omega (arith, c.requires.0))), rw e (omega arith))

pub put-requires : goal.put-requires
put-requires c =
    let a = c.args in
    let h = says_true c.is_stand_in.ensures c.if-is_stand_in.true in
    let e = row_one a.kind a.fragment h in
    let p = c.requires in
    (rw e at p.0, p.1, omega arith, p.2 h)

pub returns-then-is_stand_in : goal.returns-then-is_stand_in
returns-then-is_stand_in c =
    let a = c.args in
    let e = row_one a.kind a.fragment (says_true c.is_stand_in.ensures c.if-is_stand_in.true) in
    let q = c.put in
    (rw (e, rows_one) q.ensures.0, rw e q.ensures.1)
