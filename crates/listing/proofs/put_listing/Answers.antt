use native.Mathlib.Omega.{arith}
use Prim.Native.Nat.{ℕ}
use mathlib.Core.Path.{ap, ◌∙◌, sym}
use mathlib.Core.List.{◌++◌, append-nil}
use lib.ListN.{length, length-append}
use Rattle.listing.proofs.Lines.{decimal_size, left_room, left_none, head_put, line_more}
use Rattle.listing.proofs.put_listing.Goals as goal

pub put_number-requires-clause-room : goal.put_number-requires-clause-room
put_number-requires-clause-room c = omega (arith, ap length c.put.ensures, ap length c.requires.empty, decimal_size c.args.list.now.count, length-append {A = ℕ})

pub put-requires-2 : goal.put-requires-2
put-requires-2 c = omega (arith, ap length c.put.ensures, ap length c.requires.empty, ap length c.put_number.ensures, decimal_size c.args.list.now.count, length-append {A = ℕ})

pub loop-i-init : goal.loop-i-init
loop-i-init c = rw (c.put-2.ensures, c.put_number.ensures, c.put.ensures, c.requires.empty) (head_put c.args.list.now c.args.text.now)

pub put_line-requires-clause-room : goal.put_line-requires-clause-room
put_line-requires-clause-room c = left_room c.args.list.now c.args.text.now _ c.loop-i.i c.loop-i-test.true c.requires.keeps c.loop-i.invariant

pub loop-i-preserved : goal.loop-i-preserved
loop-i-preserved c = line_more c.args.list.now c.args.text.now _ _ c.loop-i.i c.loop-i-test.true c.put_line.ensures c.loop-i.invariant

pub returns : goal.returns
returns c = sym (append-nil c.loop-i.page) ∙ ap (λ w. c.loop-i.page ++ w) (sym (left_none c.args.list.now c.args.text.now _ c.loop-i-test.false)) ∙ c.loop-i.invariant
