use Rattle.std.proofs.Common.{rules}
use native.Mathlib.Omega.{arith}
use Rattle.listing.proofs.Lines.{word_inside, one_before, two_before}
use Rattle.listing.proofs.put_operands.Goals as goal

pub slice_bounds-put-end : goal.slice_bounds-put-end
slice_bounds-put-end c = omega (arith, word_inside c.args.entry.kind c.requires.by_index.2 c.in-Label.is)

pub put_number-requires-clause-small : goal.put_number-requires-clause-small
put_number-requires-clause-small c = omega (arith, one_before c.args.entry.kind c.requires.by_index.2 c.in-Child.is, c.requires.by_index.1)

pub put_two-requires-clause-small : goal.put_two-requires-clause-small
put_two-requires-clause-small c =
    let before = two_before c.args.entry.kind c.requires.by_index.2 c.in-At.is in
    (omega (arith, before.0, c.requires.by_index.1), omega (arith, before.1, c.requires.by_index.1))

pub overflow_add-a : goal.overflow_add-a
overflow_add-a c = let inside = word_inside c.args.entry.kind c.requires.by_index.2 c.in-Label.is in search rules
