use native.Mathlib.Omega.{arith}
use mathlib.Core.Path.{◌≡◌, refl, ap}
use Prim.Native.Nat.{ℕ, ◌+◌}
use lib.ListN.{length, length-append}
use Rattle.listing.specs.Listing.{decimal, line}
use Rattle.listing.specs.inner.Parts.{entry_in, word_of, operands}
use Rattle.listing.proofs.Lines.{line_size, line_put}
use Rattle.listing.proofs.put_line.Goals as goal
use Rattle.listing.proofs.put_line.Goals.{After-unwrap-entry}

size : (c : After-unwrap-entry) → length (line c.args.i (entry_in c.args.list.now c.args.text.now c.args.i)) ≡ length (decimal c.args.i) + length (word_of c.unwrap-entry.result.kind) + length (operands c.args.text.now c.unwrap-entry.result.kind c.unwrap-entry.result.a c.unwrap-entry.result.b) + 2
size c = line_size c.args.list.now c.args.text.now c.args.i (rw c.unwrap-entry.ensures at c.entry.ensures)

pub put_number-requires-clause-room : goal.put_number-requires-clause-room
put_number-requires-clause-room c = omega (arith, c.requires.room, size (goal.at.put_number-requires-clause-room c).After-unwrap-entry)

pub put-requires : goal.put-requires
put-requires c = omega (arith, c.requires.room, size (goal.at.put-requires c).After-unwrap-entry, ap length c.put_number.ensures, length-append {A = ℕ})

pub put_kind-requires : goal.put_kind-requires
put_kind-requires c = omega (arith, c.requires.room, size (goal.at.put_kind-requires c).After-unwrap-entry, ap length c.put_number.ensures, ap length c.put.ensures, length-append {A = ℕ})

pub put_operands-requires-clause-room : goal.put_operands-requires-clause-room
put_operands-requires-clause-room c = omega (arith, c.requires.room, size (goal.at.put_operands-requires-clause-room c).After-unwrap-entry, ap length c.put_number.ensures, ap length c.put.ensures, ap length c.put_kind.ensures, length-append {A = ℕ})

pub put-requires-2 : goal.put-requires-2
put-requires-2 c = omega (arith, c.requires.room, size (goal.at.put-requires-2 c).After-unwrap-entry, ap length c.put_number.ensures, ap length c.put.ensures, ap length c.put_kind.ensures, ap length c.put_operands.ensures, length-append {A = ℕ})

pub returns : goal.returns
returns c =
    rw (c.put-2.ensures, c.put_operands.ensures, c.put_kind.ensures, c.put.ensures, c.put_number.ensures)
    (line_put c.args.list.now c.args.text.now c.args.i (rw c.unwrap-entry.ensures at c.entry.ensures) c.args.page.now refl refl)
