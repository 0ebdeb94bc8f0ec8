use mathlib.Core.Path.{◌≡◌}
use mathlib.Core.List.{◌++◌}
use Rattle.listing.specs.Listing.{listing_of}
use Rattle.listing.proofs.Lines.{left}
use Rattle.listing.proofs.put_listing.Given as goal

abbrev pub invariant-loop-i : goal.invariant-loop-i
invariant-loop-i l = l.page ++ left l.list l.text l.i ≡ listing_of l.list l.text
