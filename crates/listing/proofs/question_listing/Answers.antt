use native.Mathlib.Omega.{arith}
use mathlib.Core.Path.{◌∙◌}
use Rattle.meaning.proofs.Says.{says_true, says_false}
use Rattle.listing.specs.Listing.{Lists}
use Rattle.listing.proofs.Lines.{list_written, list_short}
use Rattle.listing.proofs.question_listing.Goals as goal

pub returns-then-not-list_ok : goal.returns-then-not-list_ok
returns-then-not-list_ok c = Lists.broken (says_false c.list_ok.ensures c.if-not-list_ok.true)

pub returns-then-size-out : goal.returns-then-size-out
returns-then-size-out c = list_written (says_true c.list_ok.ensures c.if-not-list_ok.false) (c.written-written.ensures ∙ c.put_listing.ensures) c.copy_from_slice.ensures.after (omega arith)

pub returns-else-size-out : goal.returns-else-size-out
returns-else-size-out c = list_short (says_true c.list_ok.ensures c.if-not-list_ok.false) (c.written-written.ensures ∙ c.put_listing.ensures) (omega arith)
