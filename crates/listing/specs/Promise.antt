-- WHAT IS PROVED OF THE LISTING: each promise is a type, and proofs/ has an element of it under its name (`one_listing` of `OneListing`).
use Rattle.std.specs.Prelude.{ℕ, ◌≤◌, ◌<◌, ◌≡◌, length}
use Rattle.meaning.specs.Bytes.{Bytes}
use Rattle.question.specs.declared.List as L
use Rattle.question.specs.Listed.{Keeps}
use Rattle.listing.specs.Listing.{listing_of, Lists}

-- the contract of `question_listing` allows one answer, and one content of the lent bytes
abbrev pub OneListing : Type 0
OneListing = (l : L.List) (t old : Bytes) (r s : ℕ) (x y : Bytes) → Lists l t old r x → Lists l t old s y → (r ≡ s) × (x ≡ y)

-- a listing has some byte, so that 0 is said of no list but one that breaks its rules, and at most 2,369
abbrev pub MostListing : Type 0
MostListing = (l : L.List) (t : Bytes) → Keeps l t → (0 < length (listing_of l t)) × (length (listing_of l t) ≤ 2369)
