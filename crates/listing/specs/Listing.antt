-- The listing of a list (01, "The list of sub-questions"): "The first line has the count; then entry number, kind's word, its word
-- or operands, with one blank between. A blank stands before an empty word too. Every line ends in a line feed."
use Rattle.std.specs.Prelude.{ℕ, suc, ◌+◌, ◌/◌, ◌%◌, ◌≤◌, ◌<◌, cond, List, [], ◌∷◌, ◌++◌, length, drop, ltb}
use Rattle.meaning.specs.Bytes.{Bytes, ascii}
use Rattle.meaning.specs.Entry.{Entry}
use Rattle.question.specs.declared.List as L
use Rattle.question.specs.Listed.{Keeps, listed}

-- a number below 100
unfoldable pub decimal : ℕ → Bytes
decimal n = cond (ltb n 10) ((48 + n) ∷ []) ((48 + n / 10) ∷ (48 + n % 10) ∷ [])

-- a kind's word, its word or operands
unfoldable pub shown : Entry Bytes → Bytes
shown Entry.self = ascii "self"
shown (Entry.label w) = ascii "label " ++ w
shown (Entry.text w) = ascii "text " ++ w
shown (Entry.child q) = ascii "child " ++ decimal q
shown (Entry.at p q) = ascii "at " ++ (decimal p ++ (ascii " " ++ decimal q))
shown (Entry.lower q) = ascii "below " ++ decimal q
shown (Entry.or p q) = ascii "or " ++ (decimal p ++ (ascii " " ++ decimal q))
shown (Entry.and p q) = ascii "and " ++ (decimal p ++ (ascii " " ++ decimal q))
shown (Entry.not q) = ascii "not " ++ decimal q

unfoldable pub line : ℕ → Entry Bytes → Bytes
line i e = decimal i ++ (ascii " " ++ (shown e ++ ascii "\n"))

-- the lines of entries, of which the first has the number i
unfoldable pub lines : ℕ → List (Entry Bytes) → Bytes
lines i [] = []
lines i (e ∷ es) = line i e ++ lines (suc i) es

unfoldable pub listing : List (Entry Bytes) → Bytes
listing es = ascii "entries " ++ (decimal (length es) ++ (ascii "\n" ++ lines 0 es))

-- the listing of a list by value
abbrev pub listing_of : L.List → Bytes → Bytes
listing_of l t = listing (listed l t)

-- WHAT `question_listing` GIVES, and what the lent bytes hold afterwards: the listing's length, 0 where the list breaks its rules; and
-- nothing is written but a whole listing, where there is room for it
pub data Lists (l : L.List) (t old : Bytes) : ℕ → Bytes → Type 0 where
  written : Keeps l t → length (listing_of l t) ≤ length old
      → Lists l t old (length (listing_of l t)) (listing_of l t ++ drop (length (listing_of l t)) old)
  short : Keeps l t → length old < length (listing_of l t) → Lists l t old (length (listing_of l t)) old
  broken : (Keeps l t → ⊥) → Lists l t old 0 old
