-- The list by value of a list of entries, each word named by its place: start and length.
use Rattle.std.specs.Prelude.{ℕ, ◌-◌, List, ◌++◌, map, length, replicate}
use Rattle.meaning.specs.Bytes.{Bytes}
use Rattle.meaning.specs.Question.{Question}
use Rattle.meaning.specs.Term.{normal}
use Rattle.meaning.specs.Entry.{Entry, flat}
use Rattle.question.specs.declared.List as L
use Rattle.question.specs.Listed.{Place}

abbrev pub word_place : ℕ → Bytes → Place
word_place start w = (start, length w)

-- a question's entries, each word named by its place in the text
abbrev pub placed_entries : Question → List (Entry Place)
placed_entries q = flat 0 (normal word_place 0 q)

-- an entry's kind, in 01's order, and its two operands; what is not used is 0
abbrev pub coded : Entry Place → ℕ × ℕ × ℕ
coded Entry.self = (0, 0, 0)
coded (Entry.label w) = (1, w.0, w.1)
coded (Entry.text w) = (2, w.0, w.1)
coded (Entry.child q) = (3, q, 0)
coded (Entry.at p q) = (4, p, q)
coded (Entry.lower q) = (5, q, 0)
coded (Entry.or p q) = (6, p, q)
coded (Entry.and p q) = (7, p, q)
coded (Entry.not q) = (8, q, 0)

-- 32 numbers, of which the first are given
abbrev pub padded : List ℕ → List ℕ
padded xs = xs ++ replicate (32 - length xs) 0

unfoldable pub packed : List (Entry Place) → L.List
packed es = record {
  count = length es;
  kinds = padded (map (λ e. (coded e).0) es);
  left = padded (map (λ e. (coded e).1) es);
  right = padded (map (λ e. (coded e).2) es);
}

-- an empty list is all 0
abbrev pub empty_list : L.List
empty_list = record { count = 0; kinds = replicate 32 0; left = replicate 32 0; right = replicate 32 0 }
