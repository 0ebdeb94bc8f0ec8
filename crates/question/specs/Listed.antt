-- A list by value over a question text: its rules (01, "The list of sub-questions"), and the entries that it stands for.
use Rattle.std.specs.Prelude.{ℕ, ◌+◌, ◌≤◌, ◌<◌, List, [], ◌∷◌, length, get_or}
use Rattle.meaning.specs.Bytes.{Bytes, word}
use Rattle.meaning.specs.Entry.{Entry, self, label, text, child, at, lower, or, and, not, Points}
use Rattle.meaning.specs.Reply.{tabulated}
use Rattle.question.specs.declared.List as L

-- a word's place in the text: its start and its length
abbrev pub Place : Type 0
Place = ℕ × ℕ

-- "a place wholly inside the question text, 0 to 64 bytes"
abbrev pub Inside : Bytes → Place → Type 0
Inside t p = (p.1 ≤ 64) × (p.0 + p.1 ≤ length t)

-- THE KINDS, in 01's order, self 0 to not 8: the entry of kind k with operands a and b, which are a word's start and length
unfoldable pub entry_of : {W : Type 0} → (ℕ → ℕ → W) → ℕ → ℕ → ℕ → Entry W
entry_of f k a b = get_or (self ∷ label (f a b) ∷ text (f a b) ∷ child a ∷ at a b ∷ lower a ∷ or a b ∷ and a b ∷ not a ∷ []) k self

abbrev pub placed : ℕ → ℕ → ℕ → Entry Place
placed k a b = entry_of (λ start size. (start, size)) k a b

-- the rule for entry i, of kind k with operands a and b
pub record EntryRule (t : Bytes) (i k a b : ℕ) : Type 0 where
  pub known : k ≤ 8
  pub points : Points (Inside t) i (placed k a b)

-- THE LIST RULES
pub record Keeps (l : L.List) (t : Bytes) : Type 0 where
  pub some_entry : 1 ≤ l.count
  pub most : l.count ≤ 32
  pub each : (i : ℕ) → i < l.count → EntryRule t i (get_or l.kinds i 0) (get_or l.left i 0) (get_or l.right i 0)

-- THE ENTRIES of a list over a text
unfoldable pub listed : L.List → Bytes → List (Entry Bytes)
listed l t = tabulated l.count 0 (λ i. entry_of (word t) (get_or l.kinds i 0) (get_or l.left i 0) (get_or l.right i 0))
