-- LAWFUL REPLIES: under right values of the fragments that it stands for, a reply gives the right values of its own.
-- `Here f e` and `Lower f e` are what V and D of entry e mean at row 0 of fragment f.
use Rattle.std.specs.Prelude.{ℕ, ◌<◌, Bool}
use mathlib.Core.List.{List, Memᴰ}
use Rattle.meaning.specs.Says.{Says}
use Rattle.meaning.specs.Bytes.{Bytes}
use Rattle.meaning.specs.Tree.{Below}
use Rattle.meaning.specs.Entry.{Entry, EntryHolds}
use Rattle.meaning.specs.Algebra.{bool}
use Rattle.meaning.specs.Reply.{Reply}
use Rattle.meaning.specs.Register.{Register, joined}
use Rattle.meaning.specs.Solve.{Values, here_of, lower_of}

module _ (Here Lower : ℕ → ℕ → Type 0) where
  -- the values v and d of fragment f's n entries are right
  abbrev pub Right : ℕ → ℕ → (ℕ → Bool) → (ℕ → Bool) → Type 0
  Right n f v d = (e : ℕ) → e < n → Says (Here f e) (v e) × Says (Lower f e) (d e)

  pub record Lawful (n parts f : ℕ) (r : Reply) : Type 0 where
    pub onward : (g : ℕ) → Memᴰ g r.ins → (f < g) × (g < parts)
    pub right : (S : Values Bool) → ((g : ℕ) → Memᴰ g r.ins → Right n g (S.v g) (S.d g))
        → Right n f (here_of bool n r S) (lower_of bool n r S)

-- what V and D of a list's entries mean in the joined register
module _ (G : Register) (es : List (Entry Bytes)) where
  abbrev pub HereIn : ℕ → ℕ → Type 0
  HereIn f e = EntryHolds (joined G) es e (f, 0)

  abbrev pub LowerIn : ℕ → ℕ → Type 0
  LowerIn f e = (x : ℕ × ℕ) × Below (joined G) (f, 0) x × EntryHolds (joined G) es e x
