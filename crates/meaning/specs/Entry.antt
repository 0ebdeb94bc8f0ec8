-- The list of sub-questions (01): entries of nine kinds, each pointing only at earlier ones; the last is the question.
use Rattle.std.specs.Prelude.{ℕ, suc, ◌<◌, List, [], ◌∷◌, ◌++◌, get_or}
use Rattle.meaning.specs.Bytes.{Bytes}
use Rattle.meaning.specs.Tree.{Tree}
use Rattle.meaning.specs.Question.{Question}
use Rattle.meaning.specs.Term.{Term, normal, Means}

pub data Entry (W : Type 0) : Type 0 where
  self : Entry W
  label text : W → Entry W
  child : ℕ → Entry W
  at : ℕ → ℕ → Entry W
  lower : ℕ → Entry W
  or and : ℕ → ℕ → Entry W
  not : ℕ → Entry W

-- THE READER'S LIST: the entries of the parts, left part first, and then its own; nothing is shared
module _ {W : Type 0} where
  -- the number of a term's own entry, where its first entry has the number n
  unfoldable pub root : ℕ → Term W → ℕ
  root n Term.self = n
  root n (Term.label w) = n
  root n (Term.text w) = n
  root n (Term.child q) = suc (root n q)
  root n (Term.at p q) = suc (root (suc (root n p)) q)
  root n (Term.lower q) = suc (root n q)
  root n (Term.or p q) = suc (root (suc (root n p)) q)
  root n (Term.and p q) = suc (root (suc (root n p)) q)
  root n (Term.not q) = suc (root n q)

  unfoldable pub flat : ℕ → Term W → List (Entry W)
  flat n Term.self = self ∷ []
  flat n (Term.label w) = label w ∷ []
  flat n (Term.text w) = text w ∷ []
  flat n (Term.child q) = flat n q ++ (child (root n q) ∷ [])
  flat n (Term.at p q) = flat n p ++ (flat (suc (root n p)) q ++ (at (root n p) (root (suc (root n p)) q) ∷ []))
  flat n (Term.lower q) = flat n q ++ (lower (root n q) ∷ [])
  flat n (Term.or p q) = flat n p ++ (flat (suc (root n p)) q ++ (or (root n p) (root (suc (root n p)) q) ∷ []))
  flat n (Term.and p q) = flat n p ++ (flat (suc (root n p)) q ++ (and (root n p) (root (suc (root n p)) q) ∷ []))
  flat n (Term.not q) = flat n q ++ (not (root n q) ∷ [])

-- a question's list, its words named by their bytes; and the number of its last entry
abbrev pub entries : Question → List (Entry Bytes)
entries q = flat 0 (normal (λ a w. w) 0 q)

abbrev pub top : Question → ℕ
top q = root 0 (normal (λ a w. w) 0 q)

-- WHAT ANY LIST MEANS: each entry is a term, of the terms of the entries before it
module _ {W : Type 0} where
  abbrev pub filled : List (Term W) → Entry W → Term W
  filled ts self = Term.self
  filled ts (label w) = Term.label w
  filled ts (text w) = Term.text w
  filled ts (child q) = Term.child (get_or ts q Term.self)
  filled ts (at p q) = Term.at (get_or ts p Term.self) (get_or ts q Term.self)
  filled ts (lower q) = Term.lower (get_or ts q Term.self)
  filled ts (or p q) = Term.or (get_or ts p Term.self) (get_or ts q Term.self)
  filled ts (and p q) = Term.and (get_or ts p Term.self) (get_or ts q Term.self)
  filled ts (not q) = Term.not (get_or ts q Term.self)

  unfoldable pub terms : List (Term W) → List (Entry W) → List (Term W)
  terms ts [] = ts
  terms ts (e ∷ l) = terms (ts ++ (filled ts e ∷ [])) l

  abbrev pub term : List (Entry W) → ℕ → Term W
  term l i = get_or (terms [] l) i Term.self

  -- an entry of number n points only at earlier ones, and its word, if it has one, keeps P
  abbrev pub Points : (W → Type 0) → ℕ → Entry W → Type 0
  Points P n self = Unit {0}
  Points P n (label w) = P w
  Points P n (text w) = P w
  Points P n (child q) = q < n
  Points P n (at p q) = (p < n) × (q < n)
  Points P n (lower q) = q < n
  Points P n (or p q) = (p < n) × (q < n)
  Points P n (and p q) = (p < n) × (q < n)
  Points P n (not q) = q < n

  -- each of a list whose first entry has the number n points only at earlier ones, and any word will do
  abbrev pub Earlier : ℕ → List (Entry W) → Type 0
  Earlier n [] = Unit {0}
  Earlier n (e ∷ l) = Points (λ w. Unit {0}) n e × Earlier (suc n) l

-- entry i of a list holds at a row
abbrev pub EntryHolds : (t : Tree) → List (Entry Bytes) → ℕ → t.N → Type 0
EntryHolds t l i u = Means t (term l i) u
