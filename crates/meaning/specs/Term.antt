-- A question's normal form (004, section 2.2) in the nine kinds of 01, "The list of sub-questions"; and what it means at a row.
-- A word of type W is whatever names a word: its bytes where the meaning is asked, its place in the text where a list is written.
use Rattle.std.specs.Prelude.{ℕ, ◌+◌, ◌≡◌, true, ◌⊎◌, length}
use Rattle.meaning.specs.Bytes.{Bytes}
use Rattle.meaning.specs.Tree.{Tree, Below}
use Rattle.meaning.specs.Question.{Question, Conj, OneUnit, Steps, Rest, Begin, Sign, Move}
use Rattle.meaning.specs.Question.{write_question, write_conj, write_begin, write_sign, write_move}

pub data Term (W : Type 0) : Type 0 where
  self : Term W
  label text : W → Term W
  child : Term W → Term W
  at : Term W → Term W → Term W
  lower : Term W → Term W
  or and : Term W → Term W → Term W
  not : Term W → Term W

-- `named a w` is the word w that starts at the place a, a quoted one behind its quote; each part is told at which place it is written
module _ {W : Type 0} (named : ℕ → Bytes → W) where
  -- a name: some child has the label and the rest
  abbrev pub moving : ℕ → Move → Term W → Term W
  moving a Move.dot r = r
  moving a Move.star r = child r
  moving a (Move.name n) r = child (at (label (named a n.bytes)) r)

  abbrev pub beginning : Begin → Term W → Term W
  beginning Begin.plain r = r
  beginning Begin.deep r = lower r

  abbrev pub crossing : Sign → Term W → Term W
  crossing Sign.slash r = r
  crossing Sign.slashes r = lower r

  unfoldable mutual
    pub normal : ℕ → Question → Term W
    normal a (Question.conj c) = normal_conj a c
    normal a (Question.either q c) = or (normal a q) (normal_conj (a + length (write_question q) + 1) c)

    pub normal_conj : ℕ → Conj → Term W
    normal_conj a (Conj.unit p) = normal_unit a p
    normal_conj a (Conj.both c p) = and (normal_conj a c) (normal_unit (a + length (write_conj c) + 1) p)

    pub normal_unit : ℕ → OneUnit → Term W
    normal_unit a (OneUnit.deny p) = not (normal_unit (a + 1) p)
    normal_unit a (OneUnit.group q) = normal (a + 1) q
    normal_unit a (OneUnit.label w) = label (named (a + 9) w.bytes)
    normal_unit a (OneUnit.text w) = text (named (a + 8) w.bytes)
    normal_unit a (OneUnit.path b s) = beginning b (normal_steps (a + length (write_begin b)) s)

    pub normal_steps : ℕ → Steps → Term W
    normal_steps a (Steps.step m r) = moving a m (normal_rest (a + length (write_move m)) r)

    pub normal_rest : ℕ → Rest → Term W
    normal_rest a Rest.end = self
    normal_rest a (Rest.ends w) = text (named (a + 9) w.bytes)
    normal_rest a (Rest.bracket q r) = at (normal (a + 1) q) (normal_rest (a + length (write_question q) + 2) r)
    normal_rest a (Rest.onward g s) = crossing g (normal_steps (a + length (write_sign g)) s)

-- at a row: child, some child has it; at, both here; lower (01's below), here or lower
module _ (t : Tree) where
  unfoldable pub Means : Term Bytes → t.N → Type 0
  Means self u = Unit {0}
  Means (label w) u = t.label? w u ≡ true
  Means (text w) u = t.text? w u ≡ true
  Means (child q) u = (v : t.N) × t.Child u v × Means q v
  Means (at p q) u = Means p u × Means q u
  Means (lower q) u = (v : t.N) × Below t u v × Means q v
  Means (or p q) u = Means p u ⊎ Means q u
  Means (and p q) u = Means p u × Means q u
  Means (not q) u = Means q u → ⊥
