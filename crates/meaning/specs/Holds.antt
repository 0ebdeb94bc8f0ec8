-- What a question means at a row (004, section 2.2; 01, "Meaning at a row"), by the rows that a path reaches.
use Rattle.std.specs.Prelude.{◌≡◌, true, ◌⊎◌}
use Rattle.meaning.specs.Tree.{Tree, Below}
use Rattle.meaning.specs.Question.{Question, Conj, OneUnit, Steps, Rest, Begin, Sign, Move}

module _ (t : Tree) where
  -- `//` goes to the row itself or any row below; nothing, and `/`, stay
  abbrev pub Begins : Begin → t.N → t.N → Type 0
  Begins Begin.plain u v = u ≡ v
  Begins Begin.deep u v = Below t u v

  abbrev pub Crosses : Sign → t.N → t.N → Type 0
  Crosses Sign.slash u v = u ≡ v
  Crosses Sign.slashes u v = Below t u v

  -- `.` stays, `*` goes to any child, a name to a child with that label
  abbrev pub Moves : Move → t.N → t.N → Type 0
  Moves Move.dot u v = u ≡ v
  Moves Move.star u v = t.Child u v
  Moves (Move.name n) u v = t.Child u v × (t.label? n.bytes v ≡ true)

  unfoldable mutual
    pub Holds : Question → t.N → Type 0
    Holds (Question.conj c) u = HoldsConj c u
    Holds (Question.either q c) u = Holds q u ⊎ HoldsConj c u

    pub HoldsConj : Conj → t.N → Type 0
    HoldsConj (Conj.unit p) u = HoldsUnit p u
    HoldsConj (Conj.both c p) u = HoldsConj c u × HoldsUnit p u

    -- a path holds if some row v is reached
    pub HoldsUnit : OneUnit → t.N → Type 0
    HoldsUnit (OneUnit.deny p) u = HoldsUnit p u → ⊥
    HoldsUnit (OneUnit.group q) u = Holds q u
    HoldsUnit (OneUnit.label w) u = t.label? w.bytes u ≡ true
    HoldsUnit (OneUnit.text w) u = t.text? w.bytes u ≡ true
    HoldsUnit (OneUnit.path b s) u = (x v : t.N) × Begins b u x × Walks s x v

    pub Walks : Steps → t.N → t.N → Type 0
    Walks (Steps.step m r) u v = (x : t.N) × Moves m u x × Goes r x v

    pub Goes : Rest → t.N → t.N → Type 0
    Goes Rest.end u v = u ≡ v
    Goes (Rest.ends w) u v = (u ≡ v) × (t.text? w.bytes u ≡ true)
    Goes (Rest.bracket q r) u v = Holds q u × Goes r u v
    Goes (Rest.onward g s) u v = (x : t.N) × Crosses g u x × Walks s x v
