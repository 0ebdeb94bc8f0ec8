-- Layouts, a register cut by one, and the joined register (01, "The register and its fragments").
use Rattle.std.specs.Prelude.{ℕ, zero, suc, ◌≤◌, ◌<◌, ◌≡◌, true, false, cond, List, [], ◌∷◌, length, get_or, eqb}
use Rattle.meaning.specs.Bytes.{Bytes, label_is, text_is}
use Rattle.meaning.specs.Tree.{Tree}
use Rattle.meaning.specs.Fragment.{Fragment, Sound, Rows, rows_of}

-- the parent of fragment g
abbrev pub parent_of : Bytes → ℕ → ℕ
parent_of layout g = get_or layout g 255

-- 1 to 32 fragments; fragment 0 has no parent (255), fragment k has one below k
pub record Layout (layout : Bytes) : Type 0 where
  pub some_part : 1 ≤ length layout
  pub most : length layout ≤ 32
  pub top : parent_of layout 0 ≡ 255
  pub falling : (k : ℕ) → 0 < k → k < length layout → parent_of layout k < k

-- the numbers from g on of those parents that are k
unfoldable pub numbered : ℕ → Bytes → ℕ → List ℕ
numbered k [] g = []
numbered k (p ∷ l) g = cond (eqb p k) (g ∷ numbered k l (suc g)) (numbered k l (suc g))

-- the fragments cut from fragment k, increasing
abbrev pub children_of : Bytes → ℕ → List ℕ
children_of layout k = numbered k layout 0

pub record Register : Type 0 where
  pub layout : Bytes
  pub fragment : ℕ → Fragment

abbrev pub parts : Register → ℕ
parts G = length G.layout

abbrev pub rows_in : Register → ℕ → Rows
rows_in G f = rows_of (G.fragment f)

-- row k of fragment f stands for fragment g
pub record StandsFor (G : Register) (f k g : ℕ) : Type 0 where
  pub inside : k ≤ (rows_in G f).last
  pub stands : (rows_in G f).stands k ≡ true
  pub goes : (rows_in G f).goes k ≡ g

-- CUT BY THE LAYOUT RULES: each fragment from 1 has a stand-in in its parent, and there is no other.
-- (It has one only, since a sound fragment has no two stand-ins for one fragment.)
pub record Cut (G : Register) : Type 0 where
  pub layout : Layout G.layout
  pub sound : (f : ℕ) → f < parts G → Sound f (G.fragment f)
  pub has : (g : ℕ) → 0 < g → g < parts G → (k : ℕ) × StandsFor G (parent_of G.layout g) k g
  pub only : (f k g : ℕ) → f < parts G → StandsFor G f k g → (0 < g) × (g < parts G) × (parent_of G.layout g ≡ f)

-- THE JOINED REGISTER. A row is a fragment's number and a row number there; a stand-in's place is that of the row 0 it stands for.
module _ (G : Register) where
  abbrev pub place : ℕ → ℕ → ℕ × ℕ
  place f k = cond ((rows_in G f).stands k) ((rows_in G f).goes k, 0) (f, k)

  -- row `row` of u's fragment has u for its parent, and v is its place
  pub record JoinedChild (u v : ℕ × ℕ) : Type 0 where
    pub row : ℕ
    pub part : u.0 < parts G
    pub lower : 0 < row
    pub inside : row ≤ (rows_in G u.0).last
    pub under : (rows_in G u.0).parent row ≡ u.1
    pub is : place u.0 row ≡ v

  abbrev pub joined : Tree
  joined = record {
    N = ℕ × ℕ;
    Child = JoinedChild;
    label? = λ w u. label_is w ((rows_in G u.0).label u.1);
    text? = λ w u. text_is w ((rows_in G u.0).text u.1);
  }

  -- a real row of the register
  abbrev pub RealIn : ℕ × ℕ → Type 0
  RealIn u = (u.0 < parts G) × (u.1 ≤ (rows_in G u.0).last) × ((rows_in G u.0).stands u.1 ≡ false)

  -- the parent that 01 means: in the same fragment, or for a row 0 where its stand-in stands
  unfoldable pub Parent : ℕ → ℕ → ℕ × ℕ → Type 0
  Parent g (suc s) u = u ≡ (g, (rows_in G g).parent (suc s))
  Parent zero zero u = ⊥
  Parent (suc g) zero u =
      (k : ℕ) × StandsFor G (parent_of G.layout (suc g)) k (suc g)
      × (u ≡ (parent_of G.layout (suc g), (rows_in G (parent_of G.layout (suc g))).parent k))
