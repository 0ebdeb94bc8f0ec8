-- A fragment (01, "The register and its fragments"): 32-bit numbers, six a row, beside a byte pool; its rules; and its rows.
use Rattle.std.specs.Prelude.{ℕ, zero, suc, ◌+◌, ◌-◌, ◌*◌, ◌/◌, ◌≤◌, ◌<◌, ◌≡◌, Bool, false, ◌⊎◌, ◌≢◌, List, length, get_or, eqb}
use Rattle.meaning.specs.Bytes.{Bytes, word, label_is, text_is}
use Rattle.meaning.specs.Tree.{Tree}

pub record Fragment : Type 0 where
  pub rows : List ℕ
  pub pool : Bytes

-- number i of row k: parent, kind, label start, label length, text start, text length
abbrev pub num : Fragment → ℕ → ℕ → ℕ
num F k i = get_or F.rows (k * 6 + i) 0

abbrev pub row_count : Fragment → ℕ
row_count F = length F.rows / 6

-- kind 0: label 1 to 64 bytes, text 0 to 255 bytes, both wholly inside the pool
pub record RealRow (F : Fragment) (k : ℕ) : Type 0 where
  pub kind : num F k 1 ≡ 0
  pub label_some : 1 ≤ num F k 3
  pub label_most : num F k 3 ≤ 64
  pub label_inside : num F k 2 + num F k 3 ≤ length F.pool
  pub text_most : num F k 5 ≤ 255
  pub text_inside : num F k 4 + num F k 5 ≤ length F.pool

-- kind 1, in the fragment `number`: the third number is the fragment stood for, which no earlier stand-in has; the last three are 0
pub record StandIn (number : ℕ) (F : Fragment) (k : ℕ) : Type 0 where
  pub kind : num F k 1 ≡ 1
  pub above : number < num F k 2
  pub most : num F k 2 ≤ 31
  pub zeros : (num F k 3 ≡ 0) × (num F k 4 ≡ 0) × (num F k 5 ≡ 0)
  pub new : (j : ℕ) → j < k → num F j 1 ≡ 1 → num F j 2 ≢ num F k 2

-- THE RULE FOR ROW k, given the rows before it
unfoldable pub RowRule : ℕ → Fragment → ℕ → Type 0
RowRule number F zero = (num F 0 0 ≡ 4_294_967_295) × RealRow F 0
RowRule number F (suc k) = (num F (suc k) 0 < suc k) × (num F (num F (suc k) 0) 1 ≡ 0) × (RealRow F (suc k) ⊎ StandIn number F (suc k))

pub record Sound (number : ℕ) (F : Fragment) : Type 0 where
  pub number_most : number ≤ 31
  pub sixes : length F.rows ≡ row_count F * 6
  pub some_row : 1 ≤ row_count F
  pub rows_most : row_count F ≤ 512
  pub each : (k : ℕ) → k < row_count F → RowRule number F k

-- A FRAGMENT SEEN AS ROWS, 0 to `last`, with labels and texts
pub record Rows : Type 0 where
  pub last : ℕ
  pub parent : ℕ → ℕ
  pub stands : ℕ → Bool
  pub goes : ℕ → ℕ
  pub label : ℕ → Bytes
  pub text : ℕ → Bytes

abbrev pub rows_of : Fragment → Rows
rows_of F = record {
  last = row_count F - 1;
  parent = λ k. num F k 0;
  stands = λ k. eqb (num F k 1) 1;
  goes = λ k. num F k 2;
  label = λ k. word F.pool (num F k 2) (num F k 3);
  text = λ k. word F.pool (num F k 4) (num F k 5);
}

-- row v's parent is row u
pub record ChildRow (R : Rows) (u v : ℕ) : Type 0 where
  pub lower : 0 < v
  pub inside : v ≤ R.last
  pub under : R.parent v ≡ u

-- ONE FRAGMENT AS A TREE, a stand-in being a row without children
abbrev pub alone : Rows → Tree
alone R = record { N = ℕ; Child = ChildRow R; label? = λ w k. label_is w (R.label k); text? = λ w k. text_is w (R.text k) }

-- no row stands for another fragment
abbrev pub NoStandIn : Fragment → Type 0
NoStandIn F = (k : ℕ) → k < row_count F → (rows_of F).stands k ≡ false
