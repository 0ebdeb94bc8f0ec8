-- How a depot's memory of 16-bit numbers holds a formula: a reference is one number, kind × 4,096 + number; a step is three, its operation
-- (0 and, 1 or, 2 not) and its references, 0 for the second of not.
use Rattle.std.specs.Prelude.{ℕ, ◌+◌, ◌*◌, ◌/◌, ◌%◌, ◌^◌, ◌≤◌, ◌<◌, ◌≡◌, cond, List, [], ◌∷◌, ◌++◌, ◌-◌, length, get_or, take, drop, eqb}
use Rattle.meaning.specs.Bytes.{Bytes}
use Rattle.meaning.specs.Formula.{Ref, Step}
use Rattle.meaning.specs.Fragment.{Fragment, num, row_count, rows_of}
use Rattle.meaning.specs.Reply.{Reply, stand_ins, tabulated}
use Rattle.reply.specs.Write.{write}
use Rattle.reply.specs.inner.Decode.{ref_from, step_from}

-- ---- references and steps as numbers
abbrev pub code : Ref → ℕ
code Ref.low = 0
code Ref.high = 4096
code (Ref.var x) = 8192 + x
code (Ref.step i) = 12288 + i

abbrev pub step_numbers : Step → List ℕ
step_numbers (Step.and a b) = 0 ∷ code a ∷ code b ∷ []
step_numbers (Step.or a b) = 1 ∷ code a ∷ code b ∷ []
step_numbers (Step.not a) = 2 ∷ code a ∷ 0 ∷ []

unfoldable pub numbers : List Step → List ℕ
numbers [] = []
numbers (x ∷ s) = step_numbers x ++ numbers s

-- ---- and back
unfoldable pub ref_of : ℕ → Ref
ref_of c = ref_from (c / 4096) (c % 4096)

unfoldable pub step_of : List ℕ → ℕ → Step
step_of work p = step_from (get_or work p 0) (ref_of (get_or work (p + 1) 0)) (ref_of (get_or work (p + 2) 0))

-- n references, or n steps, that stand from a place on
unfoldable pub refs_at : List ℕ → ℕ → ℕ → List Ref
refs_at work at n = tabulated n 0 (λ e. ref_of (get_or work (at + e) 0))

unfoldable pub steps_at : List ℕ → ℕ → ℕ → List Step
steps_at work at n = tabulated n 0 (λ i. step_of work (at + 3 * i))

-- a code whose number w bits can write, 0 for a constant
pub record RefCode (w c : ℕ) : Type 0 where
  pub kind : c / 4096 < 4
  pub plain : c < 8192 → c % 4096 ≡ 0
  pub fits : c % 4096 < 2 ^ w

pub record StepCode (w : ℕ) (work : List ℕ) (p : ℕ) : Type 0 where
  pub op : get_or work p 0 < 3
  pub left : RefCode w (get_or work (p + 1) 0)
  pub right : RefCode w (get_or work (p + 2) 0)
  pub single : get_or work p 0 ≡ 2 → get_or work (p + 2) 0 ≡ 0

-- n steps, V and D stand inside the memory, each in a code
pub record FormulaIn (w : ℕ) (work : List ℕ) (at steps v_at d_at entries : ℕ) : Type 0 where
  pub steps_inside : at + 3 * steps ≤ length work
  pub v_inside : v_at + entries ≤ length work
  pub d_inside : d_at + entries ≤ length work
  pub steps_good : (i : ℕ) → i < steps → StepCode w work (at + 3 * i)
  pub v_good : (e : ℕ) → e < entries → RefCode w (get_or work (v_at + e) 0)
  pub d_good : (e : ℕ) → e < entries → RefCode w (get_or work (d_at + e) 0)

-- steps, V and D as lists of their own, each in a code; V and D are equally long
pub record HeldIn (w : ℕ) (steps v d : List ℕ) : Type 0 where
  pub same : length d ≡ length v
  pub steps_good : (i : ℕ) → i < length steps / 3 → StepCode w steps (i * 3)
  pub v_good : (e : ℕ) → e < length v → RefCode w (get_or v e 0)
  pub d_good : (e : ℕ) → e < length d → RefCode w (get_or d e 0)

-- n numbers of the memory, from a place on
abbrev pub cut : List ℕ → ℕ → ℕ → List ℕ
cut work at n = take (at + n - at) (drop at work)

-- the fragments that rows stand for, in order; the pool plays no part
abbrev pub bare : List ℕ → Fragment
bare rows = record { rows = rows; pool = [] }

unfoldable pub row_ins : List ℕ → List ℕ
row_ins rows = stand_ins (rows_of (bare rows)) (row_count (bare rows))

-- the stand-in of one row of a kind, if it is one
unfoldable pub row_in : ℕ → ℕ → List ℕ
row_in kind x = cond (eqb kind 1) (x ∷ []) []

-- what a header and its stand-ins have room for
pub record FrontIn (fragment entries steps : ℕ) (rows : List ℕ) : Type 0 where
  pub fragment_fits : fragment < 32
  pub some_entry : 0 < entries
  pub few_entries : entries ≤ 32
  pub few_steps : steps ≤ 4096
  pub few_ins : length (row_ins rows) < 32
  pub ins_fit : (k : ℕ) → k < row_count (bare rows) → num (bare rows) k 1 ≡ 1 → num (bare rows) k 2 < 32

-- THE REPLY THAT A DEPOT'S MEMORY HOLDS
unfoldable pub reply_in : ℕ → ℕ → ℕ → List ℕ → List ℕ → ℕ → ℕ → ℕ → ℕ → Reply
reply_in number fragment entries rows work at steps v_at d_at = record {
  number = number;
  fragment = fragment;
  entries = entries;
  ins = row_ins rows;
  steps = steps_at work at steps;
  v = refs_at work v_at entries;
  d = refs_at work d_at entries;
}

-- the same of lists that are cut from it
unfoldable pub reply_held : ℕ → ℕ → List ℕ → List ℕ → List ℕ → List ℕ → Reply
reply_held number fragment rows steps v d = record {
  number = number;
  fragment = fragment;
  entries = length v;
  ins = row_ins rows;
  steps = steps_at steps 0 (length steps / 3);
  v = refs_at v 0 (length v);
  d = refs_at d 0 (length d);
}

-- what writing leaves: the reply's bytes, and the old ones past its end
pub record Written (w : ℕ) (r : Reply) (old new : Bytes) (size : ℕ) : Type 0 where
  pub bytes : new ≡ write w r ++ drop (length (write w r)) old
  pub size_is : size ≡ length (write w r)
