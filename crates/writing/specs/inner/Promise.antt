-- What is proved of writing a reply from a depot's memory.
use Rattle.std.specs.Prelude.{ℕ, ◌+◌, ◌*◌, ◌/◌, ◌≤◌, ◌<◌, ◌≡◌, List, length, take, drop, get_or}
use Rattle.meaning.specs.Bytes.{Bytes}
use Rattle.meaning.specs.Formula.{Ref}
use Rattle.meaning.specs.Entry.{Entry}
use Rattle.meaning.specs.Fragment.{Fragment, Sound, Rows, rows_of}
use Rattle.meaning.specs.Reply.{Reply, laid_run, laid_down}
use Rattle.reply.specs.WellFormed.{Result}
use Rattle.writing.specs.inner.Codes.{code, numbers, ref_of, FormulaIn, HeldIn, cut, reply_in, reply_held, Written}

-- a reference is what its code stands for
abbrev pub CodeRef : Type 0
CodeRef = (n m : ℕ) (r : Ref) → n ≤ 4096 → m ≤ 4096 → Result n m r → ref_of (code r) ≡ r

-- memory that holds the numbers of the reply laid down, steps from one place on, V and D from two others, is what `reply_write` asks for,
-- and writes that reply
pub record LaidAt (R : Rows) (es : List (Entry Bytes)) (work : List ℕ) (at v d : ℕ) : Type 0 where
  pub steps : take (3 * length (laid_run R es).st) (drop at work) ≡ numbers (laid_run R es).st
  pub v_is : (e : ℕ) → e < length es → get_or work (v + e) 0 ≡ code ((laid_run R es).v e)
  pub d_is : (e : ℕ) → e < length es → get_or work (d + e) 0 ≡ code ((laid_run R es).d e)
  pub steps_inside : at + 3 * length (laid_run R es).st ≤ length work
  pub v_inside : v + length es ≤ length work
  pub d_inside : d + length es ≤ length work

pub record LaidReply (number f : ℕ) (F : Fragment) (es : List (Entry Bytes)) (work : List ℕ) (at steps v d : ℕ) : Type 0 where
  pub asked : FormulaIn 12 work at steps v d (length es)
  pub reply : reply_in number f (length es) F.rows work at steps v d ≡ laid_down (rows_of F) es number f

abbrev pub LaidIn : Type 0
LaidIn = (number f : ℕ) (F : Fragment) → Sound f F → (es : List (Entry Bytes)) → 0 < length es → length es ≤ 32
    → length (laid_run (rows_of F) es).st ≤ 4096 → (work : List ℕ) (at v d : ℕ) → LaidAt (rows_of F) es work at v d
    → LaidReply number f F es work at (length (laid_run (rows_of F) es).st) v d

-- steps, V and D cut from memory that holds a formula are what `reply_write` asks for, and the same reply
pub record CutReply (w number fragment entries : ℕ) (rows work : List ℕ) (at steps v d : ℕ) : Type 0 where
  pub held : HeldIn w (cut work at (3 * steps)) (cut work v entries) (cut work d entries)
  pub count : length (cut work at (3 * steps)) / 3 ≡ steps
  pub long : length (cut work v entries) ≡ entries
  pub reply : reply_held number fragment rows (cut work at (3 * steps)) (cut work v entries) (cut work d entries)
      ≡ reply_in number fragment entries rows work at steps v d

abbrev pub CutHeld : Type 0
CutHeld = (w number fragment entries : ℕ) (rows work : List ℕ) (at steps v d : ℕ) → FormulaIn w work at steps v d entries
    → CutReply w number fragment entries rows work at steps v d

abbrev pub OneWritten : Type 0
OneWritten = (w : ℕ) (r : Reply) (old a b : Bytes) (m n : ℕ) → Written w r old a m → Written w r old b n → (a ≡ b) × (m ≡ n)
