-- WHAT THE READER ANSWERS (01, "Numbers of refusal", 1 to 4): the number, and the list of the tree that writes the text.
use Rattle.std.specs.Prelude.{ℕ, ◌≤◌, ◌≡◌, ◌≢◌, length, Result, Ok, Err}
use Rattle.meaning.specs.Refused.{Unless, Granted}
use Rattle.meaning.specs.Bytes.{Bytes}
use Rattle.meaning.specs.Question.{Question, write_question}
use Rattle.question.specs.declared.List as L
use Rattle.reader.specs.declared.Answer.{Answer}
use Rattle.reader.specs.declared.Refusal.{Refusal}
use Rattle.reader.specs.Nesting.{nesting}
use Rattle.reader.specs.Packed.{placed_entries, packed, empty_list}

-- the text is of the grammar
pub record Written (t : Bytes) : Type 0 where
  pub tree : Question
  pub writes : write_question tree ≡ t

abbrev pub Sized : Bytes → Type 0
Sized t = (1 ≤ length t) × (length t ≤ 255)

-- 1, 2 and 3, then what comes after
abbrev pub Scan : Bytes → (ℕ → Type 0) → ℕ → Type 0
Scan t rest = Unless (Sized t) 1 (Unless (Written t) 2 (Unless ((w : Written t) → nesting w.tree ≤ 12) 3 rest))

-- THE REFUSALS in order, 0 for none
abbrev pub ReadRefusal : Bytes → ℕ → Type 0
ReadRefusal t = Scan t (Unless ((w : Written t) → length (placed_entries w.tree) ≤ 32) 4 Granted)

-- THE ANSWER
pub record Read (t : Bytes) (a : Answer) : Type 0 where
  pub why : ReadRefusal t a.refusal
  pub refused : a.refusal ≢ 0 → a.list ≡ empty_list
  pub listed : a.refusal ≡ 0 → (w : Written t) → a.list ≡ packed (placed_entries w.tree)

-- a refusal's number
abbrev pub read_number : Refusal → ℕ
read_number Refusal.TextLength = 1
read_number Refusal.NotAQuestion = 2
read_number Refusal.TooNested = 3
read_number Refusal.TooManyEntries = 4

-- the answer of a result: 0 and the list, or the refusal's number and the empty list
abbrev pub answer_of : Result L.List Refusal → Answer
answer_of (Ok l) = record { refusal = 0; list = l }
answer_of (Err r) = record { refusal = read_number r; list = empty_list }
