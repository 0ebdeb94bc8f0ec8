-- WHAT IS PROVED OF THE READER: each promise is a type, and proofs/ has an element of it under its name (`one_read` of `OneRead`).
use Rattle.std.specs.Prelude.{◌≡◌, Result}
use Rattle.meaning.specs.Bytes.{Bytes}
use Rattle.meaning.specs.Question.{Question, write_question}
use Rattle.meaning.specs.Entry.{entries}
use Rattle.question.specs.declared.List as L
use Rattle.reader.specs.declared.Answer.{Answer}
use Rattle.reader.specs.declared.Refusal.{Refusal}
use Rattle.question.specs.Listed.{Keeps, listed}
use Rattle.reader.specs.Read.{Written, Read, answer_of}

-- no text is written by two trees
abbrev pub WriteOnce : Type 0
WriteOnce = (q p : Question) → write_question q ≡ write_question p → q ≡ p

-- the contract of `question_read` allows one answer
abbrev pub OneRead : Type 0
OneRead = (t : Bytes) (r s : Answer) → Read t r → Read t s → r ≡ s

-- nor does it allow two results
abbrev pub OneResult : Type 0
OneResult = (t : Bytes) (r s : Result L.List Refusal) → Read t (answer_of r) → Read t (answer_of s) → r ≡ s

-- a list that the reader hands out obeys the list rules, and stands for the entries of the tree that writes the text
abbrev pub ReadKeeps : Type 0
ReadKeeps = (t : Bytes) (l : L.List) → Read t (record { refusal = 0; list = l }) → Keeps l t

abbrev pub ReadListed : Type 0
ReadListed = (t : Bytes) (l : L.List) → Read t (record { refusal = 0; list = l }) → (w : Written t) → listed l t ≡ entries w.tree
