-- What is proved of the inner functions' contracts, and of reading by computing.
use Rattle.std.specs.Prelude.{ℕ, ◌≡◌, length}
use Rattle.meaning.specs.Says.{Says}
use Rattle.meaning.specs.Bytes.{Bytes}
use Rattle.meaning.specs.Reply.{Reply}
use Rattle.reply.specs.Write.{write}
use Rattle.reply.specs.WellFormed.{WellFormed, Fits}
use Rattle.reply.specs.inner.Decode.{well_formed, fits, size}
use Rattle.reply.specs.inner.Fields.{HeadIs, InIs, RefIs, StepIs}
use Rattle.reply.specs.declared.Head.{Head}
use Rattle.bits.specs.declared.Field.{Field}
use Rattle.reply.specs.declared.Reference.{Reference}
use Rattle.reply.specs.declared.StepField.{StepField}

-- the tests that `read` makes say what `WellFormed` and `Fits` say
abbrev pub ReadTests : Type 0
ReadTests = (w : ℕ) (r : Reply) → Says (WellFormed r) (well_formed r) × Says (Fits w r) (fits w r)

-- how many bytes a reply has
abbrev pub SizeIs : Type 0
SizeIs = (w : ℕ) (r : Reply) → length r.v ≡ r.entries → length r.d ≡ r.entries
    → length (write w r) ≡ size w (length r.ins) (length r.steps) r.entries

abbrev pub OneHead : Type 0
OneHead = (s : Bytes) (a b : Head) → HeadIs s a → HeadIs s b → a ≡ b

abbrev pub OneIn : Type 0
OneIn = (s : Bytes) (i a b : ℕ) → InIs s i a → InIs s i b → a ≡ b

abbrev pub OneRef : Type 0
OneRef = (w : ℕ) (s : Bytes) (at : ℕ) (a b : Field Reference) → RefIs w s at a → RefIs w s at b → a ≡ b

abbrev pub OneStep : Type 0
OneStep = (w : ℕ) (s : Bytes) (at : ℕ) (a b : StepField) → StepIs w s at a → StepIs w s at b → a ≡ b
