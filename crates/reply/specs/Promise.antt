-- WHAT IS PROVED OF THESE DEFINITIONS: each promise is a type, and proofs/ has its element under its name (`round_trip` of `RoundTrip`).
use Rattle.std.specs.Prelude.{ℕ, ◌≤◌, ◌≡◌, length, Result}
use Rattle.meaning.specs.Bytes.{Bytes}
use Rattle.meaning.specs.Reply.{Reply}
use Rattle.reply.specs.Write.{write}
use Rattle.reply.specs.WellFormed.{WellFormed, Fits}
use Rattle.reply.specs.Read.{Checks, check_number, Reading}
use Rattle.reply.specs.declared.judging.NotAReply.{NotAReply}

-- a reply of any width is read back
abbrev pub RoundTrip : Type 0
RoundTrip = (w : ℕ) → Reading w

-- no two replies share bytes
abbrev pub OneReply : Type 0
OneReply = (w : ℕ) (r t : Reply) → WellFormed r → WellFormed t → Fits w r → Fits w t → write w r ≡ write w t → r ≡ t

-- with 12 bits every well-formed reply can be written, and has at most 15,499 bytes
abbrev pub Fits12 : Type 0
Fits12 = (r : Reply) → WellFormed r → Fits 12 r

abbrev pub MostBytes : Type 0
MostBytes = (r : Reply) → WellFormed r → length (write 12 r) ≤ 15_499

-- ---- any two results that a contract allows are equal, as numbers and as what is returned (a cursor's writes: `OneWrite` of crate bits)
abbrev pub OneCheck : Type 0
OneCheck = (s : Bytes) (a b : ℕ) → Checks s a → Checks s b → a ≡ b

abbrev pub OneVerdict : Type 0
OneVerdict = (s : Bytes) (a b : Result (Unit {0}) NotAReply) → Checks s (check_number a) → Checks s (check_number b) → a ≡ b
