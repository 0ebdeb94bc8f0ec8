-- Reading a reply: bytes are the reply that is well formed, that the width can write, and that writes these very bytes.
use Rattle.std.specs.Prelude.{ℕ, ◌≡◌, Result, Ok, Err}
use Rattle.std.proofs.Math.Option.{Option, some}
use Rattle.meaning.specs.Bytes.{Bytes}
use Rattle.meaning.specs.Reply.{Reply}
use Rattle.meaning.specs.Refused.{Unless, Granted}
use Rattle.reply.specs.Write.{write}
use Rattle.reply.specs.WellFormed.{WellFormed, Fits}
use Rattle.reply.specs.declared.judging.NotAReply.{NotAReply}

pub record Is (w : ℕ) (s : Bytes) (r : Reply) : Type 0 where
  pub formed : WellFormed r
  pub fits : Fits w r
  pub writes : write w r ≡ s

-- the check's number: 0, or the refusal's
abbrev pub check_number : Result (Unit {0}) NotAReply → ℕ
check_number (Ok u) = 0
check_number (Err e) = 13

-- THE CHECK'S ANSWER: 13 unless the bytes are a reply
abbrev pub Checks : Bytes → ℕ → Type 0
Checks s = Unless ((r : Reply) × Is 12 s r) 13 Granted

-- there is a function that reads: a reply turned to bytes reads back as the same reply,
-- and bytes that are read write back as the same bytes
pub record Reading (w : ℕ) : Type 0 where
  pub read : Bytes → Option Reply
  pub back : (r : Reply) → WellFormed r → Fits w r → read (write w r) ≡ some r
  pub forth : (s : Bytes) (r : Reply) → read s ≡ some r → Is w s r
