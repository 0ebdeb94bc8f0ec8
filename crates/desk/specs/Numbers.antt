-- THE NUMBERS that the calls' answers stand for (01, "Numbers of refusal, in order of checking"), and the record that an answer leaves.
use Rattle.std.specs.Prelude.{ℕ, Result, Ok, Err}
use Rattle.meaning.specs.Bytes.{Bytes, ascii}
use Rattle.whole.specs.declared.Record.{Record}
use Rattle.whole.specs.declared.Unfit.{Unfit}
use Rattle.whole.specs.declared.Unfit.TheVariants as Unfits
use Rattle.desk.specs.declared.Refusal.{Refusal}
use Rattle.desk.specs.declared.Refusal.TheVariants.{BadLayout, OldNumber, NoneOpen, NotAReply, OtherQuestion}
use Rattle.desk.specs.declared.Refusal.TheVariants.{Misfit, AlreadyHeard, StoreFull, NotWhole}
use Rattle.desk.specs.declared.Said.{Said}
use Rattle.desk.specs.declared.Said.TheVariants.{Waiting, No, Yes}

abbrev pub number_of : Refusal → ℕ
number_of BadLayout = 10
number_of OldNumber = 11
number_of NoneOpen = 12
number_of NotAReply = 13
number_of OtherQuestion = 14
number_of Misfit = 15
number_of AlreadyHeard = 16
number_of StoreFull = 17
number_of NotWhole = 20

-- 0: no refusal
abbrev pub refusal_number : {T : Type 0} → Result T Refusal → ℕ
refusal_number (Ok x) = 0
refusal_number (Err e) = number_of e

-- the record after a call by value: a refusal leaves it as it was
abbrev pub record_after : Record → Result Record Refusal → Record
record_after d (Ok a) = a
record_after d (Err e) = d

abbrev pub said_code : Said → ℕ
said_code Waiting = 0
said_code No = 1
said_code Yes = 2

-- what is printed of it
abbrev pub said_text : Said → Bytes
said_text Waiting = ascii "waiting"
said_text No = ascii "no"
said_text Yes = ascii "yes"

-- 0 where refused
abbrev pub said_number : Result Said Refusal → ℕ
said_number (Ok s) = said_code s
said_number (Err e) = 0

-- why a reply does not fit, as a refusal
abbrev pub refusal_of : Unfit → Refusal
refusal_of Unfits.NotAReply = NotAReply
refusal_of Unfits.OtherQuestion = OtherQuestion
refusal_of Unfits.Misfit = Misfit
