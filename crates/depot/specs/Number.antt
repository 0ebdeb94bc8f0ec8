-- A DEPOT'S REFUSALS by their numbers (01, "Numbers of refusal", 5 to 9), and an answer as number of refusal and size.
use Rattle.std.specs.Prelude.{ℕ, Result, Ok, Err}
use Rattle.depot.specs.declared.Refusal.{Refusal}
use Rattle.depot.specs.declared.Refusal.TheVariants.{BadList, BadFragment, ShortWork, TooManySteps, ShortReply}

abbrev pub number_of : Refusal → ℕ
number_of BadList = 5
number_of BadFragment = 6
number_of ShortWork = 7
number_of TooManySteps = 8
number_of ShortReply = 9

-- 0 for none
abbrev pub refusal_number : Result ℕ Refusal → ℕ
refusal_number (Ok size) = 0
refusal_number (Err r) = number_of r

-- the reply's size, 0 on refusal
abbrev pub size_of : Result ℕ Refusal → ℕ
size_of (Ok size) = size
size_of (Err r) = 0
