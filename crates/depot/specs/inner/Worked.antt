-- WHAT THE INNER FUNCTIONS answer: 5, 6 and 7 first, and then 8 and 9.
use Rattle.std.specs.Prelude.{ℕ, ◌+◌, ◌*◌, ◌<◌, ◌≤◌, ◌≡◌, cond, List, length, eqb, Result, MatchResult}
use Rattle.meaning.specs.Refused.{Unless}
use Rattle.meaning.specs.Fragment.{Sound, row_count}
use Rattle.question.specs.Listed.{Keeps}
use Rattle.fragment.specs.Lent.{lent}
use Rattle.depot.specs.declared.Call as C
use Rattle.depot.specs.declared.Refusal as R
use Rattle.depot.specs.Number.{number_of, refusal_number, size_of}
use Rattle.depot.specs.Answer.{Call, call, bytes, Late, buffer_after}

abbrev pub call_of : C.Call → Call
call_of c = call c.source.list c.source.text.now (lent c.source.fragment.rows.now c.source.fragment.pool.now) c.fragment c.number

abbrev pub Asks : Call → Type 0
Asks c = Keeps c.list c.text × (0 < c.number)

abbrev pub LongEnough : Call → ℕ → Type 0
LongEnough c room = 4 * (row_count c.fragment * c.list.count) + 12288 ≤ room

-- a call that escapes 5, 6 and 7
pub record Fit (c : Call) (room : ℕ) : Type 0 where
  pub asks : Asks c
  pub sound : Sound c.part c.fragment
  pub enough : LongEnough c room

-- one of these three, and nothing else
abbrev pub Never : ℕ → Type 0
Never n = ⊥

abbrev pub Early : Call → ℕ → ℕ → Type 0
Early c room = Unless (Asks c) 5 (Unless (Sound c.part c.fragment) 6 (Unless (LongEnough c room) 7 Never))

abbrev pub Checked : {A : Type 0} → Call → ℕ → Result A R.Refusal → Type 0
Checked c room r = MatchResult r (λ u. Fit c room) (λ e. Early c room (number_of e))

-- the answer to a call that escapes them, and the buffer afterwards
pub record Worked (c : Call) (out : List ℕ) (r : Result ℕ R.Refusal) (out' : List ℕ) : Type 0 where
  pub late : Late c out (refusal_number r)
  pub size_is : size_of r ≡ cond (eqb (refusal_number r) 0) (length (bytes c)) 0
  pub buffer : out' ≡ buffer_after c (refusal_number r) out
