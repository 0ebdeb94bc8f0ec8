-- WHAT A DEPOT ANSWERS (01, "Numbers of refusal", 5 to 9), and what it leaves in work memory and reply buffer.
use Rattle.std.specs.Prelude.{ℕ, ◌+◌, ◌*◌, ◌<◌, ◌≤◌, ◌≡◌, ◌||◌, cond, List, ◌++◌, length, drop, replicate, eqb}
use Rattle.meaning.specs.Refused.{Unless, Granted}
use Rattle.meaning.specs.Bytes.{Bytes}
use Rattle.meaning.specs.Fragment.{Fragment, Sound, row_count, rows_of}
use Rattle.meaning.specs.Reply.{Reply, laid_down}
use Rattle.question.specs.declared.List as L
use Rattle.question.specs.Listed.{Keeps, listed}
use Rattle.reply.specs.Write.{write}

-- a call: the list over its text, the fragment and its number, the question's number
pub record Call : Type 0 where
  pub list : L.List
  pub text : Bytes
  pub fragment : Fragment
  pub part : ℕ
  pub number : ℕ

abbrev pub call : L.List → Bytes → Fragment → ℕ → ℕ → Call
call l t F part number = record { list = l; text = t; fragment = F; part = part; number = number }

-- the reply laid down, and its bytes
abbrev pub laid : Call → Reply
laid c = laid_down (rows_of c.fragment) (listed c.list c.text) c.number c.part

abbrev pub bytes : Call → Bytes
bytes c = write 12 (laid c)

-- 8 and 9, once there is work to do
abbrev pub Late : Call → List ℕ → ℕ → Type 0
Late c out = Unless (length (laid c).steps ≤ 4096) 8 (Unless (length (bytes c) ≤ length out) 9 Granted)

-- THE REFUSALS in order, 0 for none
abbrev pub Refusal : Call → List ℕ → List ℕ → ℕ → Type 0
Refusal c work out =
    Unless (Keeps c.list c.text × (0 < c.number)) 5
    (Unless (Sound c.part c.fragment) 6
    (Unless (4 * (row_count c.fragment * c.list.count) + 12288 ≤ length work) 7
    (Late c out)))

-- work memory is unchanged after 5, 6, 7 and all zero otherwise
abbrev pub memory_after : ℕ → List ℕ → List ℕ
memory_after r work = cond (eqb r 5 || (eqb r 6 || eqb r 7)) work (replicate (length work) 0)

-- the buffer begins with the reply's bytes, and is unchanged past them, and on refusal
abbrev pub buffer_after : Call → ℕ → List ℕ → List ℕ
buffer_after c r out = cond (eqb r 0) (bytes c ++ drop (length (bytes c)) out) out

-- THE ANSWER: the number of refusal r, the reply's size, work memory and buffer afterwards
pub record Answered (c : Call) (work out : List ℕ) (r size : ℕ) (work' out' : List ℕ) : Type 0 where
  pub refusal : Refusal c work out r
  pub size_is : size ≡ cond (eqb r 0) (length (bytes c)) 0
  pub memory : work' ≡ memory_after r work
  pub buffer : out' ≡ buffer_after c r out
