-- One question put to a register cut by a layout: the depots' calls, what the callers keep to, and what the question means.
use Rattle.std.specs.Prelude.{ℕ, zero, suc, ◌+◌, ◌-◌, ◌≤◌, ◌<◌, ◌≡◌, length, take}
use mathlib.Core.List.{List, Memᴰ}
use Rattle.meaning.specs.Bytes.{Bytes}
use Rattle.meaning.specs.Entry.{EntryHolds}
use Rattle.meaning.specs.Reply.{Reply}
use Rattle.meaning.specs.Register.{Register, parts, joined}
use Rattle.question.specs.declared.List as L
use Rattle.question.specs.Listed.{listed}
use Rattle.reply.specs.Read.{Is}
use Rattle.depot.specs.Answer.{Call, call, Answered}
use Rattle.register.specs.Calls.{Event, HandedIn}

-- a register, a list over a text, and a question number
pub record Round : Type 0 where
  pub register : Register
  pub list : L.List
  pub text : Bytes
  pub number : ℕ

-- the call of fragment f's depot
abbrev pub call_of : Round → ℕ → Call
call_of R f = call R.list R.text (R.register.fragment f) f R.number

-- fragment f's depot was called, with any memory and buffer, and did not refuse
pub record Replied (R : Round) (f : ℕ) : Type 0 where
  pub work : List ℕ
  pub out : Bytes
  pub size : ℕ
  pub work' : List ℕ
  pub out' : Bytes
  pub replying : Answered (call_of R f) work out 0 size work' out'

-- s is what such a call left in its buffer
pub record SentBy (R : Round) (f : ℕ) (s : Bytes) : Type 0 where
  pub called : Replied R f
  pub is : s ≡ take called.size called.out'

-- fragment f's reply was handed in
abbrev pub PartIn : Round → ℕ → List Event → Type 0
PartIn R f l = (s : Bytes) × SentBy R f s × HandedIn s l

-- every well-formed reply that bears the open number is what the depot of a part sent
abbrev pub Honest : Round → List Event → Type 0
Honest R l = (s : Bytes) (n : ℕ) → Memᴰ (Event.handed s n) l → (r : Reply) → Is 12 s r → r.number ≡ R.number
    → (f : ℕ) × (f < parts R.register) × SentBy R f s

-- f 0 + .. + f (n - 1)
unfoldable pub total : (ℕ → ℕ) → ℕ → ℕ
total f zero = 0
total f (suc n) = total f n + f n

-- a store with room for one reply of each
pub record Roomy (R : Round) (store : Bytes) : Type 0 where
  pub size : ℕ → ℕ
  pub each : (f : ℕ) → f < parts R.register → (s : Bytes) → SentBy R f s → length s ≤ size f
  pub room : total size (parts R.register) ≤ length store

-- what the list's last entry means at the top row of the joined register
abbrev pub Meaning : Round → Type 0
Meaning R = EntryHolds (joined R.register) (listed R.list R.text) (R.list.count - 1) (0, 0)
