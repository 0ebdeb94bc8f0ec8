-- THE CONDITIONS OF ACCEPTANCE: each promise is a type, and proofs/ has an element of it under its name (`condition_3` of `Condition3`).
--
-- CONDITION 1 is the contracts of the exported functions: none has a `requires`, and each determines the number of refusal and every lent
-- byte and number afterwards (`OneRead`, `OneListing`, `OneAnswer`, `OneCheck`, `OneOpening`, `OneAccepting`, `OneAsking` of the crates'
-- own `Promise`). Every call has a result: a function is proved to end, with one that its contract allows.
use Rattle.std.specs.Prelude.{ℕ, ◌+◌, ◌*◌, ◌/◌, ◌^◌, ◌≤◌, ◌<◌, ◌≡◌, Bool, ◌⊎◌, ◌≢◌, List, [], ◌∷◌, length, take}
use Rattle.meaning.specs.Says.{Says}
use Rattle.meaning.specs.Bytes.{Bytes}
use Rattle.meaning.specs.Holds.{Holds}
use Rattle.meaning.specs.Bound.{Open, step_bound}
use Rattle.meaning.specs.Fragment.{Fragment, Sound, row_count, rows_of, alone, NoStandIn}
use Rattle.meaning.specs.Reply.{Reply}
use Rattle.meaning.specs.Register.{parts, rows_in, Cut, joined}
use Rattle.reader.specs.Packed.{placed_entries}
use Rattle.reader.specs.Read.{Written, ReadRefusal, Read}
use Rattle.reader.specs.declared.Answer.{Answer}
use Rattle.reply.specs.Read.{Is, Reading}
use Rattle.depot.specs.Answer.{Call, call, laid, Answered}
use Rattle.desk.specs.Calls.{Opens, Accepts, Asks}
use Rattle.whole.specs.declared.Record.{Record}
use Rattle.register.specs.Calls.{Event, Calls}
use Rattle.register.specs.Round.{Round, Replied, SentBy, PartIn, Honest, Roomy, Meaning}

-- asking says yes (2) and A holds, or no (1) and it does not
abbrev pub Tells : Type 0 → ℕ → Type 0
Tells A a = ((a ≡ 2) × A) ⊎ ((a ≡ 1) × (A → ⊥))

-- ---- CONDITION 2
-- a register in one box: the calls in turn, each with any result that its contract allows
pub record OneBox (t : Bytes) (F : Fragment) (old : Record) (number : ℕ) (work : List ℕ) (out store : Bytes) : Type 0 where
  pub read : Answer
  pub reading : Read t read
  pub reply_refusal : ℕ
  pub reply_size : ℕ
  pub work' : List ℕ
  pub out' : Bytes
  pub replying : Answered (call read.list t F 0 number) work out reply_refusal reply_size work' out'
  pub open_refusal : ℕ
  pub opened : Record
  pub opening : Opens old (255 ∷ []) read.list.count number open_refusal opened
  pub accept_refusal : ℕ
  pub accepted : Record
  pub stored : Bytes
  pub accepting : Accepts opened store (take reply_size out') accept_refusal accepted stored
  pub ask_refusal : ℕ
  pub says : ℕ
  pub asking : Asks accepted stored ask_refusal says

-- all of them succeed, and asking tells whether A
pub record AllTaken (A : Type 0) {t : Bytes} {F : Fragment} {old : Record} {number : ℕ} {work : List ℕ} {out store : Bytes}
    (b : OneBox t F old number work out store) : Type 0 where
  pub read_taken : b.read.refusal ≡ 0
  pub reply_taken : b.reply_refusal ≡ 0
  pub open_taken : b.open_refusal ≡ 0
  pub accept_taken : b.accept_refusal ≡ 0
  pub ask_taken : b.ask_refusal ≡ 0
  pub answer : Tells A b.says

-- the bytes of a reply without stand-ins, for n entries; 120 at most
abbrev pub own_size : ℕ → ℕ
own_size n = (60 + 28 * n + 7) / 8

-- for every text that the reader has no reason to refuse, and every sound fragment without stand-ins: yes exactly when the question
-- holds at row 0, by 004's definition
abbrev pub Condition2 : Type 0
Condition2 = (t : Bytes) → ReadRefusal t 0 → (w : Written t) (F : Fragment) → Sound 0 F → NoStandIn F
    → (old : Record) (number : ℕ) → old.last < number → number < 2 ^ 32 → (work : List ℕ) (out store : Bytes)
    → 4 * (row_count F * length (placed_entries w.tree)) + 12_288 ≤ length work
    → own_size (length (placed_entries w.tree)) ≤ length out → own_size (length (placed_entries w.tree)) ≤ length store
    → (b : OneBox t F old number work out store) → AllTaken (Holds (alone (rows_of F)) w.tree 0) b

-- a depot's reply is the one laid down, byte for byte
abbrev pub DepotBytes : Type 0
DepotBytes = (c : Call) → c.number < 2 ^ 32 → (work out : List ℕ) (size : ℕ) (work' out' : List ℕ) → Answered c work out 0 size work' out'
    → Is 12 (take size out') (laid c)

-- a reply turned to bytes reads back as the same reply, and bytes that are read write back as the same bytes
abbrev pub ReadBack : Type 0
ReadBack = Reading 12

-- ---- CONDITION 3
-- what the desk says and takes after the calls l, where the question means A
pub record Faithful (R : Round) (A : Type 0) (l : List Event) (d : Record) (store : Bytes) : Type 0 where
  -- waiting while some part's reply has not been handed in, from then on the answer
  pub waiting : (f : ℕ) → f < parts R.register → (PartIn R f l → ⊥) → (n a : ℕ) → Asks d store n a → (n ≡ 0) × (a ≡ 0)
  pub answer : ((f : ℕ) → f < parts R.register → PartIn R f l) → (n a : ℕ) → Asks d store n a → (n ≡ 0) × Tells A a
  -- a first copy is taken, a further one gets 16, what is no reply 13, another question's reply 14
  pub first : (f : ℕ) → f < parts R.register → (PartIn R f l → ⊥) → (s : Bytes) → SentBy R f s
      → (n : ℕ) (e : Record) (x : Bytes) → Accepts d store s n e x → n ≡ 0
  pub further : (f : ℕ) → f < parts R.register → PartIn R f l → (s : Bytes) → SentBy R f s
      → (n : ℕ) (e : Record) (x : Bytes) → Accepts d store s n e x → n ≡ 16
  pub damaged : (s : Bytes) → ((r : Reply) → Is 12 s r → ⊥) → (n : ℕ) (e : Record) (x : Bytes) → Accepts d store s n e x → n ≡ 13
  pub stranger : (s : Bytes) (r : Reply) → Is 12 s r → r.number ≢ R.number
      → (n : ℕ) (e : Record) (x : Bytes) → Accepts d store s n e x → n ≡ 14

-- for any list that no depot refuses, what its last entry means; for the reader's list, what the question means by 004's definition
pub record Kept (R : Round) (l : List Event) (d : Record) (store : Bytes) : Type 0 where
  pub any : Faithful R (Meaning R) l d store
  pub readers : (a : Answer) → Read R.text a → a.refusal ≡ 0 → a.list ≡ R.list → (w : Written R.text)
      → Faithful R (Holds (joined R.register) w.tree (0, 0)) l d store

-- for every register cut by its layout and question that no depot refuses, opened from any record and store, after any calls
abbrev pub Condition3 : Type 0
Condition3 = (R : Round) → Cut R.register → R.number < 2 ^ 32 → ((f : ℕ) → f < parts R.register → Replied R f)
    → (old d : Record) (store : Bytes) → Opens old R.register.layout R.list.count R.number 0 d → Roomy R store
    → (l : List Event) (e : Record) (x : Bytes) → Calls d store l e x → Honest R l → Kept R l e x

-- whatever record and store hold, once the next question opens nothing of an earlier one counts: asking says waiting, and a reply that
-- bears another number is refused with 14
abbrev pub NothingCarriesOver : Type 0
NothingCarriesOver = (old d : Record) (store layout : Bytes) (entries number : ℕ) → Opens old layout entries number 0 d
    → ((n a : ℕ) → Asks d store n a → (n ≡ 0) × (a ≡ 0))
    × ((s : Bytes) (r : Reply) → Is 12 s r → r.number ≢ number → (n : ℕ) (e : Record) (x : Bytes) → Accepts d store s n e x → n ≡ 14)

-- the step bound of every reply: entries × (4 × open rows + 2 × stand-ins), one number, since there is a test of open rows
pub record Bounded (R : Round) (f : ℕ) (s : Bytes) : Type 0 where
  pub is_open : ℕ → Bool
  pub tells : (k : ℕ) → k < row_count (R.register.fragment f) → Says (Open (rows_in R.register f) k) (is_open k)
  pub bounded : (r : Reply) → Is 12 s r → length r.steps ≤ step_bound R.list.count (rows_in R.register f) is_open

abbrev pub StepsBounded : Type 0
StepsBounded = (R : Round) (f : ℕ) (s : Bytes) → R.number < 2 ^ 32 → SentBy R f s → Bounded R f s
