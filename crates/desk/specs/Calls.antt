-- WHAT EACH CALL ANSWERS AND LEAVES (01, "Numbers of refusal, in order of checking").
use Rattle.std.specs.Prelude.{ℕ, ◌+◌, ◌≤◌, ◌<◌, ◌≡◌, ◌≢◌, true, false, length}
use Rattle.std.proofs.Math.Option.{Option, none, some}
use Rattle.meaning.specs.Bytes.{Bytes}
use Rattle.meaning.specs.Reply.{Reply}
use Rattle.meaning.specs.Solve.{Outcome, waiting, said, outcome}
use Rattle.reply.specs.Read.{Is}
use Rattle.meaning.specs.Refused.{Unless, Granted}
use Rattle.whole.specs.Whole.{OpenRules, Judging, Heard, part_of, Whole}
use Rattle.desk.specs.Changed.{opened_as, noted, put_at}
use Rattle.whole.specs.declared.Question.{Question}
use Rattle.whole.specs.declared.Record.{Record}

-- ---- opening
abbrev pub OpenRefusal : Record → Bytes → ℕ → ℕ → ℕ → Type 0
OpenRefusal d layout entries number = Unless (OpenRules layout entries) 10 (Unless (d.last < number) 11 Granted)

pub record Opens (d : Record) (layout : Bytes) (entries number refusal : ℕ) (after : Record) : Type 0 where
  pub why : OpenRefusal d layout entries number refusal
  pub refused : refusal ≢ 0 → after ≡ d
  pub opened : refusal ≡ 0 → after ≡ opened_as layout entries number

-- ---- accepting
-- 16: the fragment is already heard; 17: used room plus length exceeds the store
abbrev pub Room : Record → Bytes → Bytes → ℕ → Type 0
Room d store s =
    Unless ((r : Reply) → Is 12 s r → Heard d.question r.fragment → ⊥) 16
    (Unless (d.used + length s ≤ length store) 17 Granted)

abbrev pub Why : Record → Bytes → Bytes → ℕ → Type 0
Why d store s = Unless (Whole d store) 20 (Unless (d.question.number ≢ 0) 12 (Judging d.question s (Room d store s)))

pub record Accepts (d : Record) (store s : Bytes) (refusal : ℕ) (after : Record) (stored : Bytes) : Type 0 where
  pub why : Why d store s refusal
  pub refused : refusal ≢ 0 → (after ≡ d) × (stored ≡ store)
  pub taken : refusal ≡ 0 → (r : Reply) → Is 12 s r → (after ≡ noted d r.fragment (length s)) × (stored ≡ put_at d.used s store)

-- ---- asking
-- the replies held: of a fragment that is not heard none, of one that is heard the reply that its bytes are
pub record Held (q : Question) (store : Bytes) (held : ℕ → Option Reply) : Type 0 where
  pub unheard : (f : ℕ) → (Heard q f → ⊥) → held f ≡ none
  pub heard : (f : ℕ) → Heard q f → (r : Reply) × (held f ≡ some r) × Is 12 (part_of q store f) r

-- 0 waiting, 1 no, 2 yes
abbrev pub said_of : Outcome → ℕ
said_of waiting = 0
said_of (said false) = 1
said_of (said true) = 2

abbrev pub AskRefusal : Record → Bytes → ℕ → Type 0
AskRefusal d store = Unless (Whole d store) 20 (Unless (d.question.number ≢ 0) 12 Granted)

pub record Asks (d : Record) (store : Bytes) (refusal answer : ℕ) : Type 0 where
  pub why : AskRefusal d store refusal
  pub refused : refusal ≢ 0 → answer ≡ 0
  pub answered : refusal ≡ 0 → (held : ℕ → Option Reply) × Held d.question store held
      × (answer ≡ said_of (outcome d.question.entries d.question.parts held))
