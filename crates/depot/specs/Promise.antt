-- WHAT IS PROVED of a depot's answers: each promise is a type, and proofs/ has an element under its name (`one_answer` of `OneAnswer`).
use Rattle.std.specs.Prelude.{ℕ, ◌+◌, ◌*◌, ◌^◌, ◌<◌, ◌≤◌, ◌≡◌, ◌⊎◌, List, length, get_or, Result}
use Rattle.meaning.specs.Bytes.{Bytes}
use Rattle.meaning.specs.Fragment.{Fragment, Sound, row_count, NoStandIn}
use Rattle.question.specs.declared.List as L
use Rattle.question.specs.Listed.{placed, Keeps}
use Rattle.reply.specs.WellFormed.{WellFormed}
use Rattle.depot.specs.declared.Refusal.{Refusal}
use Rattle.depot.specs.Number.{refusal_number, size_of}
use Rattle.depot.specs.Answer.{Call, call, laid, bytes, Answered}

-- any two answers to a call, with what they leave, are the same
abbrev pub Same : ℕ → ℕ → List ℕ → List ℕ → ℕ → ℕ → List ℕ → List ℕ → Type 0
Same r size work out r' size' work' out' = (r ≡ r') × (size ≡ size') × (work ≡ work') × (out ≡ out')

abbrev pub OneAnswer : Type 0
OneAnswer = (c : Call) (work out : List ℕ) (r size : ℕ) (w o : List ℕ) (r' size' : ℕ) (w' o' : List ℕ)
    → Answered c work out r size w o → Answered c work out r' size' w' o' → Same r size w o r' size' w' o'

-- the same of the result that the code hands out
abbrev pub OneResult : Type 0
OneResult = (c : Call) (work out : List ℕ) (r : Result ℕ Refusal) (w o : List ℕ) (r' : Result ℕ Refusal) (w' o' : List ℕ)
    → Answered c work out (refusal_number r) (size_of r) w o → Answered c work out (refusal_number r') (size_of r') w' o'
    → (r ≡ r') × (w ≡ w') × (o ≡ o')

-- a call that keeps the rules
pub record RulesKept (c : Call) : Type 0 where
  pub keeps : Keeps c.list c.text
  pub asked : 0 < c.number
  pub sound : Sound c.part c.fragment

-- with memory and room enough it is refused with 8 only, for too many steps, and never where the fragment has no stand-in
pub record Enough (c : Call) (work out : List ℕ) : Type 0 where
  pub memory : 4 * (row_count c.fragment * c.list.count) + 12288 ≤ length work
  pub room : length (bytes c) ≤ length out

abbrev pub OnlyEight : Type 0
OnlyEight = (c : Call) (work out : List ℕ) (r size : ℕ) (w o : List ℕ) → Answered c work out r size w o → RulesKept c → Enough c work out
    → (r ≡ 0) ⊎ ((r ≡ 8) × (4096 < length (laid c).steps))

abbrev pub NeverEight : Type 0
NeverEight = (c : Call) (work out : List ℕ) (r size : ℕ) (w o : List ℕ) → Answered c work out r size w o → RulesKept c → Enough c work out
    → NoStandIn c.fragment → r ≡ 0

-- the reply laid down is well formed, where it has at most 4,096 steps
abbrev pub LaidWellFormed : Type 0
LaidWellFormed = (c : Call) → RulesKept c → c.number < 2 ^ 32 → length (laid c).steps ≤ 4096 → WellFormed (laid c)

-- two lists agree in what they use: as many entries, of the same kinds, each with the same word's place or operands
pub record Agree (l l' : L.List) : Type 0 where
  pub count : l.count ≡ l'.count
  pub kinds : (i : ℕ) → i < l.count → get_or l.kinds i 0 ≡ get_or l'.kinds i 0
  pub uses : (i : ℕ) → i < l.count
      → placed (get_or l.kinds i 0) (get_or l.left i 0) (get_or l.right i 0)
      ≡ placed (get_or l'.kinds i 0) (get_or l'.left i 0) (get_or l'.right i 0)

-- two lists that agree in what they use get the same answer and bytes
abbrev pub UnusedIgnored : Type 0
UnusedIgnored = (l l' : L.List) → Agree l l' → (t : Bytes) (F : Fragment) (part number : ℕ) (work out : List ℕ)
    → (r size : ℕ) (w o : List ℕ) (r' size' : ℕ) (w' o' : List ℕ) → Answered (call l t F part number) work out r size w o
    → Answered (call l' t F part number) work out r' size' w' o' → Same r size w o r' size' w' o'
