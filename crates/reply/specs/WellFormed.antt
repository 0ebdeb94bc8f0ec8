-- When a reply is well formed (01, "The reply's bits"), clause for clause; and when a width can write it.
use Rattle.std.specs.Prelude.{ℕ, ◌*◌, ◌^◌, ◌≤◌, ◌<◌, ◌≡◌, length, get_or}
use Rattle.meaning.specs.Formula.{Ref, Step}
use Rattle.meaning.specs.Reply.{Reply}

-- how many variables there are, for a number of entries and of stand-ins
unfoldable pub vars : ℕ → ℕ → ℕ
vars entries ins = 2 * entries * ins

-- of n variables and m steps: results are constants, existing variables or existing steps
abbrev pub Result : ℕ → ℕ → Ref → Type 0
Result n m Ref.low = Unit {0}
Result n m Ref.high = Unit {0}
Result n m (Ref.var x) = x < n
Result n m (Ref.step i) = i < m

-- of n variables, at step m: operands are existing variables or earlier steps, never constants
abbrev pub Operand : ℕ → ℕ → Ref → Type 0
Operand n m Ref.low = ⊥
Operand n m Ref.high = ⊥
Operand n m (Ref.var x) = x < n
Operand n m (Ref.step i) = i < m

abbrev pub Operands : ℕ → ℕ → Step → Type 0
Operands n m (Step.and a b) = Operand n m a × Operand n m b
Operands n m (Step.or a b) = Operand n m a × Operand n m b
Operands n m (Step.not a) = Operand n m a

pub record WellFormed (r : Reply) : Type 0 where
  pub asked : 0 < r.number
  pub number_fits : r.number < 2 ^ 32
  pub fragment_fits : r.fragment < 32
  pub some_entry : 0 < r.entries
  pub few_entries : r.entries ≤ 32
  pub v_all : length r.v ≡ r.entries
  pub d_all : length r.d ≡ r.entries
  pub few_ins : length r.ins < 32
  pub ins_fit : (i : ℕ) → i < length r.ins → (r.fragment < get_or r.ins i 0) × (get_or r.ins i 0 < 32)
  pub ins_differ : (i : ℕ) → i < length r.ins → (j : ℕ) → j < i → get_or r.ins j 0 ≡ get_or r.ins i 0 → ⊥
  pub few_steps : length r.steps ≤ 4096
  pub operands : (i : ℕ) → i < length r.steps → Operands (vars r.entries (length r.ins)) i (get_or r.steps i (Step.not Ref.low))
  pub v_good : (e : ℕ) → e < r.entries → Result (vars r.entries (length r.ins)) (length r.steps) (get_or r.v e Ref.low)
  pub d_good : (e : ℕ) → e < r.entries → Result (vars r.entries (length r.ins)) (length r.steps) (get_or r.d e Ref.low)

-- every number of a variable or a step can be written with w bits
pub record Fits (w : ℕ) (r : Reply) : Type 0 where
  pub vars_fit : vars r.entries (length r.ins) ≤ 2 ^ w
  pub steps_fit : length r.steps ≤ 2 ^ w
