-- Solving in flat lists of truth values. Inner functions' contracts cite these.
use Rattle.std.specs.Prelude.{ℕ, ◌+◌, ◌-◌, ◌*◌, ◌≤◌, ◌<◌, ◌≡◌, ◌⊎◌, Bool, false, List, length, get_or}
use Rattle.std.proofs.Math.Option.{Option, some}
use Rattle.meaning.specs.Bytes.{Bytes}
use Rattle.meaning.specs.Algebra.{bool}
use Rattle.meaning.specs.Formula.{Ref, Step}
use Rattle.meaning.specs.Reply.{Reply, tabulated}
use Rattle.meaning.specs.Solve.{Values, assign, solve, no_values}
use Rattle.reply.specs.inner.Decode.{ref_from, step_from, entries_of, ins_of, in_at, decoded}
use Rattle.reply.specs.inner.Fields.{kind_code, op_code}
use Rattle.reply.specs.declared.Reference.{Reference}
use Rattle.reply.specs.declared.StepField.{StepField}
use Rattle.whole.specs.Whole.{Heard, part_of}
use Rattle.whole.specs.declared.Question.{Question}

-- what was read, as a reference and a step
abbrev pub ref_of : Reference → Ref
ref_of r = ref_from (kind_code r.kind) r.number

abbrev pub step_of : StepField → Step
step_of t = step_from (op_code t.op) (ref_of t.left) (ref_of t.right)

abbrev pub truth_in : List Bool → ℕ → Bool
truth_in l x = get_or l x false

-- the values that rows hold, 64 places to a fragment: V of its n entries, then D
abbrev pub values_in : ℕ → List Bool → Values Bool
values_in n rows = record { v = λ f e. truth_in rows (64 * f + e); d = λ f e. truth_in rows (64 * f + (n + e)) }

-- the variables of the reply that bytes are
unfoldable pub variable_of : Bytes → List Bool → ℕ → Bool
variable_of s rows = assign bool (entries_of s) (tabulated (ins_of s) 0 (in_at s)) (values_in (entries_of s) rows)

-- truth values put into a list from `base` on
pub record Put (list : List Bool) (base count : ℕ) (f : ℕ → Bool) (out : List Bool) : Type 0 where
  pub here : (e : ℕ) → e < count → truth_in out (base + e) ≡ f e
  pub other : (i : ℕ) → (i < base) ⊎ (base + count ≤ i) → truth_in out i ≡ truth_in list i
  pub long : length out ≡ length list

-- values that agree for n entries
pub record Agree (n : ℕ) (S T : Values Bool) : Type 0 where
  pub v_same : (g e : ℕ) → e < n → S.v g e ≡ T.v g e
  pub d_same : (g e : ℕ) → e < n → S.d g e ≡ T.d g e

abbrev pub AllHeard : Question → Type 0
AllHeard q = (f : ℕ) → f < q.parts → Heard q f

-- the reply that lies in the store for f
abbrev pub kept : Question → Bytes → ℕ → Option Reply
kept q store f = some (decoded 12 (part_of q store f))

-- V of fragment 0's last entry
unfoldable pub answer_of : Question → Bytes → Bool
answer_of q store = (solve bool q.entries (kept q store) q.parts (no_values bool q.entries)).v 0 (q.entries - 1)
