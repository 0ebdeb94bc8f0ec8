-- What inner functions read: the fields at a place, and the bounds that the width gives.
use Rattle.std.specs.Prelude.{ℕ, ◌+◌, ◌^◌, ◌≤◌, ◌<◌, ◌≡◌, Option, Some, None, Result, MatchResult}
use Rattle.bits.specs.Fields.{field_at}
use Rattle.meaning.specs.Bytes.{Bytes}
use Rattle.reply.specs.inner.Decode.{ref_width, number_of, fragment_of, entries_of, ins_of, steps_of, in_at}
use Rattle.reply.specs.declared.Head.{Head}
use Rattle.reply.specs.declared.RefKind.{RefKind}
use Rattle.reply.specs.declared.Op.{Op}
use Rattle.reply.specs.declared.UnknownOp.{UnknownOp}
use Rattle.bits.specs.declared.Field.{Field}
use Rattle.reply.specs.declared.Reference.{Reference}
use Rattle.reply.specs.declared.StepField.{StepField}

-- ---- the codes of a reference's kind and of a step's operation; code 3 names no operation
abbrev pub kind_code : RefKind → ℕ
kind_code RefKind.Low = 0
kind_code RefKind.High = 1
kind_code RefKind.Var = 2
kind_code RefKind.Step = 3

abbrev pub op_code : Option Op → ℕ
op_code (Some Op.And) = 0
op_code (Some Op.Or) = 1
op_code (Some Op.Not) = 2
op_code None = 3

-- the operation with this code, or the code, where it names none
abbrev pub Decodes : ℕ → Result Op UnknownOp → Type 0
Decodes code r = MatchResult r (λ op. op_code (Some op) ≡ code) (λ e. (e.0 ≡ code) × (2 < code))

pub record HeadIs (s : Bytes) (h : Head) : Type 0 where
  pub number_is : h.number ≡ number_of s
  pub fragment_is : h.fragment ≡ fragment_of s
  pub entries_is : h.entries ≡ entries_of s
  pub ins_is : h.ins ≡ ins_of s
  pub steps_is : h.steps ≡ steps_of s
  pub fragment_lt : h.fragment < 32
  pub entries_le : h.entries ≤ 32
  pub ins_lt : h.ins < 32
  pub steps_lt : h.steps < 8192

pub record InIs (s : Bytes) (i x : ℕ) : Type 0 where
  pub in_is : x ≡ in_at s i
  pub in_lt : x < 32

pub record RefIs (w : ℕ) (s : Bytes) (at : ℕ) (r : Field Reference) : Type 0 where
  pub kind_is : kind_code r.value.kind ≡ field_at s at 2
  pub number_is : r.value.number ≡ field_at s (at + 2) w
  pub next_is : r.next.at ≡ at + ref_width w
  pub number_lt : r.value.number < 2 ^ w

pub record StepIs (w : ℕ) (s : Bytes) (at : ℕ) (t : StepField) : Type 0 where
  pub op_is : op_code t.op ≡ field_at s at 2
  pub left_kind_is : kind_code t.left.kind ≡ field_at s (at + 2) 2
  pub left_number_is : t.left.number ≡ field_at s (at + 2 + 2) w
  pub right_kind_is : kind_code t.right.kind ≡ field_at s (at + 2 + ref_width w) 2
  pub right_number_is : t.right.number ≡ field_at s (at + 2 + ref_width w + 2) w
  pub left_number_lt : t.left.number < 2 ^ w
  pub right_number_lt : t.right.number < 2 ^ w
