-- What the check tests, on the numbers read at a place; and `Checked`, all of it together. Inner functions' contracts cite these.
use Rattle.std.specs.Prelude.{ℕ, zero, suc, ◌+◌, ◌-◌, ◌*◌, ◌≤◌, ◌<◌, ◌≡◌, false, length, replicate}
use Rattle.bits.specs.Bits.{bytes_for}
use Rattle.bits.specs.Fields.{field_at}
use Rattle.bits.specs.inner.Stand.{BitsStand}
use Rattle.meaning.specs.Bytes.{Bytes}
use Rattle.reply.specs.WellFormed.{vars}
use Rattle.reply.specs.inner.Decode.{ref_width, step_width, ins_to, steps_to, v_to, end_of}
use Rattle.reply.specs.inner.Decode.{number_of, fragment_of, entries_of, ins_of, steps_of, in_at}
use Rattle.reply.specs.declared.Head.{Head}

-- a result's kind and number, of n variables and m steps
unfoldable pub RefOk : ℕ → ℕ → ℕ → ℕ → Type 0
RefOk n m zero x = x ≡ 0
RefOk n m (suc zero) x = x ≡ 0
RefOk n m (suc (suc zero)) x = x < n
RefOk n m (suc (suc (suc zero))) x = x < m
RefOk n m (suc (suc (suc (suc k)))) x = ⊥

-- no constant
abbrev pub OperandOk : ℕ → ℕ → ℕ → ℕ → Type 0
OperandOk n m k x = (2 ≤ k) × RefOk n m k x

-- a step's operation, and its references' kinds and numbers
unfoldable pub StepOk : ℕ → ℕ → ℕ → ℕ → ℕ → ℕ → ℕ → Type 0
StepOk n m zero ka xa kb xb = OperandOk n m ka xa × OperandOk n m kb xb
StepOk n m (suc zero) ka xa kb xb = OperandOk n m ka xa × OperandOk n m kb xb
StepOk n m (suc (suc zero)) ka xa kb xb = OperandOk n m ka xa × (kb ≡ 0) × (xb ≡ 0)
StepOk n m (suc (suc (suc k))) ka xa kb xb = ⊥

abbrev pub RefGood : ℕ → Bytes → ℕ → ℕ → ℕ → Type 0
RefGood w s n m p = RefOk n m (field_at s p 2) (field_at s (p + 2) w)

abbrev pub StepGood : ℕ → Bytes → ℕ → ℕ → ℕ → Type 0
StepGood w s n m p =
    StepOk n m (field_at s p 2) (field_at s (p + 2) 2) (field_at s (p + 2 + 2) w)
    (field_at s (p + 2 + ref_width w) 2) (field_at s (p + 2 + ref_width w + 2) w)

-- the i-th stand-in exceeds the fragment and differs from those before it
pub record InGood (s : Bytes) (f i : ℕ) : Type 0 where
  pub above : f < in_at s i
  pub fresh : (j : ℕ) → j < i → in_at s j ≡ in_at s i → ⊥

-- a header's numbers are allowed, and so many bytes are what it says
pub record SizesOk (h : Head) (size : ℕ) : Type 0 where
  pub asked : 0 < h.number
  pub few : h.steps ≤ 4096
  pub whole : bytes_for (end_of 12 h.ins h.steps h.entries) ≡ size

abbrev pub vars_of : Bytes → ℕ
vars_of s = vars (entries_of s) (ins_of s)

pub record Checked (w : ℕ) (s : Bytes) : Type 0 where
  pub head : 60 ≤ 8 * length s
  pub asked : 0 < number_of s
  pub few : steps_of s ≤ 4096
  pub room : end_of w (ins_of s) (steps_of s) (entries_of s) ≤ 8 * length s
  pub close : 8 * length s < end_of w (ins_of s) (steps_of s) (entries_of s) + 8
  pub ins_good : (i : ℕ) → i < ins_of s → InGood s (fragment_of s) i
  pub steps_good : (i : ℕ) → i < steps_of s → StepGood w s (vars_of s) i (ins_to (ins_of s) + step_width w * i)
  pub v_good : (e : ℕ) → e < entries_of s → RefGood w s (vars_of s) (steps_of s) (steps_to w (ins_of s) (steps_of s) + ref_width w * e)
  pub d_good : (e : ℕ) → e < entries_of s
      → RefGood w s (vars_of s) (steps_of s) (v_to w (ins_of s) (steps_of s) (entries_of s) + ref_width w * e)
  pub filled : BitsStand s (end_of w (ins_of s) (steps_of s) (entries_of s)) (8 * length s)
      (replicate (8 * length s - end_of w (ins_of s) (steps_of s) (entries_of s)) false)
