-- Reading a reply by computing: its fields at their places, accepted exactly if the reply they make is well formed and writes these bytes.
use Rattle.std.specs.Prelude.{ℕ, zero, suc, ◌+◌, ◌*◌, ◌^◌, Bool, true, false, not, ◌&&◌, cond, length, get_or, eqb, ltb, leb}
use Rattle.std.proofs.Math.Option.{Option, none, some}
use Rattle.bits.specs.Bits.{bytes_for}
use Rattle.bits.specs.Fields.{field_at}
use Rattle.meaning.specs.Bytes.{Bytes, same_bytes}
use Rattle.meaning.specs.Formula.{Ref, Step}
use Rattle.meaning.specs.Reply.{Reply, tabulated}
use Rattle.reply.specs.Write.{write}
use Rattle.reply.specs.WellFormed.{vars}

-- ---- places: where each part ends, of k stand-ins, m steps and n entries
abbrev pub head_to : ℕ
head_to = 60

abbrev pub ref_width : ℕ → ℕ
ref_width w = 2 + w

abbrev pub step_width : ℕ → ℕ
step_width w = 2 + (ref_width w + ref_width w)

abbrev pub ins_to : ℕ → ℕ
ins_to k = head_to + 5 * k

abbrev pub steps_to : ℕ → ℕ → ℕ → ℕ
steps_to w k m = ins_to k + step_width w * m

abbrev pub v_to : ℕ → ℕ → ℕ → ℕ → ℕ
v_to w k m n = steps_to w k m + ref_width w * n

abbrev pub end_of : ℕ → ℕ → ℕ → ℕ → ℕ
end_of w k m n = v_to w k m n + ref_width w * n

-- how many bytes that is
abbrev pub size : ℕ → ℕ → ℕ → ℕ → ℕ
size w k m n = bytes_for (end_of w k m n)

-- ---- fields
unfoldable pub ref_from : ℕ → ℕ → Ref
ref_from zero x = Ref.low
ref_from (suc zero) x = Ref.high
ref_from (suc (suc zero)) x = Ref.var x
ref_from (suc (suc (suc k))) x = Ref.step x

unfoldable pub step_from : ℕ → Ref → Ref → Step
step_from zero a b = Step.and a b
step_from (suc zero) a b = Step.or a b
step_from (suc (suc k)) a b = Step.not a

unfoldable pub ref_at : ℕ → Bytes → ℕ → Ref
ref_at w s p = ref_from (field_at s p 2) (field_at s (p + 2) w)

unfoldable pub step_at : ℕ → Bytes → ℕ → Step
step_at w s p = step_from (field_at s p 2) (ref_at w s (p + 2)) (ref_at w s (p + 2 + ref_width w))

abbrev pub number_of : Bytes → ℕ
number_of s = field_at s 0 32

abbrev pub fragment_of : Bytes → ℕ
fragment_of s = field_at s 32 5

abbrev pub entries_of : Bytes → ℕ
entries_of s = field_at s 37 5 + 1

abbrev pub ins_of : Bytes → ℕ
ins_of s = field_at s 42 5

abbrev pub steps_of : Bytes → ℕ
steps_of s = field_at s 47 13

-- the i-th stand-in's fragment
abbrev pub in_at : Bytes → ℕ → ℕ
in_at s i = field_at s (head_to + 5 * i) 5

-- the reply that bytes are, if they are one
unfoldable pub decoded : ℕ → Bytes → Reply
decoded w s = record {
  number = number_of s;
  fragment = fragment_of s;
  entries = entries_of s;
  ins = tabulated (ins_of s) 0 (in_at s);
  steps = tabulated (steps_of s) 0 (λ i. step_at w s (ins_to (ins_of s) + step_width w * i));
  v = tabulated (entries_of s) 0 (λ e. ref_at w s (steps_to w (ins_of s) (steps_of s) + ref_width w * e));
  d = tabulated (entries_of s) 0 (λ e. ref_at w s (v_to w (ins_of s) (steps_of s) (entries_of s) + ref_width w * e));
}

-- ---- `WellFormed` and `Fits` as tests (`Promise` has that they say the same)
unfoldable pub every : (ℕ → Bool) → ℕ → Bool
every p zero = true
every p (suc n) = every p n && p n

abbrev pub is_result : ℕ → ℕ → Ref → Bool
is_result n m Ref.low = true
is_result n m Ref.high = true
is_result n m (Ref.var x) = ltb x n
is_result n m (Ref.step i) = ltb i m

abbrev pub is_operand : ℕ → ℕ → Ref → Bool
is_operand n m Ref.low = false
is_operand n m Ref.high = false
is_operand n m (Ref.var x) = ltb x n
is_operand n m (Ref.step i) = ltb i m

abbrev pub are_operands : ℕ → ℕ → Step → Bool
are_operands n m (Step.and a b) = is_operand n m a && is_operand n m b
are_operands n m (Step.or a b) = is_operand n m a && is_operand n m b
are_operands n m (Step.not a) = is_operand n m a

unfoldable pub well_formed : Reply → Bool
well_formed r =
    let n = vars r.entries (length r.ins) in
    let m = length r.steps in
    ltb 0 r.number && (ltb r.number (2 ^ 32) && (ltb r.fragment 32 && (ltb 0 r.entries && (leb r.entries 32
    && (eqb (length r.v) r.entries && (eqb (length r.d) r.entries && (ltb (length r.ins) 32
    && (every (λ i. ltb r.fragment (get_or r.ins i 0) && ltb (get_or r.ins i 0) 32) (length r.ins)
    && (every (λ i. every (λ j. not (eqb (get_or r.ins j 0) (get_or r.ins i 0))) i) (length r.ins)
    && (leb m 4096 && (every (λ i. are_operands n i (get_or r.steps i (Step.not Ref.low))) m
    && (every (λ e. is_result n m (get_or r.v e Ref.low)) r.entries
    && every (λ e. is_result n m (get_or r.d e Ref.low)) r.entries))))))))))))

unfoldable pub fits : ℕ → Reply → Bool
fits w r = leb (vars r.entries (length r.ins)) (2 ^ w) && leb (length r.steps) (2 ^ w)

-- THE REPLY THAT BYTES ARE
unfoldable pub read : ℕ → Bytes → Option Reply
read w s = let r = decoded w s in cond (well_formed r && (fits w r && same_bytes (write w r) s)) (some r) none
