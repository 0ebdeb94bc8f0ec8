-- What the functions that read and judge have shown, on plain values.
use Prim.Native.Nat.{ℕ, zero, suc, ◌+◌, ◌*◌, ◌≤◌, ◌<◌}
use mathlib.Core.Path.{◌≡◌, refl, sym, ap, ◌∙◌}
use mathlib.Core.Bool.{Bool, true, false, true≢false}
use mathlib.Core.List.{List}
use mathlib.Core.Logic.{◌⊎◌, ⊎_elim}
use native.Mathlib.Nat.{mul-suc, mul-zero}
use native.Mathlib.Numerals.{add-one}
use native.Mathlib.Omega.{arith}
use native.Mathlib.Decide.{ℕ_discrete}
use lib.ListN.{length, get_or, set, replicate, length-set}
use lib.Seq.{get_or-set_same, get_or-set_other}
use Rattle.bits.specs.Fields.{field_at}
use Rattle.bits.proofs.Laws.{field_lt}
use Rattle.meaning.specs.Says.{Says, nay}
use Rattle.meaning.proofs.Says.{says_iff}
use Rattle.reply.specs.inner.Decode.{ref_width, in_at, ref_from, step_from, ref_at, step_at}
use Rattle.reply.specs.inner.Checked.{RefOk, OperandOk, StepOk, StepGood, RefGood, InGood}
use Rattle.reply.proofs.Lists.{up_to_suc}
use Rattle.reply.specs.inner.Fields.{kind_code, op_code, Decodes, HeadIs, RefIs, StepIs}
use Rattle.reply.specs.declared.Head.{Head}
use Rattle.reply.specs.declared.RefKind.{RefKind}
use Rattle.reply.specs.declared.Op.{Op}
use Rattle.reply.specs.declared.UnknownOp.{UnknownOp}
use Rattle.std.specs.Prelude.{Option, Result, Ok, Err}
use Rattle.std.specs.Result.{result_ok}
use Rattle.bits.specs.declared.Field.{Field}
use Rattle.reply.specs.declared.Reference.{Reference}
use Rattle.reply.specs.declared.StepField.{StepField}

-- what was read at p was read at q, where these are the same place
pub read_at : (s : List ℕ) (p q w v : ℕ) → v ≡ field_at s p w → p ≡ q → v ≡ field_at s q w
read_at s p q w v e h = e ∙ ap (λ z. field_at s z w) h

pub head_of : (s : List ℕ) (h : Head) → 8 ≤ length s → h.number ≡ field_at s 0 32 → h.fragment ≡ field_at s 32 5 → h.entries ≡ field_at s 37 5 + 1
    → h.ins ≡ field_at s 42 5 → h.steps ≡ field_at s 47 13 → HeadIs s h
head_of s h r a b d e f = record {
  number_is = a;
  fragment_is = b;
  entries_is = d;
  ins_is = e;
  steps_is = f;
  fragment_lt = rw b (field_lt s 32 5 (omega arith));
  entries_le = omega (arith, field_lt s 37 5 (omega arith));
  ins_lt = rw e (field_lt s 42 5 (omega arith));
  steps_lt = rw f (field_lt s 47 13 (omega arith));
}

pub ref_of : (w : ℕ) (s : List ℕ) (at : ℕ) (r : Field Reference) → at + ref_width w ≤ 8 * length s → kind_code r.value.kind ≡ field_at s at 2 → r.value.number ≡ field_at s (at + 2) w → r.next.at ≡ at + ref_width w → RefIs w s at r
ref_of w s at r h a b n = record { kind_is = a; number_is = b; next_is = n; number_lt = rw b (field_lt s (at + 2) w (omega arith)) }

-- two bits name an operation, or are 3
pub op_is : (code : ℕ) (r : Result Op UnknownOp) {o : Option Op} → code < 4 → o ≡ result_ok r → Decodes code r → op_code o ≡ code
op_is code (Ok op) l e h = rw e h
op_is code (Err x) l e h = rw e (omega (arith, h.1))

pub step_of : (w : ℕ) (s : List ℕ) (at : ℕ) (t : StepField) (p q : ℕ) (a b : Field Reference) → op_code t.op ≡ field_at s at 2 → RefIs w s p a → RefIs w s q b → p ≡ at + 2 → q ≡ at + 2 + ref_width w
    → t.left ≡ a.value → t.right ≡ b.value → StepIs w s at t
step_of w s at t p q a b o x y ep eq l r = record {
  op_is = o;
  left_kind_is = rw l (rw ep at x.kind_is);
  left_number_is = rw l (rw ep at x.number_is);
  right_kind_is = rw r (rw eq at y.kind_is);
  right_number_is = rw r (rw eq at y.number_is);
  left_number_lt = rw l x.number_lt;
  right_number_lt = rw r y.number_lt;
}

-- ---- a reference and a step, by kind and operation

pub operand_kind : (k : RefKind) → (k ≡ RefKind.Var) ⊎ (k ≡ RefKind.Step) → 2 ≤ kind_code k
operand_kind k e = ⊎_elim (λ e. rw e (omega arith)) (λ e. rw e (omega arith)) e

module _ (n m : ℕ) where
  -- a variable's or a step's reference is an operand where it is a result, and a constant never is
  pub says_operand : (k x : ℕ) {b : Bool} → 2 ≤ k → Says (RefOk n m k x) b → Says (OperandOk n m k x) b
  says_operand k x l s = says_iff (λ h. (l, h)) (λ h. h.1) s

  pub says_no_operand : (k : RefKind) (x : ℕ) → (k ≡ RefKind.Var → ⊥) → (k ≡ RefKind.Step → ⊥) → Says (OperandOk n m (kind_code k) x) false
  says_no_operand RefKind.Low x v t = nay (λ h. omega (arith, h.0))
  says_no_operand RefKind.High x v t = nay (λ h. omega (arith, h.0))
  says_no_operand RefKind.Var x v t = absurd (v refl)
  says_no_operand RefKind.Step x v t = absurd (t refl)

  pub step_first : (k ka xa kb xb : ℕ) → StepOk n m k ka xa kb xb → OperandOk n m ka xa
  unfolding StepOk
  step_first zero ka xa kb xb h = h.0
  step_first (suc zero) ka xa kb xb h = h.0
  step_first (suc (suc zero)) ka xa kb xb h = h.0
  step_first (suc (suc (suc k))) ka xa kb xb h = absurd h

  pub step_low : (k ka xa kb xb : ℕ) {b : Bool} → k < 2 → OperandOk n m ka xa → Says (OperandOk n m kb xb) b → Says (StepOk n m k ka xa kb xb) b
  unfolding StepOk
  step_low zero ka xa kb xb l a s = says_iff (λ h. (a, h)) (λ h. h.1) s
  step_low (suc zero) ka xa kb xb l a s = says_iff (λ h. (a, h)) (λ h. h.1) s
  step_low (suc (suc k)) ka xa kb xb l a s = absurd (omega arith)

  pub step_not : (ka xa kb xb : ℕ) {b : Bool} → OperandOk n m ka xa → Says ((kb ≡ 0) × (xb ≡ 0)) b → Says (StepOk n m 2 ka xa kb xb) b
  unfolding StepOk
  step_not ka xa kb xb a s = says_iff (λ h. (a, h.0, h.1)) (λ h. (h.1, h.2)) s

-- what was read is good exactly if what stands there is
module _ (w : ℕ) (s : List ℕ) (at n m : ℕ) where
  pub step_good : (t : StepField) → StepIs w s at t
      → (StepOk n m (op_code t.op) (kind_code t.left.kind) t.left.number (kind_code t.right.kind) t.right.number → StepGood w s n m at)
      × (StepGood w s n m at → StepOk n m (op_code t.op) (kind_code t.left.kind) t.left.number (kind_code t.right.kind) t.right.number)
  step_good t h =
      ((λ g. rw (h.op_is, h.left_kind_is, h.left_number_is, h.right_kind_is, h.right_number_is) at g), (λ g. rw (h.op_is, h.left_kind_is, h.left_number_is, h.right_kind_is, h.right_number_is) g))

  pub ref_good : (t : Field Reference) → RefIs w s at t
      → (RefOk n m (kind_code t.value.kind) t.value.number → RefGood w s n m at) × (RefGood w s n m at → RefOk n m (kind_code t.value.kind) t.value.number)
  ref_good t h = ((λ g. rw (h.kind_is, h.number_is) at g), (λ g. rw (h.kind_is, h.number_is) g))

-- what was read, as a reference and as a step
pub ref_from_lem : (w : ℕ) (s : List ℕ) (at : ℕ) (t : Field Reference) → RefIs w s at t → ref_at w s at ≡ ref_from (kind_code t.value.kind) t.value.number
unfolding ref_at
ref_from_lem w s at t h = rw (h.kind_is, h.number_is) refl

pub step_from_lem : (w : ℕ) (s : List ℕ) (at : ℕ) (t : StepField) → StepIs w s at t
    → step_at w s at ≡ step_from (op_code t.op) (ref_from (kind_code t.left.kind) t.left.number) (ref_from (kind_code t.right.kind) t.right.number)
unfolding step_at ref_at
step_from_lem w s at t h = rw (h.op_is, h.left_kind_is, h.left_number_is, h.right_kind_is, h.right_number_is) refl

-- the place of the next of fields that are W wide
pub next_place : (W a i : ℕ) → a + W * (i + 1) ≡ a + W * i + W
next_place W a i = rw (add-one, mul-suc) (omega arith)

pub first_place : (W a : ℕ) → a ≡ a + W * 0
first_place W a = rw mul-zero (omega arith)

-- ---- stand-ins met so far: `met` is true at each of the first i, and nowhere else
pub record Met (s : List ℕ) (i : ℕ) (met : List Bool) : Type 0 where
  pub size : length met ≡ 32
  pub marked : (j : ℕ) → j < i → get_or met (in_at s j) false ≡ true
  pub only : (x : ℕ) → get_or met x false ≡ true → (j : ℕ) × (j < i) × (in_at s j ≡ x)

pub unmarked : (n x : ℕ) → get_or (replicate n false) x false ≡ false
unmarked zero x = refl
unmarked (suc n) zero = refl
unmarked (suc n) (suc x) = unmarked n x

pub met_none : (s : List ℕ) → Met s 0 (replicate 32 false)
met_none s = record { size = refl; marked = λ j h. absurd (omega arith); only = λ x h. absurd (true≢false (sym h ∙ unmarked 32 x)) }

module _ (s : List ℕ) (f i x : ℕ) (met : List Bool) (h : Met s i met) (e : x ≡ in_at s i) where
  pub met_more : x < 32 → Met s (i + 1) (set met x true)
  met_more l = record {
    size = length-set met x true ∙ h.size;
    marked = λ j d. up_to_suc (λ j. get_or (set met x true) (in_at s j) false ≡ true) i (λ j d. old (in_at s j) (ℕ_discrete (in_at s j) x) (h.marked j d)) (rw (← e) (get_or-set_same met x true false (rw h.size l))) j (omega arith);
    only = λ y q. met_at y (ℕ_discrete y x) q;
  }
    where
      old : (y : ℕ) → Dec (y ≡ x) → get_or met y false ≡ true → get_or (set met x true) y false ≡ true
      old y (yes q) g = rw q (get_or-set_same met x true false (rw h.size l))
      old y (no q) g = get_or-set_other met x y true false q ∙ g

      met_at : (y : ℕ) → Dec (y ≡ x) → get_or (set met x true) y false ≡ true → (j : ℕ) × (j < i + 1) × (in_at s j ≡ y)
      met_at y (yes q) g = (i, omega arith, sym e ∙ sym q)
      met_at y (no q) g = let t = h.only y (sym (get_or-set_other met x y true false q) ∙ g) in (t.0, omega (arith, t.1), t.2)

  -- it is good if it exceeds the fragment's number and was not met, and only then
  pub in_good : f < x → get_or met x false ≡ false → InGood s f i
  in_good l z = record { above = rw (← e) l; fresh = λ j d q. true≢false (sym (rw (q ∙ sym e) at (h.marked j d)) ∙ z) }

  pub in_low : x ≤ f → InGood s f i → ⊥
  in_low l g = omega (arith, g.above, e)

  pub in_met : get_or met x false ≡ true → InGood s f i → ⊥
  in_met z g = let t = h.only x z in g.fresh t.0 t.1 (t.2 ∙ e)
