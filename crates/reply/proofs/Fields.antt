-- A reference and a step at a place: what is read is what was written, and what is written is what is read.
use Prim.Native.Nat.{ℕ, zero, suc, ◌+◌, ◌*◌, ◌^◌, ◌≤◌, ◌<◌}
use native.Mathlib.Omega.{arith}
use mathlib.Core.Path.{◌≡◌, refl}
use mathlib.Core.Bool.{Bool}
use mathlib.Core.List.{List, ◌++◌}
use lib.ListN.{length, length-append}
use lib.Pow.{pow_pos}
use Rattle.bits.specs.Bits.{digits}
use Rattle.bits.specs.Fields.{field_at}
use Rattle.bits.specs.inner.Stand.{BitsStand}
use Rattle.bits.proofs.Digits.{digits_length}
use Rattle.bits.proofs.Laws.{field_stand, stand_field, stand_append, stand_split}
use Rattle.meaning.specs.Formula.{Ref, Step}
use Rattle.reply.specs.Write.{ref_bits, step_bits}
use Rattle.reply.specs.WellFormed.{Result, Operand, Operands}
use Rattle.reply.specs.inner.Decode.{ref_from, step_from, ref_width, step_width, ref_at, step_at}
use Rattle.reply.specs.inner.Checked.{RefOk, OperandOk, StepOk, RefGood, StepGood}

-- ---- a reference

pub ref_length : (w : ℕ) (r : Ref) → length (ref_bits w r) ≡ ref_width w
unfolding ref_bits
ref_length w Ref.low = rw (length-append, digits_length, digits_length) refl
ref_length w Ref.high = rw (length-append, digits_length, digits_length) refl
ref_length w (Ref.var x) = rw (length-append, digits_length, digits_length) refl
ref_length w (Ref.step x) = rw (length-append, digits_length, digits_length) refl

ref_ok : (w n m k x : ℕ) → RefOk n m k x → (ref_bits w (ref_from k x) ≡ digits 2 k ++ digits w x) × Result n m (ref_from k x)
unfolding ref_bits ref_from RefOk
ref_ok w n m zero x h = (rw h refl, tt)
ref_ok w n m (suc zero) x h = (rw h refl, tt)
ref_ok w n m (suc (suc zero)) x h = (refl, h)
ref_ok w n m (suc (suc (suc zero))) x h = (refl, h)
ref_ok w n m (suc (suc (suc (suc k)))) x h = absurd h

operand_of : (n m k x : ℕ) → 2 ≤ k → Result n m (ref_from k x) → Operand n m (ref_from k x)
unfolding ref_from
operand_of n m zero x l h = absurd (omega arith)
operand_of n m (suc zero) x l h = absurd (omega arith)
operand_of n m (suc (suc zero)) x l h = h
operand_of n m (suc (suc (suc k))) x l h = h

pub operand_result : (n m : ℕ) (r : Ref) → Operand n m r → Result n m r
operand_result n m Ref.low h = tt
operand_result n m Ref.high h = tt
operand_result n m (Ref.var x) h = h
operand_result n m (Ref.step x) h = h

codes : (w c x : ℕ) (s : List ℕ) (p q : ℕ) → c < 4 → x < 2 ^ w → BitsStand s p q (digits 2 c ++ digits w x) → (field_at s p 2 ≡ c) × (field_at s (p + 2) w ≡ x)
codes w c x s p q hc hx h =
    let k = stand_split (p + 2) (digits 2 c) (digits w x) (rw digits_length refl) h in
    (stand_field 2 c hc k.0, stand_field w x hx k.1)

-- what is read is what was written
module _ (w n m : ℕ) (s : List ℕ) (p q : ℕ) (hn : n ≤ 2 ^ w) (hm : m ≤ 2 ^ w) where
  pub ref_out : (r : Ref) → BitsStand s p q (ref_bits w r) → Result n m r → RefGood w s n m p × (ref_at w s p ≡ r)
  unfolding ref_bits RefOk ref_at ref_from
  ref_out Ref.low h g = let e = codes w 0 0 s p q (omega arith) (pow_pos w) h in (rw (e.0, e.1) refl, rw e.0 refl)
  ref_out Ref.high h g = let e = codes w 1 0 s p q (omega arith) (pow_pos w) h in (rw (e.0, e.1) refl, rw e.0 refl)
  ref_out (Ref.var x) h g = let e = codes w 2 x s p q (omega arith) (omega arith) h in (rw (e.0, e.1) g, rw (e.0, e.1) refl)
  ref_out (Ref.step x) h g = let e = codes w 3 x s p q (omega arith) (omega arith) h in (rw (e.0, e.1) g, rw (e.0, e.1) refl)

  operand_kind : (r : Ref) → BitsStand s p q (ref_bits w r) → Operand n m r → 2 ≤ field_at s p 2
  unfolding ref_bits
  operand_kind Ref.low h g = absurd g
  operand_kind Ref.high h g = absurd g
  operand_kind (Ref.var x) h g = let e = codes w 2 x s p q (omega arith) (omega arith) h in omega (arith, e.0)
  operand_kind (Ref.step x) h g = let e = codes w 3 x s p q (omega arith) (omega arith) h in omega (arith, e.0)

  operand_out : (r : Ref) → BitsStand s p q (ref_bits w r) → Operand n m r → OperandOk n m (field_at s p 2) (field_at s (p + 2) w) × (ref_at w s p ≡ r)
  operand_out r h g = let o = ref_out r h (operand_result n m r g) in ((operand_kind r h g, o.0), o.1)

two_fields : (w : ℕ) (s : List ℕ) (p : ℕ) → p + ref_width w ≤ 8 * length s → BitsStand s p (p + ref_width w) (digits 2 (field_at s p 2) ++ digits w (field_at s (p + 2) w))
two_fields w s p h =
    let e : p + ref_width w ≡ p + 2 + w = omega arith in
    rw e (stand_append (field_stand s p 2 (omega arith)) (field_stand s (p + 2) w (omega arith)))

-- what is written is what is read
pub ref_in : (w n m : ℕ) (s : List ℕ) (p : ℕ) → p + ref_width w ≤ 8 * length s → RefGood w s n m p
    → BitsStand s p (p + ref_width w) (ref_bits w (ref_at w s p)) × Result n m (ref_at w s p)
unfolding ref_at
ref_in w n m s p h g =
    let o = ref_ok w n m (field_at s p 2) (field_at s (p + 2) w) g in
    (rw o.0 (two_fields w s p h), o.1)

-- ---- a step

pub step_length : (w : ℕ) (t : Step) → length (step_bits w t) ≡ step_width w
unfolding step_bits
step_length w (Step.and a b) = simp (length-append, digits_length, ref_length)
step_length w (Step.or a b) = simp (length-append, digits_length, ref_length)
step_length w (Step.not a) = simp (length-append, digits_length, ref_length)

module _ (w n m ka xa kb xb : ℕ) where
  step_ok : (k : ℕ) → StepOk n m k ka xa kb xb
      → (step_bits w (step_from k (ref_from ka xa) (ref_from kb xb)) ≡ digits 2 k ++ ((digits 2 ka ++ digits w xa) ++ (digits 2 kb ++ digits w xb)))
      × Operands n m (step_from k (ref_from ka xa) (ref_from kb xb))
  unfolding step_bits step_from StepOk
  step_ok zero h =
      let a = ref_ok w n m ka xa h.0.1 in
      let b = ref_ok w n m kb xb h.1.1 in
      (rw (a.0, b.0) refl, (operand_of n m ka xa h.0.0 a.1, operand_of n m kb xb h.1.0 b.1))
  step_ok (suc zero) h =
      let a = ref_ok w n m ka xa h.0.1 in
      let b = ref_ok w n m kb xb h.1.1 in
      (rw (a.0, b.0) refl, (operand_of n m ka xa h.0.0 a.1, operand_of n m kb xb h.1.0 b.1))
  step_ok (suc (suc zero)) h =
      let a = ref_ok w n m ka xa h.0.1 in
      (rw (a.0, h.1, h.2) refl, operand_of n m ka xa h.0.0 a.1)
  step_ok (suc (suc (suc k))) h = absurd h

pub step_in : (w n m : ℕ) (s : List ℕ) (p : ℕ) → p + step_width w ≤ 8 * length s → StepGood w s n m p
    → BitsStand s p (p + step_width w) (step_bits w (step_at w s p)) × Operands n m (step_at w s p)
unfolding step_at ref_at
step_in w n m s p h g =
    let o = step_ok w n m (field_at s (p + 2) 2) (field_at s (p + 2 + 2) w) (field_at s (p + 2 + ref_width w) 2) (field_at s (p + 2 + ref_width w + 2) w) (field_at s p 2) g in
    let e : p + step_width w ≡ p + 2 + ref_width w + ref_width w = omega arith in
    (rw (o.0, e) (stand_append (field_stand s p 2 (omega arith)) (stand_append (two_fields w s (p + 2) (omega arith)) (two_fields w s (p + 2 + ref_width w) (omega arith)))), o.1)

module _ (w n m : ℕ) (s : List ℕ) (p q : ℕ) (hn : n ≤ 2 ^ w) (hm : m ≤ 2 ^ w) where
  -- a step's bits, in three parts
  three : (c : ℕ) (a : Ref) (l : List Bool) → c < 4 → BitsStand s p q (digits 2 c ++ (ref_bits w a ++ l))
      → (field_at s p 2 ≡ c) × BitsStand s (p + 2) (p + 2 + ref_width w) (ref_bits w a) × BitsStand s (p + 2 + ref_width w) q l
  three c a l hc h =
      let k = stand_split (p + 2) (digits 2 c) (ref_bits w a ++ l) (rw digits_length refl) h in
      let j = stand_split (p + 2 + ref_width w) (ref_bits w a) l (rw ref_length refl) k.1 in
      (stand_field 2 c hc k.0, j.0, j.1)

  pub step_out : (t : Step) → BitsStand s p q (step_bits w t) → Operands n m t → StepGood w s n m p × (step_at w s p ≡ t)
  unfolding step_bits StepOk step_at step_from
  step_out (Step.and a b) h g =
      let k = three 0 a (ref_bits w b) (omega arith) h in
      let x = operand_out w n m s (p + 2) (p + 2 + ref_width w) hn hm a k.1 g.0 in
      let y = operand_out w n m s (p + 2 + ref_width w) q hn hm b k.2 g.1 in
      (rw k.0 (x.0, y.0), rw (k.0, x.1, y.1) refl)
  step_out (Step.or a b) h g =
      let k = three 1 a (ref_bits w b) (omega arith) h in
      let x = operand_out w n m s (p + 2) (p + 2 + ref_width w) hn hm a k.1 g.0 in
      let y = operand_out w n m s (p + 2 + ref_width w) q hn hm b k.2 g.1 in
      (rw k.0 (x.0, y.0), rw (k.0, x.1, y.1) refl)
  step_out (Step.not a) h g =
      let k = three 2 a (digits 2 0 ++ digits w 0) (omega arith) h in
      let x = operand_out w n m s (p + 2) (p + 2 + ref_width w) hn hm a k.1 g in
      let y = codes w 0 0 s (p + 2 + ref_width w) q (omega arith) (pow_pos w) k.2 in
      (rw k.0 (x.0, y.0, y.1), rw (k.0, x.1) refl)
