-- Memory that holds the numbers of the reply laid down is what `reply_write` asks for, and writes that reply.
use Prim.Native.Nat.{ℕ, zero, suc, ◌+◌, ◌-◌, ◌*◌, ◌≤◌, ◌<◌}
use native.Mathlib.Nat.{mul-suc, add-zero}
use native.Mathlib.Omega.{arith}
use mathlib.Core.Path.{◌≡◌, refl, sym, ◌∙◌}
use mathlib.Core.List.{List, [], ◌∷◌}
use lib.ListN.{length, get_or, take, drop, length-append, get_or-append}
use lib.Seq.{get_or-append-add, get_or-take, get_or-drop}
use Rattle.meaning.specs.Reply.{stand_ins, laid_run, laid_down}
use Rattle.writing.specs.inner.Promise.{LaidIn}
use Rattle.reply.proofs.Parts.{reply_same}
use Rattle.writing.proofs.Rows.{row_ins_lem, few_ins}
use Rattle.writing.proofs.Laid.{run_vector}
use Rattle.reply.proofs.Verdicts.{few_vars}
use Rattle.meaning.specs.Formula.{Ref, Step}
use Rattle.meaning.specs.Fragment.{Fragment, Sound, row_count, rows_of}
use Rattle.reply.specs.WellFormed.{vars, Result, Operands}
use Rattle.reply.specs.inner.Decode.{step_from}
use Rattle.writing.specs.inner.Codes.{code, step_numbers, numbers, ref_of, step_of, refs_at, steps_at, RefCode, StepCode, reply_in}
use Rattle.reply.proofs.Lists.{tab_is, tab_same}
use Rattle.writing.proofs.Codes.{code_ref, code_fine}
use Rattle.reply.proofs.Fields.{operand_result}

-- ---- a step's three numbers
three : (x : Step) → length (step_numbers x) ≡ 3
three (Step.and a b) = refl
three (Step.or a b) = refl
three (Step.not a) = refl

numbers_length : (s : List Step) → length (numbers s) ≡ 3 * length s
unfolding numbers
numbers_length [] = refl
numbers_length (x ∷ s) = rw (length-append, three x, numbers_length s, mul-suc) (omega arith)

numbers_at : (s : List Step) (i j : ℕ) → i < length s → j < 3 → get_or (numbers s) (3 * i + j) 0 ≡ get_or (step_numbers (get_or s i (Step.not Ref.low))) j 0
unfolding numbers
numbers_at [] i j h l = absurd (omega arith)
numbers_at (x ∷ s) zero j h l =
    let z : 3 * 0 + j ≡ j = omega arith in
    rw z (get_or-append (step_numbers x) (numbers s) 0 j (rw (three x) l))
numbers_at (x ∷ s) (suc i) j h l =
    let z : 3 * suc i + j ≡ length (step_numbers x) + (3 * i + j) = rw (three x, mul-suc) (omega arith) in
    rw z (get_or-append-add (step_numbers x) (numbers s) (3 * i + j) 0 ∙ numbers_at s i j (omega arith) l)

module _ (n m : ℕ) (hn : n ≤ 4096) (hm : m ≤ 4096) (work : List ℕ) where
  ref_held : (p : ℕ) (r : Ref) → Result n m r → get_or work p 0 ≡ code r → RefCode 12 (get_or work p 0) × (ref_of (get_or work p 0) ≡ r)
  ref_held p r h e = rw e (code_fine n m r hn hm h, code_ref n m r hn hm h)

  step_held : (p : ℕ) (x : Step) → Operands n m x → ((j : ℕ) → j < 3 → get_or work (p + j) 0 ≡ get_or (step_numbers x) j 0) → StepCode 12 work p × (step_of work p ≡ x)
  unfolding step_of step_from
  step_held p (Step.and a b) h e =
      let e0 : get_or work p 0 ≡ 0 = rw add-zero at (e 0 (omega arith)) in
      let l = ref_held (p + 1) a (operand_result n m a h.0) (e 1 (omega arith)) in
      let r = ref_held (p + 2) b (operand_result n m b h.1) (e 2 (omega arith)) in
      (record { op = omega arith; left = l.0; right = r.0; single = λ z. absurd (omega arith) }, rw (e0, l.1, r.1) refl)
  step_held p (Step.or a b) h e =
      let e0 : get_or work p 0 ≡ 1 = rw add-zero at (e 0 (omega arith)) in
      let l = ref_held (p + 1) a (operand_result n m a h.0) (e 1 (omega arith)) in
      let r = ref_held (p + 2) b (operand_result n m b h.1) (e 2 (omega arith)) in
      (record { op = omega arith; left = l.0; right = r.0; single = λ z. absurd (omega arith) }, rw (e0, l.1, r.1) refl)
  step_held p (Step.not a) h e =
      let e0 : get_or work p 0 ≡ 2 = rw add-zero at (e 0 (omega arith)) in
      let l = ref_held (p + 1) a (operand_result n m a h) (e 1 (omega arith)) in
      let r = ref_held (p + 2) Ref.low tt (e 2 (omega arith)) in
      (record { op = omega arith; left = l.0; right = r.0; single = λ z. e 2 (omega arith) }, rw (e0, l.1) refl)

-- ---- from the run of numbers to each
there : (at : ℕ) (work : List ℕ) (s : List Step) → take (3 * length s) (drop at work) ≡ numbers s → (i j : ℕ) → i < length s → j < 3
    → get_or work (at + 3 * i + j) 0 ≡ get_or (step_numbers (get_or s i (Step.not Ref.low))) j 0
there at work s e i j l y =
    let z : at + 3 * i + j ≡ at + (3 * i + j) = omega arith in
    rw (z, ← get_or-drop at work (3 * i + j) 0, ← get_or-take (3 * length s) (drop at work) (3 * i + j) 0 (omega arith), e) (numbers_at s i j l y)

vars_few : (f : ℕ) (F : Fragment) → Sound f F → (n : ℕ) → n ≤ 32 → vars n (length (stand_ins (rows_of F) (suc (rows_of F).last))) ≤ 4096
unfolding vars
vars_few f F sound n h =
    let e : suc (row_count F - 1) ≡ row_count F = omega (arith, sound.some_row) in
    let b = few_vars n (length (stand_ins (rows_of F) (row_count F))) h (few_ins f F sound) in
    rw e (omega arith)

-- ---- all of it
pub laid_in : LaidIn
unfolding laid_down reply_in refs_at steps_at
laid_in number f F sound es one few most work at v d h =
    let k = length (laid_run (rows_of F) es).st in
    let o = run_vector (rows_of F) es in
    let n = vars (length es) (length (stand_ins (rows_of F) (suc (rows_of F).last))) in
    let nv = vars_few f F sound (length es) few in
    let step_is : (i : ℕ) → i < k → StepCode 12 work (at + 3 * i) × (step_of work (at + 3 * i) ≡ get_or (laid_run (rows_of F) es).st i (Step.not Ref.low)) =
    λ i l. step_held n i nv (omega arith) work (at + 3 * i) (get_or (laid_run (rows_of F) es).st i (Step.not Ref.low)) (o.good i l) (λ j y. there at work (laid_run (rows_of F) es).st h.steps i j l y) in
    let v_read : (e : ℕ) → e < length es → RefCode 12 (get_or work (v + e) 0) × (ref_of (get_or work (v + e) 0) ≡ (laid_run (rows_of F) es).v e) =
    λ e l. ref_held n k nv most work (v + e) ((laid_run (rows_of F) es).v e) (o.v e l) (h.v_is e l) in
    let d_read : (e : ℕ) → e < length es → RefCode 12 (get_or work (d + e) 0) × (ref_of (get_or work (d + e) 0) ≡ (laid_run (rows_of F) es).d e) =
    λ e l. ref_held n k nv most work (d + e) ((laid_run (rows_of F) es).d e) (o.d e l) (h.d_is e l) in
    record {
      asked = record {
        steps_inside = h.steps_inside;
        v_inside = h.v_inside;
        d_inside = h.d_inside;
        steps_good = λ i l. (step_is i l).0;
        v_good = λ e l. (v_read e l).0;
        d_good = λ e l. (d_read e l).0;
      };
      reply =
          reply_same (reply_in number f (length es) F.rows work at k v d) (laid_down (rows_of F) es number f) refl refl refl (row_ins_lem F sound.some_row)
          (sym (tab_is (λ i. step_of work (at + 3 * i)) (Step.not Ref.low) (laid_run (rows_of F) es).st k refl (λ i l. sym (step_is i l).1)))
          (tab_same (length es) (λ e. ref_of (get_or work (v + e) 0)) (laid_run (rows_of F) es).v Ref.low (λ e l. (v_read e l).1))
          (tab_same (length es) (λ e. ref_of (get_or work (d + e) 0)) (laid_run (rows_of F) es).d Ref.low (λ e l. (d_read e l).1));
    }
