-- THE ANSWER, by the way that the code took.
use Prim.Native.Nat.{ℕ, ◌+◌, ◌*◌, ◌/◌, ◌<◌, ◌≤◌}
use native.Mathlib.Omega.{arith}
use native.Mathlib.Nat.{zero-add, mul-le-mul_right}
use mathlib.Core.Path.{◌≡◌, refl, sym, ap, ◌∙◌, subst}
use mathlib.Core.Bool.{cond, false≢true}
use mathlib.Core.List.{List}
use lib.ListN.{length, replicate}
use lib.Dec.{eqb}
use Rattle.std.specs.Prelude.{Result, Ok, Err}
use Rattle.std.specs.Result.{IsErr, IsErrAnd}
use Rattle.meaning.specs.Bytes.{Bytes}
use Rattle.meaning.specs.Formula.{formula}
use Rattle.meaning.specs.Fragment.{Fragment, Sound, row_count, rows_of}
use Rattle.meaning.specs.Reply.{laid_run, laid_down}
use Rattle.meaning.specs.Run.{Vectors}
use Rattle.question.specs.declared.List as L
use Rattle.question.specs.Listed.{Keeps, listed}
use Rattle.writing.specs.inner.Codes.{FormulaIn, FrontIn, HeldIn, cut, row_ins, reply_in, reply_held, Written}
use Rattle.reply.specs.inner.Decode as Read
use Rattle.reply.proofs.Lists.{tab_length}
use Rattle.reply.proofs.Round.{size_is}
use Rattle.meaning.specs.Refused.{Unless, refused, passed, Granted, granted}
use Rattle.depot.specs.declared.Refusal as R
use Rattle.depot.specs.declared.Refusal.TheVariants.{TooManySteps, ShortReply}
use Rattle.depot.specs.inner.Worked.{Fit, Early, Worked}
use Rattle.depot.specs.Number.{number_of, refusal_number, size_of}
use Rattle.depot.specs.Answer.{Call, laid, bytes, memory_after, Refusal, Answered}
use Rattle.formula.specs.inner.Made.{Laid, Within}
use Rattle.writing.specs.inner.Promise.{LaidReply, CutReply}
use Rattle.writing.proofs.Rows.{row_ins_lem, front_in}
use Rattle.writing.proofs.LaidIn.{laid_in}
use Rattle.writing.proofs.Cut.{cut_held}
use Rattle.question.proofs.Listed.{listed_length}

module _ (c : Call) {room : ℕ} (fit : Fit c room) where
  abbrev l : L.List
  l = c.list

  abbrev t : Bytes
  t = c.text

  abbrev F : Fragment
  F = c.fragment

  abbrev keeps : Keeps l t
  keeps = fit.asks.0

  abbrev sound : Sound c.part F
  sound = fit.sound

  abbrev o : Vectors formula
  o = laid_run (rows_of F) (listed l t)

  abbrev size : ℕ
  size = row_count F * l.count

  few_ins : length (row_ins F.rows) < 32
  few_ins = (front_in c.part F sound l.count 0 (omega (arith, keeps.some_entry)) keeps.most (omega arith)).few_ins

  -- the memory that the formula leaves is what writing asks for, and holds the reply laid down
  kept : {m : List ℕ} → 4 * size + 12288 ≤ length m → length o.st ≤ 4096 → Laid size l.count o m
      → FormulaIn 12 m (4 * size) (length o.st) 0 (2 * size) l.count × (reply_in c.number c.part l.count F.rows m (4 * size) (length o.st) 0 (2 * size) ≡ laid c)
  kept {m} h few laid_in_m = subst (λ n. FormulaIn 12 m (4 * size) (length o.st) 0 (2 * size) n × (reply_in c.number c.part n F.rows m (4 * size) (length o.st) 0 (2 * size) ≡ laid c)) count (r.asked, r.reply)
    where
      count : length (listed l t) ≡ l.count
      count = listed_length l t

      cells : 1 * l.count ≤ size
      cells = mul-le-mul_right l.count sound.some_row

      r : LaidReply c.number c.part F (listed l t) m (4 * size) (length o.st) 0 (2 * size)
      r = laid_in c.number c.part F sound (listed l t) (omega (arith, count, keeps.some_entry)) (omega (arith, count, keeps.most)) few m (4 * size) 0 (2 * size) (record {
        steps = laid_in_m.steps;
        v_is = λ e a. rw zero-add (laid_in_m.v e (omega (arith, count)));
        d_is = λ e a. laid_in_m.d e (omega (arith, count));
        steps_inside = omega arith;
        v_inside = omega (arith, count, cells);
        d_inside = omega (arith, count, cells);
      })

  -- the same of steps, V and D cut from it
  cuts : {m : List ℕ} {k : ℕ} → 4 * size + 12288 ≤ length m → Within size l.count o m k → CutReply 12 c.number c.part l.count F.rows m (4 * size) k 0 (2 * size)
  cuts {m} {k} h w = cut_held 12 c.number c.part l.count F.rows m (4 * size) k 0 (2 * size) (subst (λ k. FormulaIn 12 m (4 * size) k 0 (2 * size) l.count) (sym w.count) (kept h w.few w.laid).0)

  bytes_length : length (bytes c) ≡ Read.size 12 (length (row_ins F.rows)) (length o.st) l.count
  unfolding laid_down
  bytes_length = size_is 12 (laid c) (tab_length _ _ _) (tab_length _ _ _) ∙ (λ i. Read.size 12 (length (ins i)) (length o.st) (listed_length l t i))
    where
      ins : (laid c).ins ≡ row_ins F.rows
      ins = sym (row_ins_lem F sound.some_row)

  -- the size that is asked for is the reply's
  need_is : {m : List ℕ} {k ins need : ℕ} → Within size l.count o m k → ins ≡ length (row_ins F.rows) → need ≡ Read.size 12 ins k l.count → need ≡ length (bytes c)
  need_is w e q = q ∙ (λ i. Read.size 12 (e i) (w.count i) l.count) ∙ sym bytes_length

  module _ (out : List ℕ) where
    pub late_over : (r : Result ℕ R.Refusal) → IsErr r × IsErrAnd r (λ e. e ≡ TooManySteps) → 4096 < length o.st → Worked c out r out
    unfolding laid_down
    late_over (Ok n) e h = absurd (false≢true e.0)
    late_over (Err r) e h = rw (is_err_is r e.1) (record { late = refused (λ k. omega (arith, k)); size_is = refl; buffer = refl })
      where
        is_err_is : (r : R.Refusal) → IsErrAnd {T = ℕ} (Err r) (λ e. e ≡ TooManySteps) → r ≡ TooManySteps
        is_err_is r h = h

    pub late_short : {m : List ℕ} {k ins need : ℕ} → Within size l.count o m k → ins ≡ length (row_ins F.rows) → need ≡ Read.size 12 ins k l.count → length out < need → Worked c out (Err ShortReply) out
    unfolding laid_down
    late_short w e q k = record { late = passed w.few (refused (λ u. omega (arith, need_is w e q, k))); size_is = refl; buffer = refl }

    pub late_done : {n k ins need : ℕ} {m out' : List ℕ} → 4 * size + 12288 ≤ length m → Within size l.count o m k → ins ≡ length (row_ins F.rows) → need ≡ Read.size 12 ins k l.count → need ≤ length out
        → Written 12 (reply_held c.number c.part F.rows (cut m (4 * size) (3 * k)) (cut m 0 l.count) (cut m (2 * size) l.count)) out out' n → Worked c out (Ok n) out'
    unfolding laid_down
    late_done {n} {k} {m = m} {out'} h w e p q x = record { late = passed w.few (passed (omega (arith, need_is w e p, q)) granted); size_is = y.size_is; buffer = y.bytes }
      where
        y : Written 12 (laid c) out out' n
        y = subst (λ r. Written 12 r out out' n) ((cuts h w).reply ∙ ap (λ k. reply_in c.number c.part l.count F.rows m (4 * size) k 0 (2 * size)) w.count ∙ (kept h w.few w.laid).1) x

  -- what writing asks
  pub size_asks : {m : List ℕ} {k ins : ℕ} → Within size l.count o m k → ins ≡ length (row_ins F.rows) → (12 ≤ 14) × (l.count ≤ 32) × (ins < 32) × (k ≤ 4096)
  size_asks w e = (omega arith, keeps.most, omega (arith, e, few_ins), omega (arith, w.few, w.count))

  pub write_asks : {m : List ℕ} {k ins need most : ℕ} → 4 * size + 12288 ≤ length m → Within size l.count o m k → ins ≡ length (row_ins F.rows) → need ≡ Read.size 12 ins k l.count → need ≤ most
      → (12 ≤ 14) × FrontIn c.part (length (cut m 0 l.count)) (length (cut m (4 * size) (3 * k)) / 3) F.rows × HeldIn 12 (cut m (4 * size) (3 * k)) (cut m 0 l.count) (cut m (2 * size) l.count)
      × (Read.size 12 (length (row_ins F.rows)) (length (cut m (4 * size) (3 * k)) / 3) (length (cut m 0 l.count)) ≤ most)
  write_asks {m} {k} {most = most} h w e q fits = (
    omega arith,
    rw ((cuts h w).long, (cuts h w).count) (subst (λ k. FrontIn c.part l.count k F.rows) (sym w.count) (front_in c.part F sound l.count (length o.st) (omega (arith, keeps.some_entry)) keeps.most w.few)),
    (cuts h w).held,
    rw ((cuts h w).long, (cuts h w).count) (subst (λ x. Read.size 12 x k l.count ≤ most) e (subst (λ x. x ≤ most) q fits)),
  )

-- after 8 and 9, and on success, work memory is all zero
pub late_memory : {A B : Type 0} {r : ℕ} (work : List ℕ) → Unless A 8 (Unless B 9 Granted) r → memory_after r work ≡ replicate (length work) 0
late_memory work (refused h) = refl
late_memory work (passed a (refused h)) = refl
late_memory work (passed a (passed b granted)) = refl

-- 5, 6 and 7
early_late : (c : Call) (work out : List ℕ) (n : ℕ) → Early c (length work) n → Refusal c work out n
early_late c work out n (refused a) = refused a
early_late c work out n (passed a (refused b)) = passed a (refused b)
early_late c work out n (passed a (passed b (refused d))) = passed a (passed b (refused d))
early_late c work out n (passed a (passed b (passed d h))) = absurd h

early_memory : (c : Call) (work : List ℕ) (n : ℕ) → Early c (length work) n → work ≡ memory_after n work
early_memory c work n (refused a) = refl
early_memory c work n (passed a (refused b)) = refl
early_memory c work n (passed a (passed b (refused d))) = refl
early_memory c work n (passed a (passed b (passed d h))) = absurd h

early_some : (c : Call) (room n : ℕ) (x y : List ℕ) → Early c room n → y ≡ cond (eqb n 0) x y
early_some c room n x y (refused a) = refl
early_some c room n x y (passed a (refused b)) = refl
early_some c room n x y (passed a (passed b (refused d))) = refl
early_some c room n x y (passed a (passed b (passed d h))) = absurd h

early_none : (c : Call) (room n x : ℕ) → Early c room n → 0 ≡ cond (eqb n 0) x 0
early_none c room n x (refused a) = refl
early_none c room n x (passed a (refused b)) = refl
early_none c room n x (passed a (passed b (refused d))) = refl
early_none c room n x (passed a (passed b (passed d h))) = absurd h

pub answered_early : (c : Call) (work out : List ℕ) (r : Result ℕ R.Refusal) (e : R.Refusal) → IsErr r × IsErrAnd r (λ x. x ≡ e) → Early c (length work) (number_of e)
    → Answered c work out (refusal_number r) (size_of r) work out
answered_early c work out (Ok n) e p h = absurd (false≢true p.0)
answered_early c work out (Err x) e p h = rw (same x p.1) (record { refusal = early_late c work out _ h; size_is = early_none c _ _ _ h; memory = early_memory c work _ h; buffer = early_some c _ _ _ _ h })
  where
    same : (x : R.Refusal) → IsErrAnd {T = ℕ} (Err x) (λ x. x ≡ e) → x ≡ e
    same x h = h

pub answered_late : (c : Call) (work out : List ℕ) (r : Result ℕ R.Refusal) (m : List ℕ) {work' out' : List ℕ} → Fit c (length work) → Worked c out r out' → length m ≡ length work → work' ≡ replicate (length m) 0
    → Answered c work out (refusal_number r) (size_of r) work' out'
answered_late c work out r m f w e z = record {
  refusal = passed f.asks (passed f.sound (passed f.enough w.late));
  size_is = w.size_is;
  memory = z ∙ ap (λ n. replicate n 0) e ∙ sym (late_memory work w.late);
  buffer = w.buffer;
}
