-- The bits that a depot's codes write, and the stand-ins row by row.
use Prim.Native.Nat.{ℕ, zero, suc, ◌+◌, ◌-◌, ◌*◌, ◌/◌, ◌%◌, ◌≤◌, ◌<◌}
use native.Mathlib.Nat.{zero-add, add-zero, suc-add, le_refl}
use native.Mathlib.Numerals.{add-one}
use native.Mathlib.Omega.{arith}
use mathlib.Core.Path.{◌≡◌, refl, sym, ap, ◌∙◌, subst}
use mathlib.Core.Bool.{Bool, true, false, cond}
use mathlib.Core.List.{List, [], ◌∷◌, ◌++◌, append-nil}
use lib.ListN.{length, get_or, length-append}
use lib.Dec.{eqb}
use borrow.Author.Tests.{eq-eqb, ne_eqb}
use mir.Val.{bool_byte}
use Rattle.bits.specs.Bits.{digits}
use Rattle.meaning.specs.Says.{Says, aye, nay}
use Rattle.meaning.specs.Formula.{Ref}
use Rattle.meaning.specs.Fragment.{num, row_count, rows_of}
use Rattle.meaning.specs.Reply.{stand_ins}
use Rattle.reply.specs.Write.{ref_bits, step_bits, each}
use Rattle.reply.specs.inner.Decode.{ref_from, step_from}
use Rattle.reply.specs.WellFormed.{Result}
use Rattle.writing.specs.inner.Promise.{CodeRef}
use Rattle.writing.specs.inner.Codes.{code, ref_of, step_of, refs_at, steps_at, RefCode, StepCode, bare, row_in, row_ins}
use Rattle.writing.proofs.Chunks.{Chunk}
use Rattle.reply.proofs.Lists.{each_none, each_more}

-- ---- a reference's code, and a step's
kinds : (w k x : ℕ) → k < 4 → (k < 2 → x ≡ 0) → digits 2 k ++ digits w x ≡ ref_bits w (ref_from k x)
unfolding ref_bits ref_from
kinds w zero x h z = rw (z (omega arith)) refl
kinds w (suc zero) x h z = rw (z (omega arith)) refl
kinds w (suc (suc zero)) x h z = refl
kinds w (suc (suc (suc zero))) x h z = refl
kinds w (suc (suc (suc (suc k)))) x h z = absurd (omega arith)

pub ref_code : (w c : ℕ) → RefCode w c → digits 2 (c / 4096) ++ digits w (c % 4096) ≡ ref_bits w (ref_of c)
unfolding ref_of
ref_code w c h = kinds w (c / 4096) (c % 4096) h.kind (λ l. h.plain (omega arith))

ops : (w op : ℕ) (a b : Ref) → op < 3 → (op ≡ 2 → b ≡ Ref.low) → digits 2 op ++ (ref_bits w a ++ ref_bits w b) ≡ step_bits w (step_from op a b)
unfolding step_bits step_from ref_bits
ops w zero a b h z = refl
ops w (suc zero) a b h z = refl
ops w (suc (suc zero)) a b h z = rw (z refl) refl
ops w (suc (suc (suc k))) a b h z = absurd (omega arith)

code_none : ref_of 0 ≡ Ref.low
unfolding ref_of ref_from
code_none = refl

pub step_code : (w op left right : ℕ) → op < 3 → (op ≡ 2 → right ≡ 0) → digits 2 op ++ (ref_bits w (ref_of left) ++ ref_bits w (ref_of right)) ≡ step_bits w (step_from op (ref_of left) (ref_of right))
step_code w op left right h z = ops w op (ref_of left) (ref_of right) h (λ e. ap ref_of (z e) ∙ code_none)

-- ---- the code of a reference
code_at : (k x : ℕ) → x < 4096 → ref_of (k * 4096 + x) ≡ ref_from k x
unfolding ref_of
code_at k x h =
    let q : (k * 4096 + x) / 4096 ≡ k = omega arith in
    let m : (k * 4096 + x) % 4096 ≡ x = omega arith in
    rw (q, m) refl

pub code_ref : CodeRef
unfolding ref_from
code_ref n m Ref.low hn hm h = code_at 0 0 (omega arith)
code_ref n m Ref.high hn hm h = code_at 1 0 (omega arith)
code_ref n m (Ref.var x) hn hm h = code_at 2 x (omega arith)
code_ref n m (Ref.step i) hn hm h = code_at 3 i (omega arith)

pub code_fine : (n m : ℕ) (r : Ref) → n ≤ 4096 → m ≤ 4096 → Result n m r → RefCode 12 (code r)
code_fine n m Ref.low hn hm h = record { kind = omega arith; plain = λ l. refl; fits = omega arith }
code_fine n m Ref.high hn hm h = record { kind = omega arith; plain = λ l. refl; fits = omega arith }
code_fine n m (Ref.var x) hn hm h = record { kind = omega arith; plain = λ l. omega arith; fits = omega arith }
code_fine n m (Ref.step i) hn hm h = record { kind = omega arith; plain = λ l. omega arith; fits = omega arith }

-- ---- a loop over codes: one turn
module _ (w : ℕ) (work : List ℕ) (from : ℕ) where
  pub refs_none : each (ref_bits w) (refs_at work from 0) ≡ []
  unfolding refs_at
  refs_none = each_none (ref_bits w) (λ e. ref_of (get_or work (from + e) 0))

  pub refs_more : (e : ℕ) → each (ref_bits w) (refs_at work from (e + 1)) ≡ each (ref_bits w) (refs_at work from e) ++ ref_bits w (ref_of (get_or work (from + e) 0))
  unfolding refs_at
  refs_more e = rw add-one (each_more (ref_bits w) (λ e. ref_of (get_or work (from + e) 0)) e)

  pub steps_none : each (step_bits w) (steps_at work from 0) ≡ []
  unfolding steps_at
  steps_none = each_none (step_bits w) (λ i. step_of work (from + 3 * i))

  pub steps_more : (i : ℕ) → each (step_bits w) (steps_at work from (i + 1))
      ≡ each (step_bits w) (steps_at work from i) ++ step_bits w (step_from (get_or work (from + 3 * i) 0) (ref_of (get_or work (from + 3 * i + 1) 0)) (ref_of (get_or work (from + 3 * i + 2) 0)))
  unfolding steps_at step_of
  steps_more i = rw add-one (each_more (step_bits w) (λ i. step_of work (from + 3 * i)) i)

-- the k-th step as its chunk has it
pub step_here : (w k : ℕ) (work chunk more : List ℕ) → Chunk 3 k work chunk more
    → each (step_bits w) (steps_at work 0 (k + 1)) ≡ each (step_bits w) (steps_at work 0 k) ++ step_bits w (step_of chunk 0)
unfolding step_of
step_here w k work chunk more q = let first : 0 + 3 * k ≡ k * 3 = omega arith in steps_more w work 0 k ∙ rw (q.at 0 (omega arith), q.at 1 (omega arith), q.at 2 (omega arith), add-zero, first) refl

pub code_here : (w k : ℕ) (work chunk more : List ℕ) → Chunk 3 k work chunk more → StepCode w work (k * 3) → StepCode w chunk 0
code_here w k work chunk more q h =
    let op : get_or chunk 0 0 ≡ get_or work (k * 3) 0 = rw add-zero at (q.at 0 (omega arith)) in
    let left = q.at 1 (omega arith) in
    let right = q.at 2 (omega arith) in
    record { op = rw op h.op; left = rw left h.left; right = rw right h.right; single = rw (op, right) h.single }

-- ---- the stand-ins of rows
pub row_other : (kind x : ℕ) → (kind ≡ 1 → ⊥) → row_in kind x ≡ []
unfolding row_in
row_other kind x h = rw (ne_eqb kind 1 h) refl

pub row_one : (kind x : ℕ) → kind ≡ 1 → row_in kind x ≡ x ∷ []
unfolding row_in
row_one kind x e = rw (eq-eqb kind 1 e) refl

pub rows_none : each (digits 5) [] ≡ []
unfolding each
rows_none = refl

pub rows_one : (x : ℕ) → each (digits 5) (x ∷ []) ≡ digits 5 x
unfolding each
rows_one x = append-nil (digits 5 x)

module _ (rows : List ℕ) where
  -- those of the first k rows
  abbrev pub first_ins : ℕ → List ℕ
  first_ins k = stand_ins (rows_of (bare rows)) k

  abbrev pub row_at : ℕ → List ℕ
  row_at k = row_in (num (bare rows) k 1) (num (bare rows) k 2)

  pub ins_none : first_ins 0 ≡ []
  unfolding stand_ins
  ins_none = refl

  ins_suc : (k : ℕ) → first_ins (suc k) ≡ first_ins k ++ row_at k
  unfolding stand_ins row_in
  ins_suc k = go (eqb (num (bare rows) k 1) 1)
    where
      go : (b : Bool) → cond b (first_ins k ++ (num (bare rows) k 2 ∷ [])) (first_ins k) ≡ first_ins k ++ cond b (num (bare rows) k 2 ∷ []) []
      go true = refl
      go false = sym (append-nil (first_ins k))

  pub ins_more : (k : ℕ) → first_ins (k + 1) ≡ first_ins k ++ row_at k
  ins_more k = rw add-one (ins_suc k)

  pub ins_longer : (k : ℕ) → length (first_ins (k + 1)) ≡ length (first_ins k) + length (row_at k)
  ins_longer k = rw (ins_more k) (length-append (first_ins k) (row_at k))

  ins_rise : (m k : ℕ) → length (first_ins k) ≤ length (first_ins (m + k))
  ins_rise zero k = rw zero-add (le_refl (length (first_ins k)))
  ins_rise (suc m) k = rw (suc-add, ins_suc (m + k), length-append) (omega (arith, ins_rise m k))

  pub ins_room : (k : ℕ) → k < row_count (bare rows) → length (first_ins k) + length (row_at k) ≤ length (row_ins rows)
  unfolding row_ins
  ins_room k h =
      let n = row_count (bare rows) in
      let e : n - (k + 1) + (k + 1) ≡ n = omega arith in
      rw (← ins_longer k) (subst (λ z. length (first_ins (k + 1)) ≤ length (first_ins z)) e (ins_rise (n - (k + 1)) (k + 1)))

  pub ins_all : first_ins (row_count (bare rows)) ≡ row_ins rows
  unfolding row_ins
  ins_all = refl

-- as many as the test of its kind says
pub row_long : (kind x : ℕ) {b : Bool} → Says (kind ≡ 1) b → bool_byte b ≡ length (row_in kind x)
row_long kind x (aye e) = rw (row_one kind x e) refl
row_long kind x (nay n) = rw (row_other kind x n) refl
