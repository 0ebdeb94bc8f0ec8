-- ALL ROWS in memory, as the run sweeps them; and what is left at the end.
use Prim.Native.Nat.{ℕ, zero, suc, ◌+◌, ◌*◌, ◌<◌, ◌≤◌}
use native.Mathlib.Omega.{arith}
use native.Mathlib.Nat.{add-zero}
use native.Mathlib.Decide.{ℕ_discrete, dec_lt}
use mathlib.Core.Path.{◌≡◌, refl, sym, ap, ◌∙◌, subst}
use mathlib.Core.Bool.{Bool, true, false, cond, false≢true}
use mathlib.Core.List.{List, []}
use lib.ListN.{length, get_or, replicate, get_or-replicate, length-replicate}
use borrow.Author.Tests.{ne_eqb}
use Rattle.std.specs.Prelude.{Result, Ok, Err}
use Rattle.std.specs.Result.{IsErr}
use Rattle.formula.specs.declared.TooMany.{TooMany}
use Rattle.meaning.specs.Bytes.{Bytes, label_is, text_is}
use Rattle.meaning.specs.Bound.{count}
use Rattle.meaning.specs.Entry.{Entry}
use Rattle.meaning.specs.Formula.{Ref, formula}
use Rattle.meaning.specs.Fragment.{Fragment, Rows, Sound, row_count, rows_of}
use Rattle.meaning.specs.Run.{Vectors, Delivered, Tables, upd, visit, push, row, deliver, sweep, run}
use Rattle.meaning.specs.Reply.{stand_ins, var_v, var_d, laid_run}
use Rattle.meaning.proofs.Numbers.{upd_same, upd_other}
use Rattle.question.specs.declared.List as L
use Rattle.question.specs.Listed.{Keeps, listed}
use Rattle.writing.specs.inner.Codes.{code, numbers}
use Rattle.formula.specs.inner.Made.{Laid, Within, Made}
use Rattle.formula.specs.inner.Flat as Flat
use Rattle.formula.specs.inner.Flat.{St, st, down_from, stands, row_f, deliver_f, sweep_f, push_f}
use Rattle.formula.proofs.Held as Held
use Rattle.formula.proofs.Held.{Sim, after, mapped}
use Rattle.formula.proofs.Grows.{deliver_over, down_over, across_over, lift_over, push_grows, row_grows, sweep_grows}
use Rattle.meaning.proofs.StepBound.{count_stand_ins}
use Rattle.fragment.proofs.Rules.{block, sound_parent}
use Rattle.question.proofs.Listed.{listed_length}
use Rattle.formula.proofs.Visits.{Visited, visit_sim, stand_held}
use Rattle.formula.proofs.Pushes.{Pushed, push_sim}

-- C and D of the rows before row k
record TabHeld (size n k : ℕ) (m : List ℕ) (S : Tables formula) : Type 0 where
  held : Held.Held size m S.st
  child : (r e : ℕ) → r < k → e < n → get_or m (size + r * n + e) 0 ≡ code (S.c r e)
  lower : (r e : ℕ) → r < k → e < n → get_or m (2 * size + r * n + e) 0 ≡ code (S.d r e)

module _ (l : L.List) (t : Bytes) (F : Fragment) (number : ℕ) (sound : Sound number F) (keeps : Keeps l t) where
  abbrev R : Rows
  R = rows_of F

  abbrev es : List (Entry Bytes)
  es = listed l t

  abbrev n : ℕ
  n = l.count

  abbrev size : ℕ
  size = row_count F * n

  -- V and D of row k
  row_sim : (k place : ℕ) (z : St) (S : Tables formula) → k < row_count F → place ≡ length (stand_ins R k) → z.steps ≡ length S.st → length S.st ≤ 4096 → TabHeld size n (suc k) z.mem S
      → Sim (row_f l t F size k place z).steps (row formula R es (var_v R es) (var_d R es) k S).st (Visited size (k * n) n z.mem (row_f l t F size k place z).mem (row formula R es (var_v R es) (var_d R es) k S))
  unfolding row_f row listed
  row_sim k place z S inside at counts most h = go (R.stands k)
    where
      fits : k * n + n ≤ size
      fits = block n inside

      o : Bool → Vectors formula
      o b = cond b (record { st = S.st; v = var_v R es k; d = var_d R es k }) (visit formula (λ w. label_is w (R.label k)) (λ w. text_is w (R.text k)) (S.c k) es 0 S.st (λ e. Ref.low) (S.d k))

      y : Bool → St
      y b = cond b (st (Flat.stand_f size (k * n) n (place * (2 * n)) z.mem) z.steps) (Flat.visit_f l t F size (k * n) k z)

      many : n ≡ length es
      many = sym (listed_length l t)

      first : (e : ℕ) → place * (2 * n) + e ≡ length (stand_ins R k) * (2 * length es) + e
      first e = (λ i. at i * (2 * many i) + e)

      second : (e : ℕ) → place * (2 * n) + (n + e) ≡ length (stand_ins R k) * (2 * length es) + (length es + e)
      second e = (λ i. at i * (2 * many i) + (many i + e))

      go : (b : Bool) → Sim (y b).steps (o b).st (Visited size (k * n) n z.mem (y b).mem (o b))
      go true =
          let a = stand_held size (k * n) n (place * (2 * n)) fits S.st n 0 (omega arith) z.mem h.held (λ e w. absurd (omega arith)) (λ e w. absurd (omega arith)) in
          Held.live counts most (record { held = a.held; v = λ e w. a.v e w ∙ ap (λ x. 8192 + x) (first e); d = λ e w. a.d e w ∙ ap (λ x. 8192 + x) (second e); same = a.same })
      go false = visit_sim t F k size (k * n) n fits l keeps refl (S.c k) n 0 (omega arith) z S.st (λ e. Ref.low) (S.d k) counts most
          (record { held = h.held; here = λ e w. absurd (omega arith); child = λ e w. h.child k e (omega arith) w; lower = λ e w. h.lower k e (omega arith) w })

  abbrev v : ℕ → ℕ → Ref
  v = var_v R es

  abbrev d : ℕ → ℕ → Ref
  d = var_d R es

  -- where a row's own numbers lie among all rows
  module _ (k p : ℕ) (inside : k < row_count F) (early : p < k) where
    above : p * n + n ≤ k * n
    above = block n early

    -- another row's numbers are not the parent's
    apart : (x r e e' : ℕ) → (r ≡ p → ⊥) → e < n → e' < n → x + r * n + e ≡ x + p * n + e' → ⊥
    apart x r e e' z a b q = elim (dec_lt r p) [ yes u ↦ omega (arith, block n u) | no u ↦ omega (arith, block n (later u)) ]
      where
        later : (r < p → ⊥) → p < r
        later u = omega arith

    -- the tables after the parent's C and D are put
    put_tables : (m m₁ m₂ : List ℕ) (S : Tables formula) (w : Vectors formula) (o : Delivered formula) → TabHeld size n (suc k) m S → Visited size (k * n) n m m₁ w → Pushed size (p * n) n m₁ m₂ o
        → TabHeld size n k m₂ (record { st = o.st; c = upd S.c p o.c; d = upd S.d p o.d })
    put_tables m m₁ m₂ S w o h a b = record { held = b.held; child = λ r e u x. one r e u x (ℕ_discrete r p); lower = λ r e u x. two r e u x (ℕ_discrete r p) }
      where
        within_rows : {r e : ℕ} → r < k → e < n → r * n + e < k * n
        within_rows u x = omega (arith, block n u)

        last : k * n + n ≤ size
        last = block n inside

        one : (r e : ℕ) → r < k → e < n → Dec (r ≡ p) → get_or m₂ (size + r * n + e) 0 ≡ code (upd S.c p o.c r e)
        one r e u x (yes z) = ap (λ q. get_or m₂ (size + q * n + e) 0) z ∙ b.c e x ∙ ap (λ f. code (f e)) (sym (ap (upd S.c p o.c) z ∙ upd_same S.c p o.c))
        one r e u x (no z) = b.rest (size + r * n + e) (omega (arith, last, within_rows u x)) (λ e' y q. apart size r e e' z x y q) (λ e' y q. omega (arith, last, within_rows u x))
            ∙ a.same (size + r * n + e) (omega arith) (omega (arith, last, within_rows u x)) ∙ h.child r e (omega arith) x ∙ ap (λ f. code (f e)) (sym (upd_other S.c p o.c r z))

        two : (r e : ℕ) → r < k → e < n → Dec (r ≡ p) → get_or m₂ (2 * size + r * n + e) 0 ≡ code (upd S.d p o.d r e)
        two r e u x (yes z) = ap (λ q. get_or m₂ (2 * size + q * n + e) 0) z ∙ b.d e x ∙ ap (λ f. code (f e)) (sym (ap (upd S.d p o.d) z ∙ upd_same S.d p o.d))
        two r e u x (no z) = b.rest (2 * size + r * n + e) (omega (arith, last, within_rows u x)) (λ e' y q. omega (arith, last, above, within_rows u x)) (λ e' y q. apart (2 * size) r e e' z x y q)
            ∙ a.same (2 * size + r * n + e) (omega arith) (omega (arith, last, within_rows u x)) ∙ h.lower r e (omega arith) x ∙ ap (λ f. code (f e)) (sym (upd_other S.d p o.d r z))

  -- row k + 1, and its part in its parent
  deliver_sim : (k place : ℕ) (z : St) (S : Tables formula) → suc k < row_count F → place ≡ length (stand_ins R (suc k)) → z.steps ≡ length S.st → length S.st ≤ 4096 → TabHeld size n (suc (suc k)) z.mem S
      → Sim (deliver_f l t F size (suc k) place z).steps (deliver formula R es v d (suc k) S).st (TabHeld size n (suc k) (deliver_f l t F size (suc k) place z).mem (deliver formula R es v d (suc k) S))
  unfolding deliver_f deliver
  deliver_sim k place z S inside at counts most h = simp (ne_eqb (suc k) 0 (λ e. omega arith)) (after (row_sim (suc k) place z S inside at counts most h) pushes (λ a. across_over (Flat.lift_f size (suc k * n) (up * n)) (λ i s h. lift_over size (suc k * n) (up * n) i s h) 0 n y a) (push_grows w.v w.d (length es) 0 w.st (S.c p) (S.d p)))
    where
      w : Vectors formula
      w = row formula R es v d (suc k) S

      y : St
      y = row_f l t F size (suc k) place z

      p : ℕ
      p = R.parent (suc k)

      up : ℕ
      up = get_or F.rows (suc k * 6) 0

      up_is : up ≡ p
      up_is = ap (λ i. get_or F.rows i 0) (sym (add-zero (suc k * 6)))

      early : p < suc k
      early = subst (λ q. q < suc k) up_is (sound_parent number F sound (suc k) inside (λ e. omega arith))

      o : Delivered formula
      o = push formula w.v w.d n 0 w.st (S.c p) (S.d p)

      pushes : y.steps ≡ length w.st → length w.st ≤ 4096 → Visited size (suc k * n) n z.mem y.mem w
          → Sim (push_f size (suc k * n) (up * n) n y).steps (push formula w.v w.d (length es) 0 w.st (S.c p) (S.d p)).st
          (TabHeld size n (suc k) (push_f size (suc k * n) (up * n) n y).mem (record { st = (push formula w.v w.d (length es) 0 w.st (S.c p) (S.d p)).st; c = upd S.c p (push formula w.v w.d (length es) 0 w.st (S.c p) (S.d p)).c; d = upd S.d p (push formula w.v w.d (length es) 0 w.st (S.c p) (S.d p)).d }))
      pushes a b x = rw (up_is, listed_length l t) (mapped (put_tables (suc k) p inside early z.mem y.mem _ S w o h x)
          (push_sim size (suc k * n) (p * n) n (above (suc k) p inside early) (block n inside) w.v w.d y w.st (S.c p) (S.d p) a b x.held x.v x.d
          (λ e u. x.same (size + p * n + e) (omega arith) (omega (arith, block n inside, above (suc k) p inside early)) ∙ h.child p e (omega (arith, early)) u)
          (λ e u. x.same (2 * size + p * n + e) (omega arith) (omega (arith, above (suc k) p inside early)) ∙ h.lower p e (omega (arith, early)) u)))

  abbrev f : ℕ → St → St
  f j = deliver_f l t F size j (count (stands F.rows) j)

  -- rows k, .. 0
  sweep_sim : (k : ℕ) (z : St) (S : Tables formula) → k < row_count F → z.steps ≡ length S.st → length S.st ≤ 4096 → TabHeld size n (suc k) z.mem S
      → Sim (down_from f (suc k) z).steps (row formula R es v d 0 (sweep formula R es v d k S)).st (Laid size n (row formula R es v d 0 (sweep formula R es v d k S)) (down_from f (suc k) z).mem)
  unfolding down_from sweep deliver_f
  sweep_sim zero z S inside counts most h = mapped laid (row_sim 0 (count (stands F.rows) 0) z S inside (count_stand_ins R 0) counts most h)
    where
      o : Vectors formula
      o = row formula R es v d 0 S

      laid : {m : List ℕ} → Visited size (0 * n) n z.mem m o → Laid size n o m
      laid {m} x = record { steps = x.held.steps; v = λ e u. ap (λ i. get_or m i 0) (first e) ∙ x.v e u; d = λ e u. ap (λ i. get_or m i 0) (second e) ∙ x.d e u }
        where
          first : (e : ℕ) → e ≡ 0 * n + e
          first e = omega arith

          second : (e : ℕ) → 2 * size + e ≡ 2 * size + 0 * n + e
          second e = omega arith
  sweep_sim (suc k) z S inside counts most h =
      after (deliver_sim k (count (stands F.rows) (suc k)) z S inside (count_stand_ins R (suc k)) counts most h)
      (λ a b x. sweep_sim k (f (suc k) z) (deliver formula R es v d (suc k) S) (omega arith) a b x)
      (λ a. down_over f (λ i s h. deliver_over l t F size i (count (stands F.rows) i) s h) (suc k) (f (suc k) z) a)
      (both k (deliver formula R es v d (suc k) S))
    where
      both : (k : ℕ) (S : Tables formula) → length S.st ≤ length (row formula R es v d 0 (sweep formula R es v d k S)).st
      both k S = omega (arith, sweep_grows R es v d k S, row_grows R es v d 0 (sweep formula R es v d k S))

  -- THE END, from a memory that is all zero
  abbrev end : List ℕ → St
  end m = sweep_f l t F size (row_count F) (st m 0)

  pub end_by : (m : List ℕ) {cells : ℕ} → cells ≡ size → sweep_f l t F cells (row_count F) (st m 0) ≡ end m
  end_by m e = ap (λ n. sweep_f l t F n (row_count F) (st m 0)) e

  ended : (m : List ℕ) (k : ℕ) → 4 * size + 12288 ≤ length m → m ≡ replicate k 0 → Sim (end m).steps (laid_run R es).st (Laid size n (laid_run R es) (end m).mem)
  unfolding run numbers
  ended m k room zeros = subst (λ k. Sim (down_from f k (st m 0)).steps (laid_run R es).st (Laid size n (laid_run R es) (down_from f k (st m 0)).mem)) rows
      (sweep_sim R.last (st m 0) S₀ (omega (arith, rows)) refl (omega arith) start)
    where
      rows : suc R.last ≡ row_count F
      rows = omega (arith, sound.some_row)

      S₀ : Tables formula
      S₀ = record { st = []; c = λ r e. Ref.low; d = λ r e. Ref.low }

      zero_at : (i : ℕ) → i < 4 * size → get_or m i 0 ≡ 0
      zero_at i h = ap (λ l. get_or l i 0) zeros ∙ get_or-replicate k i 0 0 (omega (arith, ap length zeros, length-replicate {A = ℕ} k 0))

      inside : {r e : ℕ} → r < suc R.last → e < n → r * n + e < size
      inside {r} {e} h k = omega (arith, block n {k = r} {r = row_count F} (omega (arith, rows)))

      start : TabHeld size n (suc R.last) m S₀
      start = record {
        held = record { room = room; steps = refl };
        child = λ r e h k. zero_at (size + r * n + e) (omega (arith, inside h k));
        lower = λ r e h k. zero_at (2 * size + r * n + e) (omega (arith, inside h k));
      }

  -- what is left, in the memory w that holds the end
  pub made : (m : List ℕ) (k : ℕ) (w : List ℕ) (z : St) {steps : ℕ} → 4 * size + 12288 ≤ length m → m ≡ replicate k 0 → z ≡ end m → z.steps ≤ 4096 → w ≡ z.mem → steps ≡ z.steps → Within size n (laid_run R es) w steps
  made m k w z room zeros e few p q = rw (p, q) (subst (λ x. x.steps ≤ 4096 → Within size n (laid_run R es) x.mem x.steps) (sym e) (go (ended m k room zeros)) few)
    where
      go : {c : ℕ} {m : List ℕ} → Sim c (laid_run R es).st (Laid size n (laid_run R es) m) → c ≤ 4096 → Within size n (laid_run R es) m c
      go (Held.live a b x) h = record { few = b; count = a; laid = x }
      go (Held.over a b) h = absurd (omega arith)

  pub too_many : (m : List ℕ) (k : ℕ) (w : List ℕ) (r : Result ℕ TooMany) {P : Type 0} → 4 * size + 12288 ≤ length m → m ≡ replicate k 0 → (end m).steps ≡ 4097 → IsErr r × P → Made size n (laid_run R es) w r
  too_many m k w (Ok u) room zeros e p = absurd (false≢true p.0)
  too_many m k w (Err u) room zeros e p = go (ended m k room zeros) e
    where
      go : {c : ℕ} {P : Type 0} → Sim c (laid_run R es).st P → c ≡ 4097 → 4096 < length (laid_run R es).st
      go (Held.live a b x) h = absurd (omega arith)
      go (Held.over a b) h = b
