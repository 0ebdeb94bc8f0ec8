-- The reply laid down for a sound fragment is well formed, where it has at most 4,096 steps.
use Prim.Native.Nat.{ℕ, zero, suc, ◌+◌, ◌-◌, ◌*◌, ◌^◌, ◌≤◌, ◌<◌}
use native.Mathlib.Nat.{mul-le-mul_left, mul-suc, mul_comm, le_trans}
use native.Mathlib.Decide.{ℕ_discrete}
use native.Mathlib.Omega.{arith}
use mathlib.Core.Path.{◌≡◌, refl, sym, subst}
use mathlib.Core.Bool.{Bool, true, false, cond}
use mathlib.Core.Option.{none}
use mathlib.Core.List.{List, [], ◌∷◌, ◌++◌}
use lib.ListN.{length, get_or, length-append, get_or-append}
use lib.Seq.{get_or_at}
use Rattle.meaning.specs.Bytes.{Bytes, label_is, text_is}
use Rattle.meaning.specs.Entry.{Entry}
use Rattle.meaning.specs.Formula.{Ref, Step, added, constant, negated, formula}
use Rattle.meaning.specs.Fragment.{Fragment, Sound, Rows, row_count, rows_of}
use Rattle.meaning.specs.Reply.{stand_ins, var_v, var_d, laid_run, laid_down}
use Rattle.meaning.proofs.Formula.{step_of, join, joins}
use Rattle.meaning.proofs.Reply.{position}
use Rattle.meaning.specs.Run.{upd, literal, Vectors, Delivered, Tables, value_of, visit, push, row, deliver, sweep, run}
use Rattle.meaning.proofs.Numbers.{upd_same, upd_other}
use Rattle.reply.specs.WellFormed.{vars, Result, Operand, Operands, WellFormed}
use Rattle.reply.proofs.Lists.{up_to_suc, tab_length, tab_at}
use Rattle.writing.proofs.Rows.{few_ins, ins_fit, ins_differ}

-- of n variables: every step's operands are fine, and a reference is
module _ (n : ℕ) where
  abbrev Good : List Step → Type 0
  Good s = (i : ℕ) → i < length s → Operands n i (get_or s i (Step.not Ref.low))

  abbrev Fine : List Step → Ref → Type 0
  Fine s r = Result n (length s) r

  fine_more : (s t : List Step) (r : Ref) → length s ≤ length t → Fine s r → Fine t r
  fine_more s t Ref.low l h = tt
  fine_more s t Ref.high l h = tt
  fine_more s t (Ref.var x) l h = h
  fine_more s t (Ref.step i) l h = omega arith

  -- the steps made of s, and a reference to them
  pub record Made (s : List Step) (o : List Step × Ref) : Type 0 where
    pub good : Good o.0
    pub fine : Fine o.0 o.1
    pub grows : length s ≤ length o.0

  made_none : (s : List Step) (r : Ref) → Good s → Fine s r → Made s (s, r)
  made_none s r g h = record { good = g; fine = h; grows = omega arith }

  made_added : (s : List Step) (x : Step) → Good s → Operands n (length s) x → Made s (added s x)
  made_added s x g h = record {
    good = λ i l.
        up_to_suc (λ i. Operands n i (get_or (s ++ (x ∷ [])) i (Step.not Ref.low))) (length s) (λ i l. rw (get_or-append s (x ∷ []) (Step.not Ref.low) i l) (g i l))
        (rw (get_or_at s x [] (Step.not Ref.low) (length s) refl) h) i (omega (arith, length-append s (x ∷ [])));
    fine = rw length-append (omega arith);
    grows = rw length-append (omega arith);
  }

  operand_of : (m : ℕ) (r : Ref) → constant r ≡ none → Result n m r → Operand n m r
  operand_of m Ref.low e h = let z : ◌≡◌ {A = ℕ} 0 1 = cc in omega arith
  operand_of m Ref.high e h = let z : ◌≡◌ {A = ℕ} 0 1 = cc in omega arith
  operand_of m (Ref.var x) e h = h
  operand_of m (Ref.step i) e h = h

  operands_of : (z : Bool) (m : ℕ) (a b : Ref) → Operand n m a → Operand n m b → Operands n m (step_of z a b)
  operands_of true m a b x y = (x, y)
  operands_of false m a b x y = (x, y)

  made_join : (z : Bool) (s : List Step) (a b : Ref) → Good s → Fine s a → Fine s b → Made s (join z s a b)
  made_join z s a b g x y =
      joins s a b (Made s) z (λ e. made_none s a g x) (λ e. made_none s b g y) (λ e. made_none s b g y) (λ e. made_none s a g x)
      (λ e f. made_added s (step_of z a b) g (operands_of z (length s) a b (operand_of (length s) a e x) (operand_of (length s) b f y)))

  made_not : (s : List Step) (a : Ref) → Good s → Fine s a → Made s (negated s a)
  made_not s Ref.low g h = made_none s Ref.high g tt
  made_not s Ref.high g h = made_none s Ref.low g tt
  made_not s (Ref.var x) g h = made_added s (Step.not (Ref.var x)) g h
  made_not s (Ref.step i) g h = made_added s (Step.not (Ref.step i)) g h

  -- ---- a row
  abbrev All : List Step → (ℕ → Ref) → Type 0
  All s f = (e : ℕ) → Fine s (f e)

  all_more : (s t : List Step) (f : ℕ → Ref) → length s ≤ length t → All s f → All t f
  all_more s t f l h e = fine_more s t (f e) l (h e)

  all_upd : (s : List Step) (f : ℕ → Ref) (i : ℕ) (r : Ref) → All s f → Fine s r → All s (upd f i r)
  all_upd s f i r h x e = go (ℕ_discrete e i)
    where
      go : Dec (e ≡ i) → Fine s (upd f i r e)
      go (yes p) = subst (λ j. Fine s (upd f i r j)) (sym p) (rw upd_same x)
      go (no p) = rw (upd_other f i r e p) (h e)

  literal_fine : (s : List Step) (b : Bool) → Fine s (literal formula b)
  literal_fine s true = tt
  literal_fine s false = tt

  value_made : (lab txt : Bytes → Bool) (x : Entry Bytes) (s : List Step) (v c d : ℕ → Ref) → Good s → All s v → All s c → All s d → Made s (value_of formula lab txt x s v c d)
  value_made lab txt Entry.self s v c d g hv hc hd = made_none s Ref.high g tt
  value_made lab txt (Entry.label w) s v c d g hv hc hd = made_none s _ g (literal_fine s (lab w))
  value_made lab txt (Entry.text w) s v c d g hv hc hd = made_none s _ g (literal_fine s (txt w))
  value_made lab txt (Entry.child q) s v c d g hv hc hd = made_none s (c q) g (hc q)
  value_made lab txt (Entry.at p q) s v c d g hv hc hd = made_join false s (v p) (v q) g (hv p) (hv q)
  value_made lab txt (Entry.lower q) s v c d g hv hc hd = made_none s (d q) g (hd q)
  value_made lab txt (Entry.or p q) s v c d g hv hc hd = made_join true s (v p) (v q) g (hv p) (hv q)
  value_made lab txt (Entry.and p q) s v c d g hv hc hd = made_join false s (v p) (v q) g (hv p) (hv q)
  value_made lab txt (Entry.not q) s v c d g hv hc hd = made_not s (v q) g (hv q)

  -- the two vectors made of the steps s, fine up to entry m
  pub record Vector (m : ℕ) (s : List Step) (o : Vectors formula) : Type 0 where
    pub good : Good o.st
    pub v : (e : ℕ) → e < m → Fine o.st (o.v e)
    pub d : (e : ℕ) → e < m → Fine o.st (o.d e)
    pub grows : length s ≤ length o.st

  pub record Whole (s : List Step) (o : Vectors formula) : Type 0 where
    pub good : Good o.st
    pub v : All o.st o.v
    pub d : All o.st o.d
    pub grows : length s ≤ length o.st

  pub record Raised (s : List Step) (o : Delivered formula) : Type 0 where
    pub good : Good o.st
    pub c : All o.st o.c
    pub d : All o.st o.d
    pub grows : length s ≤ length o.st

  visit_whole : (lab txt : Bytes → Bool) (c : ℕ → Ref) (l : List (Entry Bytes)) (i : ℕ) (s : List Step) (v d : ℕ → Ref) → Good s → All s c → All s v → All s d
      → Whole s (visit formula lab txt c l i s v d)
  unfolding visit
  visit_whole lab txt c [] i s v d g hc hv hd = record { good = g; v = hv; d = hd; grows = omega arith }
  visit_whole lab txt c (x ∷ l) i s v d g hc hv hd =
      let a = value_made lab txt x s v c d g hv hc hd in
      let r = value_of formula lab txt x s v c d in
      let b = made_join true r.0 r.1 (d i) a.good a.fine (fine_more s r.0 (d i) a.grows (hd i)) in
      let t = join true r.0 r.1 (d i) in
      let st : length s ≤ length t.0 = le_trans a.grows b.grows in
      let w = visit_whole lab txt c l (suc i) t.0 (upd v i r.1) (upd d i t.1) b.good (all_more s t.0 c st hc)
      (all_upd t.0 v i r.1 (all_more s t.0 v st hv) (fine_more r.0 t.0 r.1 b.grows a.fine))
      (all_upd t.0 d i t.1 (all_more s t.0 d st hd) b.fine) in
      record { good = w.good; v = w.v; d = w.d; grows = le_trans st w.grows }

  push_whole : (v d : ℕ → Ref) (m i : ℕ) (s : List Step) (pc pd : ℕ → Ref) → Good s → ((e : ℕ) → i ≤ e → e < m + i → Fine s (v e) × Fine s (d e)) → All s pc → All s pd
      → Raised s (push formula v d m i s pc pd)
  unfolding push
  push_whole v d zero i s pc pd g h hc hd = record { good = g; c = hc; d = hd; grows = omega arith }
  push_whole v d (suc m) i s pc pd g h hc hd =
      let here = h i (omega arith) (omega arith) in
      let a = made_join true s (pc i) (v i) g (hc i) here.0 in
      let r = join true s (pc i) (v i) in
      let b = made_join true r.0 (pd i) (d i) a.good (fine_more s r.0 (pd i) a.grows (hd i)) (fine_more s r.0 (d i) a.grows here.1) in
      let t = join true r.0 (pd i) (d i) in
      let st : length s ≤ length t.0 = le_trans a.grows b.grows in
      let w = push_whole v d m (suc i) t.0 (upd pc i r.1) (upd pd i t.1) b.good
      (λ e x y. let f = h e (omega arith) (omega arith) in (fine_more s t.0 (v e) st f.0, fine_more s t.0 (d e) st f.1))
      (all_upd t.0 pc i r.1 (all_more s t.0 pc st hc) (fine_more r.0 t.0 r.1 b.grows a.fine))
      (all_upd t.0 pd i t.1 (all_more s t.0 pd st hd) b.fine) in
      record { good = w.good; c = w.c; d = w.d; grows = le_trans st w.grows }

-- ---- all rows
var_lt : (l t n e : ℕ) → l < t → e < 2 * n → l * (2 * n) + e < vars n t
unfolding vars
var_lt l t n e h x = rw (mul_comm l (2 * n)) (omega (arith, mul-suc (2 * n) l, mul-le-mul_left (2 * n) h))

module _ (R : Rows) (es : List (Entry Bytes)) where
  abbrev N : ℕ
  N = length es

  abbrev n : ℕ
  n = vars (length es) (length (stand_ins R (suc R.last)))

  record Tabled (S : Tables formula) : Type 0 where
    good : Good n S.st
    c : (k : ℕ) → All n S.st (S.c k)
    d : (k : ℕ) → All n S.st (S.d k)

  row_vector : (k : ℕ) (S : Tables formula) → k ≤ R.last → Tabled S → Vector n N S.st (row formula R es (var_v R es) (var_d R es) k S)
  unfolding row
  row_vector k S l h = go (R.stands k) refl
    where
      w : Whole n S.st (visit formula (λ x. label_is x (R.label k)) (λ x. text_is x (R.text k)) (S.c k) es 0 S.st (λ e. Ref.low) (S.d k))
      w = visit_whole n _ _ (S.c k) es 0 S.st (λ e. Ref.low) (S.d k) h.good (h.c k) (λ e. tt) (h.d k)

      go : (b : Bool) → R.stands k ≡ b
          → Vector n N S.st (cond b (record { st = S.st; v = var_v R es k; d = var_d R es k }) (visit formula (λ x. label_is x (R.label k)) (λ x. text_is x (R.text k)) (S.c k) es 0 S.st (λ e. Ref.low) (S.d k)))
      go true e =
          let p = position R k (suc R.last) (omega arith) e in
          record {
            good = h.good;
            v = λ x y. var_lt (length (stand_ins R k)) (length (stand_ins R (suc R.last))) N x p.early (omega arith);
            d = λ x y. var_lt (length (stand_ins R k)) (length (stand_ins R (suc R.last))) N (N + x) p.early (omega arith);
            grows = omega arith;
          }
      go false e = record { good = w.good; v = λ x y. w.v x; d = λ x y. w.d x; grows = w.grows }

  deliver_tabled : (k : ℕ) (S : Tables formula) → k ≤ R.last → Tabled S → Tabled (deliver formula R es (var_v R es) (var_d R es) k S)
  unfolding deliver
  deliver_tabled k S l h = record { good = w.good; c = λ j. put S.c o.c j (h.c j) w.c; d = λ j. put S.d o.d j (h.d j) w.d }
    where
      r : Vectors formula
      r = row formula R es (var_v R es) (var_d R es) k S

      p : ℕ
      p = R.parent k

      v : Vector n N S.st r
      v = row_vector k S l h

      o : Delivered formula
      o = push formula r.v r.d N 0 r.st (S.c p) (S.d p)

      w : Raised n r.st o
      w = push_whole n r.v r.d N 0 r.st (S.c p) (S.d p) v.good (λ e x y. (v.v e (omega arith), v.d e (omega arith))) (all_more n S.st r.st (S.c p) v.grows (h.c p)) (all_more n S.st r.st (S.d p) v.grows (h.d p))

      put : (f : ℕ → ℕ → Ref) (g : ℕ → Ref) (j : ℕ) → All n S.st (f j) → All n o.st g → All n o.st (upd f p g j)
      put f g j x y = go (ℕ_discrete j p)
        where
          go : Dec (j ≡ p) → All n o.st (upd f p g j)
          go (yes e) = subst (λ i. All n o.st (upd f p g i)) (sym e) (subst (All n o.st) (sym (upd_same f p g)) y)
          go (no e) = subst (All n o.st) (sym (upd_other f p g j e)) (all_more n S.st o.st (f j) (le_trans v.grows w.grows) x)

  sweep_tabled : (k : ℕ) (S : Tables formula) → k ≤ R.last → Tabled S → Tabled (sweep formula R es (var_v R es) (var_d R es) k S)
  unfolding sweep
  sweep_tabled zero S l h = h
  sweep_tabled (suc k) S l h = sweep_tabled k (deliver formula R es (var_v R es) (var_d R es) (suc k) S) (omega arith) (deliver_tabled (suc k) S l h)

  pub run_vector : Vector n N [] (laid_run R es)
  unfolding run
  run_vector =
      let t = sweep_tabled R.last (record { st = []; c = λ r e. Ref.low; d = λ r e. Ref.low }) (omega arith) (record { good = λ i l. absurd (omega arith); c = λ k e. tt; d = λ k e. tt }) in
      let v = row_vector 0 (sweep formula R es (var_v R es) (var_d R es) R.last (record { st = []; c = λ r e. Ref.low; d = λ r e. Ref.low })) (omega arith) t in
      record { good = v.good; v = v.v; d = v.d; grows = omega arith }

pub laid_formed : (number f : ℕ) (F : Fragment) → Sound f F → (es : List (Entry Bytes)) → 0 < length es → length es ≤ 32 → 0 < number → number < 2 ^ 32
    → length (laid_down (rows_of F) es number f).steps ≤ 4096 → WellFormed (laid_down (rows_of F) es number f)
unfolding laid_down
laid_formed number f F sound es one few asked fits steps =
    let e : suc (row_count F - 1) ≡ row_count F = omega (arith, sound.some_row) in
    let v = run_vector (rows_of F) es in
    record {
      asked = asked;
      number_fits = fits;
      fragment_fits = omega (arith, sound.number_most);
      some_entry = one;
      few_entries = few;
      v_all = tab_length (length es) 0 _;
      d_all = tab_length (length es) 0 _;
      few_ins = rw e (few_ins f F sound);
      ins_fit = rw e (ins_fit f F sound);
      ins_differ = rw e (ins_differ f F sound);
      few_steps = steps;
      operands = v.good;
      v_good = λ i l. rw (tab_at (length es) i (laid_run (rows_of F) es).v Ref.low l) (v.v i l);
      d_good = λ i l. rw (tab_at (length es) i (laid_run (rows_of F) es).d Ref.low l) (v.d i l);
    }
