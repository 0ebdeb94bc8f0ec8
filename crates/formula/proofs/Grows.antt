-- STEPS ONLY GROW: on the flat memory the mark stays, and in the run the list gets no shorter.
use Prim.Native.Nat.{ℕ, zero, suc, ◌+◌, ◌-◌, ◌*◌, ◌≤◌}
use native.Mathlib.Omega.{arith}
use native.Mathlib.Nat.{le_refl}
use mathlib.Core.Path.{◌≡◌}
use mathlib.Core.Bool.{Bool, true, false, cond}
use mathlib.Core.List.{List, [], ◌∷◌}
use lib.ListN.{length, length-append}
use lib.Dec.{eqb}
use borrow.Author.Tests.{le-ltb}
use Rattle.meaning.specs.Bytes.{Bytes, label_is, text_is}
use Rattle.meaning.specs.Entry.{Entry}
use Rattle.meaning.specs.Formula.{Ref, Step, negated, formula}
use Rattle.meaning.proofs.Formula.{join, joins}
use Rattle.meaning.specs.Fragment.{Fragment, Rows}
use Rattle.meaning.specs.Run.{Vectors, Tables, upd, value_of, visit, push, row, deliver, sweep}
use Rattle.question.specs.declared.List as L
use Rattle.question.specs.Listed.{Place}
use Rattle.formula.specs.inner.Flat.{St, Got, across, down_from, add_f, join_f, not_f, value_f, enter_f, entry_f, row_f, or_into, lift_f, deliver_f, stands}

-- THE MARK STAYS
both : {A : Type 0} (P : A → Type 0) (b : Bool) {x y : A} → P x → P y → P (cond b x y)
both P true h k = h
both P false h k = k

abbrev Marked : Got → Type 0
Marked g = g.steps ≡ 4097

abbrev Stays : St → Type 0
Stays s = s.steps ≡ 4097

module _ (size : ℕ) where
  add_over : (op a b : ℕ) (m : List ℕ) (n : ℕ) → n ≡ 4097 → (add_f size op a b m n).steps ≡ 4097
  unfolding add_f
  add_over op a b m n e = simp (le-ltb n 4096 (omega arith))

  pub join_over : (op a b : ℕ) (m : List ℕ) (n : ℕ) → n ≡ 4097 → (join_f size op a b m n).steps ≡ 4097
  unfolding join_f
  join_over op a b m n e = both Marked (eqb a (op * 4096)) e (both Marked (eqb a (4096 - op * 4096)) e (both Marked (eqb b (op * 4096)) e (both Marked (eqb b (4096 - op * 4096)) e (add_over op a b m n e))))

  not_over : (a : ℕ) (m : List ℕ) (n : ℕ) → n ≡ 4097 → (not_f size a m n).steps ≡ 4097
  unfolding not_f
  not_over a m n e = both Marked (eqb a 0) e (both Marked (eqb a 4096) e (add_over 2 a 0 m n e))

  value_over : (at : ℕ) (x : Entry Place) (t : ℕ) (m : List ℕ) (n : ℕ) → n ≡ 4097 → (value_f size at x t m n).steps ≡ 4097
  value_over at Entry.self t m n e = e
  value_over at (Entry.label w) t m n e = e
  value_over at (Entry.text w) t m n e = e
  value_over at (Entry.child i) t m n e = e
  value_over at (Entry.at i j) t m n e = join_over 0 _ _ m n e
  value_over at (Entry.lower i) t m n e = e
  value_over at (Entry.or i j) t m n e = join_over 1 _ _ m n e
  value_over at (Entry.and i j) t m n e = join_over 0 _ _ m n e
  value_over at (Entry.not i) t m n e = not_over _ m n e

  pub enter_over : (at e : ℕ) (x : Entry Place) (t : ℕ) (s : St) → s.steps ≡ 4097 → (enter_f size at e x t s).steps ≡ 4097
  unfolding enter_f
  enter_over at e x t s h = join_over 1 _ _ _ _ (value_over at x t s.mem s.steps h)

  pub or_over : (i j : ℕ) (s : St) → s.steps ≡ 4097 → (or_into size i j s).steps ≡ 4097
  unfolding or_into
  or_over i j s h = join_over 1 _ _ _ _ h

  pub lift_over : (at up e : ℕ) (s : St) → s.steps ≡ 4097 → (lift_f size at up e s).steps ≡ 4097
  unfolding lift_f
  lift_over at up e s h = or_over _ _ (or_into size (size + up + e) (at + e) s) (or_over _ _ s h)

pub across_over : (f : ℕ → St → St) → ((i : ℕ) (s : St) → s.steps ≡ 4097 → (f i s).steps ≡ 4097) → (i n : ℕ) (s : St) → s.steps ≡ 4097 → (across f i n s).steps ≡ 4097
unfolding across
across_over f g i zero s h = h
across_over f g i (suc n) s h = across_over f g (suc i) n (f i s) (g i s h)

pub down_over : (f : ℕ → St → St) → ((i : ℕ) (s : St) → s.steps ≡ 4097 → (f i s).steps ≡ 4097) → (k : ℕ) (s : St) → s.steps ≡ 4097 → (down_from f k s).steps ≡ 4097
unfolding down_from
down_over f g zero s h = h
down_over f g (suc k) s h = down_over f g k (f k s) (g k s h)

module _ (l : L.List) (t : Bytes) (F : Fragment) (size : ℕ) where
  pub entry_over : (at k e : ℕ) (s : St) → s.steps ≡ 4097 → (entry_f l t F size at k e s).steps ≡ 4097
  unfolding entry_f
  entry_over at k e s h = enter_over size at e _ _ s h

  pub row_over : (k place : ℕ) (s : St) → s.steps ≡ 4097 → (row_f l t F size k place s).steps ≡ 4097
  unfolding row_f
  row_over k place s h = both Stays (stands F.rows k) h (across_over (entry_f l t F size (k * l.count) k) (λ i s h. entry_over (k * l.count) k i s h) 0 l.count s h)

  pub deliver_stops : (k place : ℕ) (s : St) → (row_f l t F size k place s).steps ≡ 4097 → (deliver_f l t F size k place s).steps ≡ 4097
  unfolding deliver_f
  deliver_stops k place s h = both Stays (eqb k 0) h (across_over (lift_f size _ _) (λ i s h. lift_over size _ _ i s h) 0 l.count _ h)

  pub deliver_over : (k place : ℕ) (s : St) → s.steps ≡ 4097 → (deliver_f l t F size k place s).steps ≡ 4097
  deliver_over k place s h = deliver_stops k place s (row_over k place s h)

-- THE LIST GETS NO SHORTER
pub join_grows : (z : Bool) (s : List Step) (a b : Ref) → length s ≤ length (join z s a b).0
join_grows z s a b = joins s a b (λ o. length s ≤ length o.0) z (λ e. le_refl _) (λ e. le_refl _) (λ e. le_refl _) (λ e. le_refl _) (λ e f. rw length-append (omega arith))

pub negated_grows : (s : List Step) (a : Ref) → length s ≤ length (negated s a).0
negated_grows s Ref.low = le_refl _
negated_grows s Ref.high = le_refl _
negated_grows s (Ref.var x) = rw length-append (omega arith)
negated_grows s (Ref.step i) = rw length-append (omega arith)

module _ (lab txt : Bytes → Bool) where
  pub value_grows : (e : Entry Bytes) (s : List Step) (v c d : ℕ → Ref) → length s ≤ length (value_of formula lab txt e s v c d).0
  value_grows Entry.self s v c d = le_refl _
  value_grows (Entry.label w) s v c d = le_refl _
  value_grows (Entry.text w) s v c d = le_refl _
  value_grows (Entry.child q) s v c d = le_refl _
  value_grows (Entry.at p q) s v c d = join_grows false s (v p) (v q)
  value_grows (Entry.lower q) s v c d = le_refl _
  value_grows (Entry.or p q) s v c d = join_grows true s (v p) (v q)
  value_grows (Entry.and p q) s v c d = join_grows false s (v p) (v q)
  value_grows (Entry.not q) s v c d = negated_grows s (v q)

  pub visit_grows : (c : ℕ → Ref) (l : List (Entry Bytes)) (i : ℕ) (s : List Step) (v d : ℕ → Ref) → length s ≤ length (visit formula lab txt c l i s v d).st
  unfolding visit
  visit_grows c [] i s v d = le_refl _
  visit_grows c (e ∷ l) i s v d =
      let a = value_of formula lab txt e s v c d in
      let b = join true a.0 a.1 (d i) in
      omega (arith, value_grows e s v c d, join_grows true a.0 a.1 (d i), visit_grows c l (suc i) b.0 (upd v i a.1) (upd d i b.1))

pub push_grows : (v d : ℕ → Ref) (n i : ℕ) (s : List Step) (pc pd : ℕ → Ref) → length s ≤ length (push formula v d n i s pc pd).st
unfolding push
push_grows v d zero i s pc pd = le_refl _
push_grows v d (suc n) i s pc pd =
    let a = join true s (pc i) (v i) in
    let b = join true a.0 (pd i) (d i) in
    omega (arith, join_grows true s (pc i) (v i), join_grows true a.0 (pd i) (d i), push_grows v d n (suc i) b.0 (upd pc i a.1) (upd pd i b.1))

module _ (R : Rows) (es : List (Entry Bytes)) (var_v var_d : ℕ → ℕ → Ref) where
  pub row_grows : (k : ℕ) (S : Tables formula) → length S.st ≤ length (row formula R es var_v var_d k S).st
  unfolding row
  row_grows k S = go (R.stands k)
    where
      go : (b : Bool) → length S.st ≤ length (cond {A = Vectors formula} b (record { st = S.st; v = var_v k; d = var_d k }) (visit formula (λ w. label_is w (R.label k)) (λ w. text_is w (R.text k)) (S.c k) es 0 S.st (λ e. Ref.low) (S.d k))).st
      go true = le_refl _
      go false = visit_grows (λ w. label_is w (R.label k)) (λ w. text_is w (R.text k)) (S.c k) es 0 S.st (λ e. Ref.low) (S.d k)

  pub deliver_grows : (k : ℕ) (S : Tables formula) → length S.st ≤ length (deliver formula R es var_v var_d k S).st
  unfolding deliver
  deliver_grows k S =
      let r = row formula R es var_v var_d k S in
      omega (arith, row_grows k S, push_grows r.v r.d (length es) 0 r.st (S.c (R.parent k)) (S.d (R.parent k)))

  pub sweep_grows : (k : ℕ) (S : Tables formula) → length S.st ≤ length (sweep formula R es var_v var_d k S).st
  unfolding sweep
  sweep_grows zero S = le_refl _
  sweep_grows (suc k) S = omega (arith, deliver_grows (suc k) S, sweep_grows k (deliver formula R es var_v var_d (suc k) S))
