-- ONE ROW in memory, as the run visits it.
use Prim.Native.Nat.{ℕ, zero, suc, ◌+◌, ◌*◌, ◌<◌, ◌≤◌}
use native.Mathlib.Omega.{arith}
use native.Mathlib.Decide.{ℕ_discrete}
use mathlib.Core.Path.{◌≡◌, refl, sym, ap, ◌∙◌}
use mathlib.Core.Bool.{Bool, true, false}
use mathlib.Core.List.{List}
use lib.ListN.{length, get_or, set, length-set}
use lib.Seq.{get_or-set_same, get_or-set_other, drop-set-lt}
use Rattle.meaning.specs.Bytes.{Bytes, word, label_is, text_is}
use Rattle.meaning.specs.Entry.{Entry}
use Rattle.meaning.specs.Formula.{Ref, Step, formula}
use Rattle.meaning.proofs.Formula.{join}
use Rattle.meaning.specs.Fragment.{Fragment, rows_of}
use Rattle.meaning.specs.Run.{Vectors, upd, literal, value_of, visit}
use Rattle.meaning.specs.Reply.{tabulated}
use Rattle.meaning.proofs.Numbers.{upd_same, upd_other}
use Rattle.question.specs.declared.List as L
use Rattle.question.specs.Listed.{entry_of, placed, EntryRule, Keeps}
use Rattle.writing.specs.inner.Codes.{code}
use Rattle.formula.specs.inner.Flat.{St, st, Got, across, join_f, truth, test_f, value_f, enter_f, entry_f, var_f}
use Rattle.formula.proofs.Held.{Held, Sim, live, after, mapped, Gave, keep, join_sim, not_sim}
use Rattle.formula.proofs.Grows.{join_over, entry_over, across_over, join_grows, visit_grows}

-- TWO NUMBERS STORED
module _ (m : List ℕ) (p q x y : ℕ) (apart : p < q) (inside : q < length m) where
  pub at_first : get_or (set (set m p x) q y) p 0 ≡ x
  at_first = get_or-set_other (set m p x) q p y 0 (omega arith) ∙ get_or-set_same m p x 0 (omega arith)

  pub at_second : get_or (set (set m p x) q y) q 0 ≡ y
  at_second = get_or-set_same (set m p x) q y 0 (rw length-set inside)

  pub elsewhere : (r : ℕ) → (r ≡ p → ⊥) → (r ≡ q → ⊥) → get_or (set (set m p x) q y) r 0 ≡ get_or m r 0
  elsewhere r a b = get_or-set_other (set m p x) q r y 0 b ∙ get_or-set_other m p r x 0 a

pub held_set : (size : ℕ) (m : List ℕ) (s : List Step) (p x : ℕ) → p < 4 * size → Held size m s → Held size (set m p x) s
held_set size m s p x h k = record { room = rw length-set k.room; steps = rw (drop-set-lt (4 * size) m p x h) k.steps }

-- a function changed at one number, in numbers
pub changed : (f : ℕ → Ref) (i j : ℕ) (r : Ref) {c : ℕ} → (j ≡ i → c ≡ code r) → ((j ≡ i → ⊥) → c ≡ code (f j)) → c ≡ code (upd f i r j)
changed f i j r {c} h k = go (ℕ_discrete j i)
  where
    go : Dec (j ≡ i) → c ≡ code (upd f i r j)
    go (yes e) = h e ∙ ap code (sym (ap (upd f i r) e ∙ upd_same f i r))
    go (no e) = k e ∙ ap code (sym (upd_other f i r j e))

-- a row's references: V up to entry i, C and D of all n entries, after the steps s
pub record RowHeld (size at n i : ℕ) (m : List ℕ) (s : List Step) (v c d : ℕ → Ref) : Type 0 where
  pub held : Held size m s
  pub here : (e : ℕ) → e < i → get_or m (at + e) 0 ≡ code (v e)
  pub child : (e : ℕ) → e < n → get_or m (size + at + e) 0 ≡ code (c e)
  pub lower : (e : ℕ) → e < n → get_or m (2 * size + at + e) 0 ≡ code (d e)

-- what is left of a row: V and D, and C of every row and D of the rows before as they were
pub record Visited (size at n : ℕ) (m m' : List ℕ) (o : Vectors formula) : Type 0 where
  pub held : Held size m' o.st
  pub v : (e : ℕ) → e < n → get_or m' (at + e) 0 ≡ code (o.v e)
  pub d : (e : ℕ) → e < n → get_or m' (2 * size + at + e) 0 ≡ code (o.d e)
  pub same : (j : ℕ) → size ≤ j → j < 2 * size + at → get_or m' j 0 ≡ get_or m j 0

record Entered (size at n e : ℕ) (m m' : List ℕ) (s : List Step) (v c d : ℕ → Ref) : Type 0 where
  row : RowHeld size at n (suc e) m' s v c d
  same : (j : ℕ) → size ≤ j → j < 2 * size + at → get_or m' j 0 ≡ get_or m j 0

literal_code : (b : Bool) → truth b ≡ code (literal formula b)
literal_code true = refl
literal_code false = refl

module _ (t : Bytes) (F : Fragment) (k : ℕ) (size at n : ℕ) (fits : at + n ≤ size) where
  abbrev lab : Bytes → Bool
  lab w = label_is w ((rows_of F).label k)

  abbrev txt : Bytes → Bool
  txt w = text_is w ((rows_of F).text k)

  module _ (e : ℕ) (m : List ℕ) (ks : ℕ) (s : List Step) (v c d : ℕ → Ref) (inside : e < n) (counts : ks ≡ length s) (most : length s ≤ 4096) (h : RowHeld size at n e m s v c d) where
    value_sim : (q a b : ℕ) → EntryRule t e q a b
        → Sim (value_f size at (placed q a b) (test_f F k (entry_of (word t) q a b)) m ks).steps (value_of formula lab txt (entry_of (word t) q a b) s v c d).0 (Gave size m (value_f size at (placed q a b) (test_f F k (entry_of (word t) q a b)) m ks) (value_of formula lab txt (entry_of (word t) q a b) s v c d).0 (value_of formula lab txt (entry_of (word t) q a b) s v c d).1)
    unfolding entry_of
    value_sim zero a b r = keep size m ks s counts most h.held Ref.high refl
    value_sim (suc zero) a b r = keep size m ks s counts most h.held (literal formula (lab (word t a b))) (literal_code (lab (word t a b)))
    value_sim (suc (suc zero)) a b r = keep size m ks s counts most h.held (literal formula (txt (word t a b))) (literal_code (txt (word t a b)))
    value_sim (suc (suc (suc zero))) a b r = keep size m ks s counts most h.held (c a) (h.child a (omega (arith, r.points)))
    value_sim (suc (suc (suc (suc zero)))) a b r = join_sim size m ks s counts most h.held false (v a) (v b) (h.here a r.points.0) (h.here b r.points.1)
    value_sim (suc (suc (suc (suc (suc zero))))) a b r = keep size m ks s counts most h.held (d a) (h.lower a (omega (arith, r.points)))
    value_sim (suc (suc (suc (suc (suc (suc zero)))))) a b r = join_sim size m ks s counts most h.held true (v a) (v b) (h.here a r.points.0) (h.here b r.points.1)
    value_sim (suc (suc (suc (suc (suc (suc (suc zero))))))) a b r = join_sim size m ks s counts most h.held false (v a) (v b) (h.here a r.points.0) (h.here b r.points.1)
    value_sim (suc (suc (suc (suc (suc (suc (suc (suc zero)))))))) a b r = not_sim size m ks s counts most h.held (v a) (h.here a r.points)
    value_sim (suc (suc (suc (suc (suc (suc (suc (suc (suc q))))))))) a b r = absurd (omega (arith, r.known))

    -- V and D are stored
    stored : (g j : Got) (s₁ s₂ : List Step) (x y : Ref) → Gave size m g s₁ x → Gave size g.mem j s₂ y
        → Entered size at n e m (set (set j.mem (at + e) g.code) (2 * size + at + e) j.code) s₂ (upd v e x) c (upd d e y)
    stored g j s₁ s₂ x y a b = record {
      row = record {
        held = held_set size _ s₂ (2 * size + at + e) j.code (omega arith) (held_set size j.mem s₂ (at + e) g.code (omega arith) b.held);
        here = λ i l. changed v e i x (λ z. ap (λ i. get_or m' (at + i) 0) z ∙ at_first j.mem p q g.code j.code apart room ∙ a.coded) (λ z. off (at + i) (omega arith) (λ w. z (omega arith)) (λ w. omega arith) ∙ h.here i (omega arith));
        child = λ i l. off (size + at + i) (omega arith) (λ w. omega arith) (λ w. omega arith) ∙ h.child i l;
        lower = λ i l. changed d e i y (λ z. ap (λ i. get_or m' (2 * size + at + i) 0) z ∙ at_second j.mem p q g.code j.code apart room ∙ b.coded) (λ z. off (2 * size + at + i) (omega arith) (λ w. omega arith) (λ w. z (omega arith)) ∙ h.lower i l);
      };
      same = λ i l u. off i (omega arith) (λ w. omega arith) (λ w. omega arith);
    }
      where
        p : ℕ
        p = at + e

        q : ℕ
        q = 2 * size + at + e

        m' : List ℕ
        m' = set (set j.mem p g.code) q j.code

        apart : p < q
        apart = omega arith

        room : q < length j.mem
        room = omega (arith, b.held.room)

        off : (i : ℕ) → i < 4 * size → (i ≡ p → ⊥) → (i ≡ q → ⊥) → get_or m' i 0 ≡ get_or m i 0
        off i l u w = elsewhere j.mem p q g.code j.code apart room i u w ∙ b.same i l ∙ a.same i l

    -- V by its kind, then D becomes V or D
    enter_sim : (q a b : ℕ) → EntryRule t e q a b
        → Sim (enter_f size at e (placed q a b) (test_f F k (entry_of (word t) q a b)) (st m ks)).steps
        (join true (value_of formula lab txt (entry_of (word t) q a b) s v c d).0 (value_of formula lab txt (entry_of (word t) q a b) s v c d).1 (d e)).0
        (Entered size at n e m (enter_f size at e (placed q a b) (test_f F k (entry_of (word t) q a b)) (st m ks)).mem
        (join true (value_of formula lab txt (entry_of (word t) q a b) s v c d).0 (value_of formula lab txt (entry_of (word t) q a b) s v c d).1 (d e)).0
        (upd v e (value_of formula lab txt (entry_of (word t) q a b) s v c d).1) c
        (upd d e (join true (value_of formula lab txt (entry_of (word t) q a b) s v c d).0 (value_of formula lab txt (entry_of (word t) q a b) s v c d).1 (d e)).1))
    unfolding enter_f
    enter_sim q a b r =
        let g : Got = value_f size at (placed q a b) (test_f F k (entry_of (word t) q a b)) m ks in
        let x = value_of formula lab txt (entry_of (word t) q a b) s v c d in
        after (value_sim q a b r)
        (λ u w y. mapped (stored g (join_f size 1 g.code (get_or g.mem (2 * size + at + e) 0) g.mem g.steps) x.0 _ x.1 _ y)
        (join_sim size g.mem g.steps x.0 u w y.held true x.1 (d e) y.coded (y.same (2 * size + at + e) (omega arith) ∙ h.lower e inside)))
        (λ u. join_over size 1 g.code (get_or g.mem (2 * size + at + e) 0) g.mem g.steps u) (join_grows true x.0 x.1 (d e))

  -- all entries
  module _ (l : L.List) (keeps : Keeps l t) (all : l.count ≡ n) (c : ℕ → Ref) where
    abbrev entry_at : ℕ → Entry Bytes
    entry_at i = entry_of (word t) (get_or l.kinds i 0) (get_or l.left i 0) (get_or l.right i 0)

    pub visit_sim : (r i : ℕ) → r + i ≡ n → (z : St) (s : List Step) (v d : ℕ → Ref) → z.steps ≡ length s → length s ≤ 4096 → RowHeld size at n i z.mem s v c d
        → Sim (across (entry_f l t F size at k) i r z).steps (visit formula lab txt c (tabulated r i entry_at) i s v d).st (Visited size at n z.mem (across (entry_f l t F size at k) i r z).mem (visit formula lab txt c (tabulated r i entry_at) i s v d))
    unfolding across tabulated visit entry_f
    visit_sim zero i sum z s v d counts most h = live counts most (record { held = h.held; v = λ e w. h.here e (omega arith); d = h.lower; same = λ j a b. refl })
    visit_sim (suc r) i sum z s v d counts most h =
        let x = value_of formula lab txt (entry_at i) s v c d in
        let y = join true x.0 x.1 (d i) in
        after (enter_sim i z.mem z.steps s v c d (omega arith) counts most h (get_or l.kinds i 0) (get_or l.left i 0) (get_or l.right i 0) (keeps.each i (omega arith)))
        (λ a b E. mapped (λ o. record { held = o.held; v = o.v; d = o.d; same = λ j u w. o.same j u w ∙ E.same j u w })
        (visit_sim r (suc i) (omega arith) (entry_f l t F size at k i z) y.0 (upd v i x.1) (upd d i y.1) a b E.row))
        (λ a. across_over (entry_f l t F size at k) (λ i s h. entry_over l t F size at k i s h) (suc i) r (entry_f l t F size at k i z) a)
        (visit_grows lab txt c (tabulated r (suc i) entry_at) (suc i) y.0 (upd v i x.1) (upd d i y.1))

-- A STAND-IN'S variables
module _ (size at n first : ℕ) (fits : at + n ≤ size) (s : List Step) where
  abbrev vars : Vectors formula
  vars = record { st = s; v = λ e. Ref.var (first + e); d = λ e. Ref.var (first + (n + e)) }

  pub stand_held : (r i : ℕ) → r + i ≡ n → (m : List ℕ) → Held size m s
      → ((e : ℕ) → e < i → get_or m (at + e) 0 ≡ code (vars.v e)) → ((e : ℕ) → e < i → get_or m (2 * size + at + e) 0 ≡ code (vars.d e))
      → Visited size at n m (across (var_f size at n first) i r m) vars
  unfolding across
  stand_held zero i sum m h a b = record { held = h; v = λ e w. a e (omega arith); d = λ e w. b e (omega arith); same = λ j u w. refl }
  stand_held (suc r) i sum m h a b =
      let o = stand_held r (suc i) (omega arith) m' h'
      (λ e w. here e w (ℕ_discrete e i)) (λ e w. lower e w (ℕ_discrete e i)) in
      record { held = o.held; v = o.v; d = o.d; same = λ j u w. o.same j u w ∙ elsewhere m p q x y apart room j (λ z. omega arith) (λ z. omega arith) }
    where
      p : ℕ
      p = at + i

      q : ℕ
      q = 2 * size + at + i

      x : ℕ
      x = 8192 + (first + i)

      y : ℕ
      y = 8192 + (first + (n + i))

      m' : List ℕ
      m' = set (set m p x) q y

      apart : p < q
      apart = omega arith

      room : q < length m
      room = omega (arith, h.room)

      h' : Held size m' s
      h' = held_set size (set m p x) s q y (omega arith) (held_set size m s p x (omega arith) h)

      here : (e : ℕ) → e < suc i → Dec (e ≡ i) → get_or m' (at + e) 0 ≡ 8192 + (first + e)
      here e w (yes z) = ap (λ k. get_or m' (at + k) 0) z ∙ at_first m p q x y apart room ∙ ap (λ k. 8192 + (first + k)) (sym z)
      here e w (no z) = elsewhere m p q x y apart room (at + e) (λ u. z (omega arith)) (λ u. omega arith) ∙ a e (omega arith)

      lower : (e : ℕ) → e < suc i → Dec (e ≡ i) → get_or m' (2 * size + at + e) 0 ≡ 8192 + (first + (n + e))
      lower e w (yes z) = ap (λ k. get_or m' (2 * size + at + k) 0) z ∙ at_second m p q x y apart room ∙ ap (λ k. 8192 + (first + (n + k))) (sym z)
      lower e w (no z) = elsewhere m p q x y apart room (2 * size + at + e) (λ u. omega arith) (λ u. z (omega arith)) ∙ b e (omega arith)
