-- THE RUN GIVES THE MEANING, whatever the references are: V and D of row 0 have the values of the entries at the place of row 0,
-- if the variables of each stand-in have the values at the place that it stands for.
use Prim.Native.Nat.{ℕ, zero, suc, ◌+◌, ◌≤◌, ◌<◌}
use native.Mathlib.Omega.{arith}
use native.Mathlib.Decide.{ℕ_discrete}
use native.Mathlib.Nat.{add-zero, zero-add, suc-add, add-suc}
use mathlib.Core.Path.{◌≡◌, refl, sym, subst}
use mathlib.Core.Bool.{Bool, true, false, ◌&&◌, ◌||◌, cond}
use mathlib.Core.Logic.{◌≢◌}
use mathlib.Core.List.{List, [], ◌∷◌}
use lib.ListN.{length}
use lib.Dec.{eqb}
use Rattle.meaning.specs.Bytes.{Bytes, label_is, text_is}
use Rattle.meaning.specs.Tree.{Tree}
use Rattle.meaning.specs.Entry.{Entry, Points, Earlier}
use Rattle.meaning.specs.Algebra.{Algebra}
use Rattle.meaning.specs.Fragment.{Rows}
use Rattle.meaning.specs.Run.{upd, literal, Vectors, Delivered, Tables, value_of, visit, push, row, deliver, sweep, run}
use Rattle.meaning.proofs.Says.{some}
use Rattle.meaning.proofs.Tree.{Finite, deep, deep_step}
use Rattle.meaning.proofs.Entry.{sem, Agrees}
use Rattle.meaning.proofs.Algebra.{Reading, Laws}
use Rattle.std.proofs.lemmas.Bool.{eq-eqb, ne_eqb}
use Rattle.std.proofs.Math.Bool.{or-false}
use Rattle.meaning.proofs.Numbers.{upd_same, upd_other}
use Rattle.meaning.proofs.Placed.{ups, Placed, kids_later}

module _ (A : Algebra) (M : Reading A) (L : Laws A M) where
  -- references lo to hi - 1 of f have the values g
  abbrev pub Span : A.St → (ℕ → A.Ref) → (ℕ → Bool) → ℕ → ℕ → Type 0
  Span s f g lo hi = (e : ℕ) → lo ≤ e → e < hi → M.Is s (f e) (g e)

  span_keep : {s s' : A.St} (f : ℕ → A.Ref) (g : ℕ → Bool) (lo hi : ℕ) → M.Later s s' → Span s f g lo hi → Span s' f g lo hi
  span_keep f g lo hi x h e a b = L.keep _ _ _ _ x (h e a b)

  span_snoc : (s : A.St) (f : ℕ → A.Ref) (g : ℕ → Bool) (i : ℕ) (r : A.Ref) → Span s f g 0 i → M.Is s r (g i) → Span s (upd f i r) g 0 (suc i)
  span_snoc s f g i r h m e a b = go (ℕ_discrete e i)
    where
      go : Dec (e ≡ i) → M.Is s (upd f i r e) (g e)
      go (yes p) = subst (λ j. M.Is s (upd f i r j) (g j)) (sym p) (rw upd_same m)
      go (no p) = rw (upd_other f i r e p) (h e a (omega arith))

  span_tail : (s : A.St) (f : ℕ → A.Ref) (g : ℕ → Bool) (i hi : ℕ) (r : A.Ref) → Span s f g i hi → Span s (upd f i r) g (suc i) hi
  span_tail s f g i hi r h e a b = let p : e ≢ i = omega arith in rw (upd_other f i r e p) (h e (omega arith) b)

  span_of : (s : A.St) (f : ℕ → A.Ref) (g h : ℕ → Bool) (n : ℕ) → ((e : ℕ) → g e ≡ h e) → Span s f g 0 n → Span s f h 0 n
  span_of s f g h n x y e a b = subst (λ z. M.Is s (f e) z) (x e) (y e a b)

  literal_is : (s : A.St) (b : Bool) → M.Is s (literal A b) b
  literal_is s true = L.high_is s
  literal_is s false = L.low_is s

  -- a row's two vectors have the values gn and gf, in a store grown from s
  pub record Gives (n : ℕ) (s : A.St) (o : Vectors A) (gn gf : ℕ → Bool) : Type 0 where
    pub later : M.Later s o.st
    pub v : Span o.st o.v gn 0 n
    pub d : Span o.st o.d gf 0 n

  pub record Passes (n : ℕ) (s : A.St) (o : Delivered A) (gn gf : ℕ → Bool) : Type 0 where
    pub later : M.Later s o.st
    pub c : Span o.st o.c gn 0 n
    pub d : Span o.st o.d gf 0 n

  -- ONE ROW: V has the entries' values here, D here or below
  module _ {t : Tree} (fin : Finite t) (ρ : ℕ → t.N → Bool) (u : t.N) (lab txt : Bytes → Bool) (lab-is : (w : Bytes) → lab w ≡ t.label? w u) (txt-is : (w : Bytes) → txt w ≡ t.text? w u) where
    value_later : (e : Entry Bytes) (s : A.St) (v c d : ℕ → A.Ref) → M.Later s (value_of A lab txt e s v c d).0
    value_later Entry.self s v c d = L.same s
    value_later (Entry.label w) s v c d = L.same s
    value_later (Entry.text w) s v c d = L.same s
    value_later (Entry.child q) s v c d = L.same s
    value_later (Entry.at p q) s v c d = L.and_later s (v p) (v q)
    value_later (Entry.lower q) s v c d = L.same s
    value_later (Entry.or p q) s v c d = L.or_later s (v p) (v q)
    value_later (Entry.and p q) s v c d = L.and_later s (v p) (v q)
    value_later (Entry.not q) s v c d = L.neg_later s (v q)

    -- the values of V here, of C, of D here or below, and of D before this row
    abbrev here_is : ℕ → Bool
    here_is j = ρ j u

    abbrev kid_is : ℕ → Bool
    kid_is j = some (ρ j) (fin.kids u)

    abbrev lower_is : ℕ → Bool
    lower_is j = deep fin (ρ j) u

    abbrev deeper_is : ℕ → Bool
    deeper_is j = some (deep fin (ρ j)) (fin.kids u)

    value_is : (i n : ℕ) → i ≤ n → (e : Entry Bytes) → Points (λ w. Unit {0}) i e → (s : A.St) (v c d : ℕ → A.Ref) → Span s v here_is 0 i → Span s c kid_is 0 n → Span s d lower_is 0 i
        → M.Is (value_of A lab txt e s v c d).0 (value_of A lab txt e s v c d).1 (sem fin e ρ u)
    value_is i n k Entry.self p s v c d hv hc hd = L.high_is s
    value_is i n k (Entry.label w) p s v c d hv hc hd = rw (← (lab-is w)) (literal_is s (lab w))
    value_is i n k (Entry.text w) p s v c d hv hc hd = rw (← (txt-is w)) (literal_is s (txt w))
    value_is i n k (Entry.child q) p s v c d hv hc hd = hc q (omega arith) (omega arith)
    value_is i n k (Entry.at a b) p s v c d hv hc hd = L.and_is _ _ _ _ _ (hv a (omega arith) p.0) (hv b (omega arith) p.1)
    value_is i n k (Entry.lower q) p s v c d hv hc hd = hd q (omega arith) p
    value_is i n k (Entry.or a b) p s v c d hv hc hd = L.or_is _ _ _ _ _ (hv a (omega arith) p.0) (hv b (omega arith) p.1)
    value_is i n k (Entry.and a b) p s v c d hv hc hd = L.and_is _ _ _ _ _ (hv a (omega arith) p.0) (hv b (omega arith) p.1)
    value_is i n k (Entry.not q) p s v c d hv hc hd = L.neg_is _ _ _ (hv q (omega arith) p)

    visit_later : (l : List (Entry Bytes)) (i : ℕ) (c : ℕ → A.Ref) (s : A.St) (v d : ℕ → A.Ref) → M.Later s (visit A lab txt c l i s v d).st
    unfolding visit
    visit_later [] i c s v d = L.same s
    visit_later (e ∷ l) i c s v d = L.trans _ _ _ (L.trans _ _ _ (value_later e s v c d) (L.or_later _ _ (d i))) (visit_later l (suc i) c _ _ _)

    visit_is : (n i : ℕ) (l : List (Entry Bytes)) → length l + i ≡ n → Earlier i l → Agrees fin ρ i l → (c : ℕ → A.Ref) (s : A.St) (v d : ℕ → A.Ref)
        → Span s c kid_is 0 n → Span s v here_is 0 i → Span s d lower_is 0 i → Span s d deeper_is i n → Gives n s (visit A lab txt c l i s v d) here_is lower_is
    unfolding visit
    visit_is n i [] k w q c s v d hc hv hd ht = let e : i ≡ n = omega arith in record { later = L.same _; v = rw (← e) hv; d = rw (← e) hd }
    visit_is n i (e ∷ l) k w q c s v d hc hv hd ht =
        let r = visit_is n (suc i) l (omega arith) w.1 q.1 c b.0 (upd v i a.1) (upd d i b.1)
        (span_keep c kid_is 0 n xs hc)
        (span_snoc b.0 v here_is i a.1 (span_keep v here_is 0 i xs hv) (L.keep _ _ _ _ xb ma))
        (span_snoc b.0 d lower_is i b.1 (span_keep d lower_is 0 i xs hd) mb)
        (span_tail b.0 d deeper_is i n b.1 (span_keep d deeper_is i n xs ht)) in
        record { later = visit_later (e ∷ l) i c s v d; v = r.v; d = r.d }
      where
        a : A.St × A.Ref
        a = value_of A lab txt e s v c d

        b : A.St × A.Ref
        b = A.or a.0 a.1 (d i)

        xa : M.Later s a.0
        xa = value_later e s v c d

        xb : M.Later a.0 b.0
        xb = L.or_later a.0 a.1 (d i)

        xs : M.Later s b.0
        xs = L.trans _ _ _ xa xb

        ma : M.Is a.0 a.1 (ρ i u)
        ma = subst (λ x. M.Is a.0 a.1 (x u)) (sym q.0) (value_is i n (omega arith) e w.0 s v c d hv hc hd)

        mb : M.Is b.0 b.1 (lower_is i)
        mb = subst (λ x. M.Is b.0 b.1 x) (sym (deep_step fin (ρ i) u)) (L.or_is _ _ _ _ _ ma (L.keep _ _ _ _ xa (ht i (omega arith) (omega arith))))

  -- TO THE PARENT: what has the values gv and gd is joined to what has the values gc and ge
  push_is : (v d : ℕ → A.Ref) (gv gd gc ge : ℕ → Bool) (n m i : ℕ) → m + i ≡ n → (s : A.St) (pc pd : ℕ → A.Ref)
      → Span s v gv 0 n → Span s d gd 0 n → Span s pc (λ e. gc e || gv e) 0 i → Span s pc gc i n → Span s pd (λ e. ge e || gd e) 0 i → Span s pd ge i n
      → Passes n s (push A v d m i s pc pd) (λ e. gc e || gv e) (λ e. ge e || gd e)
  unfolding push
  push_is v d gv gd gc ge n zero i k s pc pd hv hd hc hc' he he' = let e : i ≡ n = omega arith in record { later = L.same _; c = rw (← e) hc; d = rw (← e) he }
  push_is v d gv gd gc ge n (suc m) i k s pc pd hv hd hc hc' he he' =
      let r = push_is v d gv gd gc ge n m (suc i) (omega arith) b.0 (upd pc i a.1) (upd pd i b.1) (span_keep v gv 0 n xs hv) (span_keep d gd 0 n xs hd)
      (span_snoc b.0 pc (λ e. gc e || gv e) i a.1 (span_keep pc (λ e. gc e || gv e) 0 i xs hc) (L.keep _ _ _ _ xb ma))
      (span_tail b.0 pc gc i n a.1 (span_keep pc gc i n xs hc'))
      (span_snoc b.0 pd (λ e. ge e || gd e) i b.1 (span_keep pd (λ e. ge e || gd e) 0 i xs he) mb)
      (span_tail b.0 pd ge i n b.1 (span_keep pd ge i n xs he')) in
      record { later = L.trans _ _ _ xs r.later; c = r.c; d = r.d }
    where
      a : A.St × A.Ref
      a = A.or s (pc i) (v i)

      b : A.St × A.Ref
      b = A.or a.0 (pd i) (d i)

      xa : M.Later s a.0
      xa = L.or_later s (pc i) (v i)

      xb : M.Later a.0 b.0
      xb = L.or_later a.0 (pd i) (d i)

      xs : M.Later s b.0
      xs = L.trans _ _ _ xa xb

      ma : M.Is a.0 a.1 (gc i || gv i)
      ma = L.or_is _ _ _ _ _ (hc' i (omega arith) (omega arith)) (hv i (omega arith) (omega arith))

      mb : M.Is b.0 b.1 (ge i || gd i)
      mb = L.or_is _ _ _ _ _ (L.keep _ _ _ _ xa (he' i (omega arith) (omega arith))) (L.keep _ _ _ _ xa (hd i (omega arith) (omega arith)))

  -- ALL ROWS
  module _ {t : Tree} (fin : Finite t) (R : Rows) (place : ℕ → t.N) (P : Placed fin R place) (es : List (Entry Bytes)) (w : Earlier 0 es)
      (ρ : ℕ → t.N → Bool) (q : Agrees fin ρ 0 es) (var_v var_d : ℕ → ℕ → A.Ref) where
    -- D's values
    abbrev δ : ℕ → t.N → Bool
    δ e = deep fin (ρ e)

    -- what the children of row r among the m rows from k on give, where g e is entry e's value at a place
    abbrev from_kids : (ℕ → t.N → Bool) → ℕ → ℕ → ℕ → ℕ → Bool
    from_kids g m k r e = ups m k (λ c. eqb (R.parent c) r && g e (place c))

    -- the variables have the values at the places that are stood for
    abbrev pub VarsAre : A.St → Type 0
    VarsAre s = (k : ℕ) → k ≤ R.last → R.stands k ≡ true → Span s (var_v k) (λ e. ρ e (place k)) 0 (length es) × Span s (var_d k) (λ e. δ e (place k)) 0 (length es)

    -- rows k + 1 to k + m are done
    record Swept (m k : ℕ) (S : Tables A) : Type 0 where
      rows : m + k ≡ R.last
      vars : VarsAre S.st
      kids : (r : ℕ) → r ≤ k → Span S.st (S.c r) (from_kids ρ m (suc k) r) 0 (length es)
      lower : (r : ℕ) → r ≤ k → Span S.st (S.d r) (from_kids δ m (suc k) r) 0 (length es)

    row_is : (m k : ℕ) (S : Tables A) → Swept m k S → Gives (length es) S.st (row A R es var_v var_d k S) (λ e. ρ e (place k)) (λ e. δ e (place k))
    unfolding row
    row_is m k S I = go (R.stands k) refl
      where
        n : ℕ
        n = length es

        inside : k ≤ R.last
        inside = omega (arith, I.rows)

        go : (b : Bool) → R.stands k ≡ b → Gives n S.st (cond b (record { st = S.st; v = var_v k; d = var_d k }) (visit A (λ w. label_is w (R.label k)) (λ w. text_is w (R.text k)) (S.c k) es 0 S.st (λ e. A.low) (S.d k))) (λ e. ρ e (place k)) (λ e. δ e (place k))
        go true e = record { later = L.same _; v = (I.vars k inside e).0; d = (I.vars k inside e).1 }
        go false e = visit_is fin ρ (place k) (λ w. label_is w (R.label k)) (λ w. text_is w (R.text k)) (P.label_agrees k inside e) (P.text_agrees k inside e) n 0 es (add-zero n) w q (S.c k) S.st (λ e. A.low) (S.d k)
            (span_of S.st (S.c k) (from_kids ρ m (suc k) k) (λ j. some (ρ j) (fin.kids (place k))) n (λ j. kids_later fin R place P m k I.rows e (ρ j)) (I.kids k (omega arith)))
            (λ j a b. absurd (omega arith)) (λ j a b. absurd (omega arith))
            (span_of S.st (S.d k) (from_kids δ m (suc k) k) (λ j. some (δ j) (fin.kids (place k))) n (λ j. kids_later fin R place P m k I.rows e (δ j)) (I.lower k (omega arith)))

    -- one table after row k + 1 is delivered
    table_is : (g : ℕ → t.N → Bool) (m k : ℕ) (s s' : A.St) → M.Later s s' → (T : ℕ → ℕ → A.Ref) (x : ℕ → A.Ref)
        → ((r : ℕ) → r ≤ suc k → Span s (T r) (from_kids g m (suc (suc k)) r) 0 (length es))
        → Span s' x (λ e. from_kids g m (suc (suc k)) (R.parent (suc k)) e || g e (place (suc k))) 0 (length es)
        → (r : ℕ) → r ≤ k → Span s' (upd T (R.parent (suc k)) x r) (from_kids g (suc m) (suc k) r) 0 (length es)
    table_is g m k s s' y T x old new r h = go (ℕ_discrete r par)
      where
        par : ℕ
        par = R.parent (suc k)

        val : ℕ → ℕ → Bool
        val r e = from_kids g m (suc (suc k)) r e

        own : ℕ → Bool
        own e = g e (place (suc k))

        go : Dec (r ≡ par) → Span s' (upd T par x r) (λ e. val r e || (eqb par r && own e)) 0 (length es)
        go (yes e) = subst (λ r. Span s' (upd T par x r) (λ e. val r e || (eqb par r && own e)) 0 (length es)) (sym e)
            (subst (λ z. Span s' z (λ e. val par e || (eqb par par && own e)) 0 (length es)) (sym (upd_same T par x))
            (subst (λ b. Span s' x (λ e. val par e || (b && own e)) 0 (length es)) (sym (eq-eqb par par refl)) new))
        go (no e) = subst (λ z. Span s' z (λ e. val r e || (eqb par r && own e)) 0 (length es)) (sym (upd_other T par x r e))
            (subst (λ b. Span s' (T r) (λ e. val r e || (b && own e)) 0 (length es)) (sym (ne_eqb par r (λ z. e (sym z))))
            (span_of s' (T r) (val r) (λ e. val r e || false) (length es) (λ e. sym (or-false (val r e))) (span_keep (T r) (val r) 0 (length es) y (old r (omega arith)))))

    deliver_is : (m k : ℕ) (S : Tables A) → Swept m (suc k) S → Swept (suc m) k (deliver A R es var_v var_d (suc k) S)
    unfolding deliver
    deliver_is m k S I = record {
      rows = omega (arith, I.rows);
      vars = λ j a b. (span_keep (var_v j) (λ e. ρ e (place j)) 0 n later (I.vars j a b).0, span_keep (var_d j) (λ e. δ e (place j)) 0 n later (I.vars j a b).1);
      kids = table_is ρ m k S.st p.st later S.c p.c I.kids g.c;
      lower = table_is δ m k S.st p.st later S.d p.d I.lower g.d;
    }
      where
        n : ℕ
        n = length es

        par : ℕ
        par = R.parent (suc k)

        early : par ≤ suc k
        early = omega (arith, P.parents (suc k) (omega arith) (omega (arith, I.rows)))

        r : Vectors A
        r = row A R es var_v var_d (suc k) S

        h : Gives n S.st r (λ e. ρ e (place (suc k))) (λ e. δ e (place (suc k)))
        h = row_is m (suc k) S I

        p : Delivered A
        p = push A r.v r.d n 0 r.st (S.c par) (S.d par)

        before : (ℕ → t.N → Bool) → ℕ → Bool
        before g e = from_kids g m (suc (suc k)) par e

        g : Passes n r.st p (λ e. before ρ e || ρ e (place (suc k))) (λ e. before δ e || δ e (place (suc k)))
        g = push_is r.v r.d (λ e. ρ e (place (suc k))) (λ e. δ e (place (suc k))) (before ρ) (before δ) n n 0 (add-zero n) r.st (S.c par) (S.d par) h.v h.d
            (λ e a b. absurd (omega arith)) (span_keep (S.c par) (before ρ) 0 n h.later (I.kids par early))
            (λ e a b. absurd (omega arith)) (span_keep (S.d par) (before δ) 0 n h.later (I.lower par early))

        later : M.Later S.st p.st
        later = L.trans _ _ _ h.later g.later

    sweep_is : (k m : ℕ) (S : Tables A) → Swept m k S → Swept (k + m) 0 (sweep A R es var_v var_d k S)
    unfolding sweep
    sweep_is zero m S I = rw zero-add I
    sweep_is (suc k) m S I = rw (suc-add, ← add-suc) (sweep_is k (suc m) (deliver A R es var_v var_d (suc k) S) (deliver_is m k S I))

    -- V and D of row 0
    pub record Answers (o : Vectors A) : Type 0 where
      pub here : Span o.st o.v (λ e. ρ e (place 0)) 0 (length es)
      pub lower : Span o.st o.d (λ e. δ e (place 0)) 0 (length es)

    pub run_is : (s : A.St) → VarsAre s → Answers (run A R es var_v var_d s)
    unfolding run
    run_is s h = record { here = g.v; lower = g.d }
      where
        S₀ : Tables A
        S₀ = record { st = s; c = λ r e. A.low; d = λ r e. A.low }

        I₀ : Swept 0 R.last S₀
        I₀ = record { rows = zero-add R.last; vars = h; kids = λ r x e a b. L.low_is s; lower = λ r x e a b. L.low_is s }

        g : Gives (length es) (sweep A R es var_v var_d R.last S₀).st (run A R es var_v var_d s) (λ e. ρ e (place 0)) (λ e. δ e (place 0))
        g = row_is (R.last + 0) 0 (sweep A R es var_v var_d R.last S₀) (sweep_is R.last 0 S₀ I₀)
