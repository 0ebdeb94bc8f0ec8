-- A sound fragment's stand-ins: what a reply's header has room for, and what makes a reply well formed.
use Prim.Native.Nat.{ℕ, zero, suc, ◌-◌, ◌≤◌, ◌<◌}
use native.Mathlib.Omega.{arith}
use native.Mathlib.Decide.{ℕ_discrete}
use mathlib.Core.Path.{◌≡◌, refl, sym, ap, ◌∙◌, subst}
use mathlib.Core.Bool.{Bool, true, false, cond}
use mathlib.Core.Logic.{◌≢◌}
use mathlib.Core.List.{List, [], ◌∷◌, ◌++◌}
use lib.ListN.{length, get_or, length-append, get_or-append}
use lib.Seq.{get_or_at}
use lib.Dec.{eqb}
use borrow.Author.Tests.{eqb-true}
use Rattle.meaning.specs.Fragment.{Fragment, num, row_count, rows_of, StandIn, Sound}
use Rattle.meaning.specs.Reply.{stand_ins}
use Rattle.meaning.proofs.Fragment.{stand_in}
use Rattle.writing.specs.inner.Codes.{bare, row_ins, FrontIn}
use Rattle.reply.proofs.Lists.{up_to_suc}

-- numbers below n that differ are at most n
pub pigeons : (n m : ℕ) (f : ℕ → ℕ) → ((i : ℕ) → i < m → f i < n) → ((i : ℕ) → i < m → (j : ℕ) → j < i → f j ≢ f i) → m ≤ n
pigeons n zero f b d = omega arith
pigeons zero (suc m) f b d = absurd (omega (arith, b m (omega arith)))
pigeons (suc n) (suc m) f b d = go (λ g. pigeons n m g) (ℕ_discrete (f m) n)
  where
    -- n, where it is met before the last, is replaced by the last
    g : (i : ℕ) → Dec (f i ≡ n) → ℕ
    g i (yes e) = f m
    g i (no e) = f i

    g_lt : f m ≢ n → (i : ℕ) → i < m → (x : Dec (f i ≡ n)) → g i x < n
    g_lt h i l (yes e) = omega (arith, h, b m (omega arith))
    g_lt h i l (no e) = omega (arith, e, b i (omega arith))

    g_ne : (i : ℕ) → i < m → (j : ℕ) → j < i → (x : Dec (f i ≡ n)) (y : Dec (f j ≡ n)) → g j y ≢ g i x
    g_ne i l j k (yes e) (yes q) = λ z. d i (omega arith) j k (q ∙ sym e)
    g_ne i l j k (yes e) (no q) = d m (omega arith) j (omega arith)
    g_ne i l j k (no e) (yes q) = λ z. d m (omega arith) i l (sym z)
    g_ne i l j k (no e) (no q) = d i (omega arith) j k

    go : ((h : ℕ → ℕ) → ((i : ℕ) → i < m → h i < n) → ((i : ℕ) → i < m → (j : ℕ) → j < i → h j ≢ h i) → m ≤ n) → Dec (f m ≡ n) → suc m ≤ suc n
    go fewer (yes e) = let h = fewer f (λ i l. low i l) (λ i l. d i (omega arith)) in omega arith
      where
        low : (i : ℕ) → i < m → f i < n
        low i l = let x : f i ≢ n = λ z. d m (omega arith) i l (z ∙ sym e) in omega (arith, b i (omega arith))
    go fewer (no e) =
        let h = fewer (λ i. g i (ℕ_discrete (f i) n)) (λ i l. g_lt e i l (ℕ_discrete (f i) n)) (λ i l j k. g_ne i l j k (ℕ_discrete (f i) n) (ℕ_discrete (f j) n)) in
        omega arith

-- ---- the rows of a fragment alone tell the stand-ins
same_ins : (F : Fragment) (k : ℕ) → stand_ins (rows_of (bare F.rows)) k ≡ stand_ins (rows_of F) k
unfolding stand_ins
same_ins F zero = refl
same_ins F (suc k) = ap (λ l. cond (eqb (num F k 1) 1) (l ++ (num F k 2 ∷ [])) l) (same_ins F k)

pub row_ins_lem : (F : Fragment) → 1 ≤ row_count F → row_ins F.rows ≡ stand_ins (rows_of F) (suc (rows_of F).last)
unfolding row_ins
row_ins_lem F h = let e : suc (row_count F - 1) ≡ row_count F = omega arith in rw e (same_ins F (row_count F))

-- ---- a sound fragment
module _ (number : ℕ) (F : Fragment) (sound : Sound number F) where
  -- the row of the stand-in at a position
  record Row (k g : ℕ) : Type 0 where
    row : ℕ
    early : row < k
    kind : num F row 1 ≡ 1
    goes : num F row 2 ≡ g

  row_of : (k i : ℕ) → i < length (stand_ins (rows_of F) k) → Row k (get_or (stand_ins (rows_of F) k) i 0)
  unfolding stand_ins
  row_of zero i l = absurd (omega arith)
  row_of (suc k) i l = go (eqb (num F k 1) 1) refl (row_of k) i l
    where
      L : List ℕ
      L = stand_ins (rows_of F) k

      wide : {g : ℕ} → Row k g → Row (suc k) g
      wide r = record { row = r.row; early = omega (arith, r.early); kind = r.kind; goes = r.goes }

      go : (b : Bool) → eqb (num F k 1) 1 ≡ b → ((i : ℕ) → i < length L → Row k (get_or L i 0)) → (i : ℕ) → i < length (cond b (L ++ (num F k 2 ∷ [])) L) → Row (suc k) (get_or (cond b (L ++ (num F k 2 ∷ [])) L) i 0)
      go false e h i l = wide (h i l)
      go true e h i l =
          up_to_suc (λ i. Row (suc k) (get_or (L ++ (num F k 2 ∷ [])) i 0)) (length L)
          (λ i x. subst (Row (suc k)) (sym (get_or-append L (num F k 2 ∷ []) 0 i x)) (wide (h i x)))
          (record { row = k; early = omega arith; kind = eqb-true (num F k 1) 1 e; goes = sym (get_or_at L (num F k 2) [] 0 (length L) refl) })
          i (omega (arith, length-append L (num F k 2 ∷ [])))

  rule_of : {k g : ℕ} → k ≤ row_count F → (r : Row k g) → StandIn number F r.row
  rule_of h r = stand_in number F r.row (sound.each r.row (omega (arith, r.early))) r.kind

  -- they exceed the fragment's number, and are at most 31
  pub ins_fit : (i : ℕ) → i < length (stand_ins (rows_of F) (row_count F)) → (number < get_or (stand_ins (rows_of F) (row_count F)) i 0) × (get_or (stand_ins (rows_of F) (row_count F)) i 0 < 32)
  ins_fit i l =
      let r = row_of (row_count F) i l in
      let s = rule_of (omega arith) r in
      (omega (arith, s.above, r.goes), omega (arith, s.most, r.goes))

  differ : (k : ℕ) → k ≤ row_count F → (i : ℕ) → i < length (stand_ins (rows_of F) k) → (j : ℕ) → j < i → get_or (stand_ins (rows_of F) k) j 0 ≢ get_or (stand_ins (rows_of F) k) i 0
  unfolding stand_ins
  differ zero h i l = absurd (omega arith)
  differ (suc k) h i l = go (eqb (num F k 1) 1) refl (differ k (omega arith)) i l
    where
      L : List ℕ
      L = stand_ins (rows_of F) k

      go : (b : Bool) → eqb (num F k 1) 1 ≡ b → ((i : ℕ) → i < length L → (j : ℕ) → j < i → get_or L j 0 ≢ get_or L i 0)
          → (i : ℕ) → i < length (cond b (L ++ (num F k 2 ∷ [])) L) → (j : ℕ) → j < i → get_or (cond b (L ++ (num F k 2 ∷ [])) L) j 0 ≢ get_or (cond b (L ++ (num F k 2 ∷ [])) L) i 0
      go false e x i l = x i l
      go true e x i l =
          up_to_suc (λ i. (j : ℕ) → j < i → get_or (L ++ (num F k 2 ∷ [])) j 0 ≢ get_or (L ++ (num F k 2 ∷ [])) i 0) (length L)
          (λ i y j d. rw (get_or-append L (num F k 2 ∷ []) 0 i y, get_or-append L (num F k 2 ∷ []) 0 j (omega arith)) (x i y j d))
          (λ j d. rw (get_or_at L (num F k 2) [] 0 (length L) refl, get_or-append L (num F k 2 ∷ []) 0 j d) (last j d))
          i (omega (arith, length-append L (num F k 2 ∷ [])))
        where
          last : (j : ℕ) → j < length L → get_or L j 0 ≢ num F k 2
          last j d z =
              let r = row_of k j d in
              (stand_in number F k (sound.each k (omega arith)) (eqb-true (num F k 1) 1 e)).new r.row r.early r.kind (r.goes ∙ z)

  pub ins_differ : (i : ℕ) → i < length (stand_ins (rows_of F) (row_count F)) → (j : ℕ) → j < i → get_or (stand_ins (rows_of F) (row_count F)) j 0 ≢ get_or (stand_ins (rows_of F) (row_count F)) i 0
  ins_differ = differ (row_count F) (omega arith)

  -- there are at most 31
  pub few_ins : length (stand_ins (rows_of F) (row_count F)) < 32
  few_ins =
      let h = pigeons 31 (length (stand_ins (rows_of F) (row_count F))) (λ i. get_or (stand_ins (rows_of F) (row_count F)) i 0 - 1) (λ i l. omega (arith, ins_fit i l)) (λ i l j d z. ins_differ i l j d (omega (arith, ins_fit i l, ins_fit j (omega arith)))) in
      omega arith

  -- what `reply_write` asks of the rows
  pub front_in : (entries steps : ℕ) → 0 < entries → entries ≤ 32 → steps ≤ 4096 → FrontIn number entries steps F.rows
  unfolding row_ins
  front_in entries steps he hm hs = record {
    fragment_fits = omega (arith, sound.number_most);
    some_entry = he;
    few_entries = hm;
    few_steps = hs;
    few_ins = rw (same_ins F (row_count F)) few_ins;
    ins_fit = λ k l e. omega (arith, (stand_in number F k (sound.each k l) e).most);
  }
