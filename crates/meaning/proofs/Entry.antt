-- The reader's list: its last entry is the question, and each entry points only at earlier ones. What any list means, computed.
use Prim.Native.Nat.{ℕ, suc, ◌+◌, ◌<◌}
use native.Mathlib.Omega.{arith}
use native.Mathlib.Nat.{zero-add, suc-add, add-suc}
use mathlib.Core.Path.{◌≡◌, refl, sym, ap, ap₂, ◌∙◌, subst}
use mathlib.Core.Bool.{Bool, true, not, ◌&&◌, ◌||◌}
use mathlib.Core.List.{List, [], ◌∷◌, ◌++◌, append_assoc}
use lib.ListN.{length, get_or, length-append, get_or-append}
use lib.Seq.{get_or_at, get_or-append_seam}
use Rattle.meaning.specs.Says.{Says}
use Rattle.meaning.specs.Bytes.{Bytes}
use Rattle.meaning.specs.Tree.{Tree}
use Rattle.meaning.specs.Term.{Term, normal}
use Rattle.meaning.specs.Entry.{Entry, root, flat, filled, terms, term, Points, Earlier, EntryHolds}
use Rattle.meaning.specs.Promise.{ReadersList, LastEntry}
use Rattle.meaning.proofs.Says.{some}
use Rattle.meaning.proofs.Tree.{Finite, deep}
use Rattle.meaning.proofs.Term.{val, val_says, holds_normal}

pub length_snoc : {A : Type 0} (l : List A) (e : A) → length (l ++ (e ∷ [])) ≡ suc (length l)
length_snoc l e = rw length-append (omega arith)

-- TERMS OF A LIST
module _ {W : Type 0} where
  terms_append : (ts : List (Term W)) (l m : List (Entry W)) → terms ts (l ++ m) ≡ terms (terms ts l) m
  unfolding terms
  terms_append ts [] m = refl
  terms_append ts (e ∷ l) m = terms_append (ts ++ (filled ts e ∷ [])) l m

  pub terms_keeps : (ts : List (Term W)) (l : List (Entry W)) (i : ℕ) → i < length ts → get_or (terms ts l) i Term.self ≡ get_or ts i Term.self
  unfolding terms
  terms_keeps ts [] i h = refl
  terms_keeps ts (e ∷ l) i h = terms_keeps (ts ++ (filled ts e ∷ [])) l i (rw length_snoc (omega arith)) ∙ get_or-append ts (filled ts e ∷ []) Term.self i h

  -- the entries l, put behind entries of the terms ts, end in an entry of number r that is the term t
  record Adds (ts : List (Term W)) (l : List (Entry W)) (r : ℕ) (t : Term W) : Type 0 where
    size : length (terms ts l) ≡ suc r
    last : get_or (terms ts l) r Term.self ≡ t

  adds_end : (ts : List (Term W)) (l : List (Entry W)) (r : ℕ) (e : Entry W) (t : Term W) → length (terms ts l) ≡ r → filled (terms ts l) e ≡ t → Adds ts (l ++ (e ∷ [])) r t
  unfolding terms
  adds_end ts l r e t n h = record { size = ap length whole ∙ length_snoc (terms ts l) t ∙ ap suc n; last = ap (λ fs. get_or fs r Term.self) whole ∙ get_or_at (terms ts l) t [] Term.self r n }
    where
      whole : terms ts (l ++ (e ∷ [])) ≡ terms ts l ++ (t ∷ [])
      whole = terms_append ts l (e ∷ []) ∙ ap (λ x. terms ts l ++ (x ∷ [])) h

  adds_one : (k : ℕ → Entry W) (c : Term W → Term W) → ((ts : List (Term W)) (i : ℕ) → filled ts (k i) ≡ c (get_or ts i Term.self))
      → (ts : List (Term W)) (l : List (Entry W)) (r : ℕ) (t : Term W) → Adds ts l r t → Adds ts (l ++ (k r ∷ [])) (suc r) (c t)
  adds_one k c is ts l r t a = adds_end ts l (suc r) (k r) (c t) a.size (is (terms ts l) r ∙ ap c a.last)

  adds_two : (k : ℕ → ℕ → Entry W) (c : Term W → Term W → Term W) → ((ts : List (Term W)) (i j : ℕ) → filled ts (k i j) ≡ c (get_or ts i Term.self) (get_or ts j Term.self))
      → (ts : List (Term W)) (l m : List (Entry W)) (r s : ℕ) (t u : Term W) → Adds ts l r t → Adds (terms ts l) m s u → Adds ts (l ++ (m ++ (k r s ∷ []))) (suc s) (c t u)
  adds_two k c is ts l m r s t u a b = subst (λ x. Adds ts x (suc s) (c t u)) (append_assoc l m (k r s ∷ [])) (adds_end ts (l ++ m) (suc s) (k r s) (c t u) (ap length both ∙ b.size)
      (is (terms ts (l ++ m)) r s ∙ ap₂ c (ap (λ fs. get_or fs r Term.self) both ∙ terms_keeps (terms ts l) m r (omega (arith, a.size)) ∙ a.last) (ap (λ fs. get_or fs s Term.self) both ∙ b.last)))
    where
      both : terms ts (l ++ m) ≡ terms (terms ts l) m
      both = terms_append ts l m

  flat_adds : (t : Term W) (n : ℕ) (ts : List (Term W)) → length ts ≡ n → Adds ts (flat n t) (root n t) t
  unfolding flat root
  flat_adds Term.self n ts e = adds_end ts [] n Entry.self Term.self (unfold terms in e) refl
  flat_adds (Term.label w) n ts e = adds_end ts [] n (Entry.label w) (Term.label w) (unfold terms in e) refl
  flat_adds (Term.text w) n ts e = adds_end ts [] n (Entry.text w) (Term.text w) (unfold terms in e) refl
  flat_adds (Term.child q) n ts e = adds_one Entry.child Term.child (λ fs i. refl) ts (flat n q) (root n q) q (flat_adds q n ts e)
  flat_adds (Term.at p q) n ts e =
      let a = flat_adds p n ts e in
      adds_two Entry.at Term.at (λ fs i j. refl) ts (flat n p) (flat (suc (root n p)) q) (root n p) (root (suc (root n p)) q) p q a (flat_adds q (suc (root n p)) (terms ts (flat n p)) a.size)
  flat_adds (Term.lower q) n ts e = adds_one Entry.lower Term.lower (λ fs i. refl) ts (flat n q) (root n q) q (flat_adds q n ts e)
  flat_adds (Term.or p q) n ts e =
      let a = flat_adds p n ts e in
      adds_two Entry.or Term.or (λ fs i j. refl) ts (flat n p) (flat (suc (root n p)) q) (root n p) (root (suc (root n p)) q) p q a (flat_adds q (suc (root n p)) (terms ts (flat n p)) a.size)
  flat_adds (Term.and p q) n ts e =
      let a = flat_adds p n ts e in
      adds_two Entry.and Term.and (λ fs i j. refl) ts (flat n p) (flat (suc (root n p)) q) (root n p) (root (suc (root n p)) q) p q a (flat_adds q (suc (root n p)) (terms ts (flat n p)) a.size)
  flat_adds (Term.not q) n ts e = adds_one Entry.not Term.not (λ fs i. refl) ts (flat n q) (root n q) q (flat_adds q n ts e)

  -- A LIST'S LAST ENTRY IS THE TERM that it was made of
  pub flat_last : (t : Term W) → term (flat 0 t) (root 0 t) ≡ t
  flat_last t = (flat_adds t 0 [] refl).last

-- EACH ENTRY POINTS ONLY AT EARLIER ONES
module _ {W : Type 0} where
  record Fits (n : ℕ) (l : List (Entry W)) (r : ℕ) : Type 0 where
    size : length l + n ≡ suc r
    earlier : Earlier n l

  earlier_append : (n : ℕ) (l m : List (Entry W)) → Earlier n l → Earlier (length l + n) m → Earlier n (l ++ m)
  earlier_append n [] m h k = rw zero-add at k
  earlier_append n (e ∷ l) m h k = (h.0, earlier_append (suc n) l m h.1 (rw (suc-add, ← add-suc) at k))

  fits_end : (n : ℕ) (l : List (Entry W)) (r : ℕ) (e : Entry W) → Fits n l r → Points (λ w. Unit {0}) (suc r) e → Fits n (l ++ (e ∷ [])) (suc r)
  fits_end n l r e f p = record { size = rw length_snoc (omega (arith, f.size)); earlier = earlier_append n l (e ∷ []) f.earlier (subst (λ m. Points (λ w. Unit {0}) m e) (sym f.size) p, tt) }

  fits_two : (n : ℕ) (l m : List (Entry W)) (r s : ℕ) (e : Entry W) → Fits n l r → Fits (suc r) m s → (r < suc s → Points (λ w. Unit {0}) (suc s) e) → Fits n (l ++ (m ++ (e ∷ []))) (suc s)
  fits_two n l m r s e f g p = record {
    size = rw length-append (omega (arith, f.size, h.size));
    earlier = earlier_append n l (m ++ (e ∷ [])) f.earlier (subst (λ k. Earlier k (m ++ (e ∷ []))) (sym f.size) h.earlier);
  }
    where
      h : Fits (suc r) (m ++ (e ∷ [])) (suc s)
      h = fits_end (suc r) m s e g (p (omega (arith, g.size)))

  flat_fits : (t : Term W) (n : ℕ) → Fits n (flat n t) (root n t)
  unfolding flat root
  flat_fits Term.self n = record { size = omega arith; earlier = (tt, tt) }
  flat_fits (Term.label w) n = record { size = omega arith; earlier = (tt, tt) }
  flat_fits (Term.text w) n = record { size = omega arith; earlier = (tt, tt) }
  flat_fits (Term.child q) n = fits_end n (flat n q) (root n q) (Entry.child (root n q)) (flat_fits q n) (omega arith)
  flat_fits (Term.at p q) n = fits_two n (flat n p) (flat (suc (root n p)) q) (root n p) (root (suc (root n p)) q) (Entry.at (root n p) (root (suc (root n p)) q)) (flat_fits p n) (flat_fits q (suc (root n p))) (λ h. (h, omega arith))
  flat_fits (Term.lower q) n = fits_end n (flat n q) (root n q) (Entry.lower (root n q)) (flat_fits q n) (omega arith)
  flat_fits (Term.or p q) n = fits_two n (flat n p) (flat (suc (root n p)) q) (root n p) (root (suc (root n p)) q) (Entry.or (root n p) (root (suc (root n p)) q)) (flat_fits p n) (flat_fits q (suc (root n p))) (λ h. (h, omega arith))
  flat_fits (Term.and p q) n = fits_two n (flat n p) (flat (suc (root n p)) q) (root n p) (root (suc (root n p)) q) (Entry.and (root n p) (root (suc (root n p)) q)) (flat_fits p n) (flat_fits q (suc (root n p))) (λ h. (h, omega arith))
  flat_fits (Term.not q) n = fits_end n (flat n q) (root n q) (Entry.not (root n q)) (flat_fits q n) (omega arith)

  pub flat_length : (t : Term W) (n : ℕ) → length (flat n t) + n ≡ suc (root n t)
  flat_length t n = (flat_fits t n).size

  pub flat_earlier : (t : Term W) (n : ℕ) → Earlier n (flat n t)
  flat_earlier t n = (flat_fits t n).earlier

pub readers_list : ReadersList
readers_list q =
    let f = flat_fits (normal (λ a w. w) 0 q) 0 in
    (f.earlier, omega (arith, f.size))

-- THE LAST ENTRY HOLDS WHERE THE QUESTION DOES
pub last_entry : LastEntry
last_entry t q u = rw flat_last (holds_normal t q 0 u)

-- WHAT A LIST MEANS, COMPUTED: `ρ i u` is whether entry i holds at u, and each entry says what it is of the earlier ones
module _ {t : Tree} (fin : Finite t) where
  abbrev pub sem : Entry Bytes → (ℕ → t.N → Bool) → t.N → Bool
  sem Entry.self ρ u = true
  sem (Entry.label w) ρ u = t.label? w u
  sem (Entry.text w) ρ u = t.text? w u
  sem (Entry.child q) ρ u = some (ρ q) (fin.kids u)
  sem (Entry.at p q) ρ u = ρ p u && ρ q u
  sem (Entry.lower q) ρ u = deep fin (ρ q) u
  sem (Entry.or p q) ρ u = ρ p u || ρ q u
  sem (Entry.and p q) ρ u = ρ p u && ρ q u
  sem (Entry.not q) ρ u = not (ρ q u)

  abbrev pub Agrees : (ℕ → t.N → Bool) → ℕ → List (Entry Bytes) → Type 0
  Agrees ρ n [] = Unit {0}
  Agrees ρ n (e ∷ l) = (ρ n ≡ sem e ρ) × Agrees ρ (suc n) l

  abbrev pub mean : List (Entry Bytes) → ℕ → t.N → Bool
  mean l i = val fin (term l i)

  pub mean_says : (l : List (Entry Bytes)) (i : ℕ) (u : t.N) → Says (EntryHolds t l i u) (mean l i u)
  mean_says l i u = val_says fin (term l i) u

  -- the terms ts, seen as values
  abbrev values : List (Term Bytes) → ℕ → t.N → Bool
  values ts i = val fin (get_or ts i Term.self)

  filled_sem : (ts fs : List (Term Bytes)) (n : ℕ) → ((i : ℕ) → i < n → get_or ts i Term.self ≡ get_or fs i Term.self) → (e : Entry Bytes) → Points (λ w. Unit {0}) n e → val fin (filled ts e) ≡ sem e (values fs)
  unfolding val
  filled_sem ts fs n h Entry.self p = refl
  filled_sem ts fs n h (Entry.label w) p = refl
  filled_sem ts fs n h (Entry.text w) p = refl
  filled_sem ts fs n h (Entry.child q) p = ap (λ x. val fin (Term.child x)) (h q p)
  filled_sem ts fs n h (Entry.at a b) p = ap₂ (λ x y. val fin (Term.at x y)) (h a p.0) (h b p.1)
  filled_sem ts fs n h (Entry.lower q) p = ap (λ x. val fin (Term.lower x)) (h q p)
  filled_sem ts fs n h (Entry.or a b) p = ap₂ (λ x y. val fin (Term.or x y)) (h a p.0) (h b p.1)
  filled_sem ts fs n h (Entry.and a b) p = ap₂ (λ x y. val fin (Term.and x y)) (h a p.0) (h b p.1)
  filled_sem ts fs n h (Entry.not q) p = ap (λ x. val fin (Term.not x)) (h q p)

  terms_agree : (ts : List (Term Bytes)) (l : List (Entry Bytes)) → Earlier (length ts) l → Agrees (values (terms ts l)) (length ts) l
  unfolding terms
  terms_agree ts [] h = tt
  terms_agree ts (e ∷ l) h =
      let x : Term Bytes = filled ts e in (
        ap (val fin) (terms_keeps (ts ++ (x ∷ [])) l (length ts) (rw length_snoc (omega arith)) ∙ get_or-append_seam ts x [] Term.self) ∙ filled_sem ts (terms ts (e ∷ l)) (length ts) (λ i j. sym (terms_keeps ts (e ∷ l) i j)) e h.0,
        rw length_snoc at (terms_agree (ts ++ (x ∷ [])) l (rw length_snoc h.1)),
      )

  pub mean_agrees : (l : List (Entry Bytes)) → Earlier 0 l → Agrees (mean l) 0 l
  mean_agrees l h = terms_agree [] l h
