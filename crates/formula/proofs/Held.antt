-- THE STEPS IN MEMORY, and joining as the formula does, until there are over 4,096.
use Prim.Native.Nat.{ℕ, zero, suc, ◌+◌, ◌*◌, ◌<◌, ◌≤◌}
use native.Mathlib.Numerals.{add-one, add-two, add-three}
use native.Mathlib.Nat.{add_assoc}
use native.Mathlib.Omega.{arith}
use mathlib.Core.Path.{◌≡◌, refl, sym, ap, ◌∙◌}
use mathlib.Core.Bool.{Bool, true, false, cond}
use mathlib.Core.Option.{Option, none, some}
use mathlib.Core.List.{List, [], ◌∷◌, ◌++◌, append_assoc, append-nil}
use lib.ListN.{length, get_or, set, take, drop, length-set, length-drop, length-append}
use lib.Seq.{get_or-set_other, drop-set-add}
use lib.Dec.{ltb}
use borrow.Author.Tests.{ltb-true, ltb-false, eq-eqb, ne_eqb}
use Rattle.meaning.specs.Formula.{Ref, Step, constant, negated}
use Rattle.meaning.proofs.Formula.{join_of, join}
use Rattle.writing.specs.inner.Codes.{code, step_numbers, numbers}
use Rattle.formula.specs.inner.Flat.{Got, got, step_at, add_f, join_f, not_f}

-- the memory has the steps s
pub record Held (size : ℕ) (m : List ℕ) (s : List Step) : Type 0 where
  pub room : 4 * size + 12288 ≤ length m
  pub steps : take (3 * length s) (drop (4 * size) m) ≡ numbers s

-- n counts the steps s, and P holds unless there are over 4,096
pub data Sim (n : ℕ) (s : List Step) (P : Type 0) : Type 0 where
  live : n ≡ length s → length s ≤ 4096 → P → Sim n s P
  over : n ≡ 4097 → 4096 < length s → Sim n s P

pub after : {n n' : ℕ} {s s' : List Step} {P Q : Type 0} → Sim n s P → (n ≡ length s → length s ≤ 4096 → P → Sim n' s' Q) → (n ≡ 4097 → n' ≡ 4097) → length s ≤ length s' → Sim n' s' Q
after (live a b p) f g h = f a b p
after (over a b) f g h = over (g a) (omega arith)

pub mapped : {n : ℕ} {s : List Step} {P Q : Type 0} → (P → Q) → Sim n s P → Sim n s Q
mapped f (live a b p) = live a b (f p)
mapped f (over a b) = over a b

-- what g gives: the reference r after the steps s, and every number before the steps as it was in m
pub record Gave (size : ℕ) (m : List ℕ) (g : Got) (s : List Step) (r : Ref) : Type 0 where
  pub held : Held size g.mem s
  pub coded : g.code ≡ code r
  pub same : (i : ℕ) → i < 4 * size → get_or g.mem i 0 ≡ get_or m i 0

-- A STEP MORE
step_drop : (m : List ℕ) (b i op x y : ℕ) → drop b (step_at m (b + i) op x y) ≡ step_at (drop b m) i op x y
step_drop m b i op x y = simp (add_assoc, drop-set-add)

step_take_suc : (l : List ℕ) (i op x y : ℕ) → suc (suc i) < length l → take (suc (suc (suc i))) (set (set (set l i op) (suc i) x) (suc (suc i)) y) ≡ take i l ++ (op ∷ x ∷ y ∷ [])
step_take_suc [] i op x y h = absurd (omega arith)
step_take_suc (p ∷ []) i op x y h = absurd (omega arith)
step_take_suc (p ∷ q ∷ []) i op x y h = absurd (omega arith)
step_take_suc (p ∷ q ∷ s ∷ l) zero op x y h = refl
step_take_suc (p ∷ q ∷ s ∷ l) (suc i) op x y h = ap (λ (t : List ℕ). p ∷ t) (step_take_suc (q ∷ s ∷ l) i op x y (omega arith))

step_take : (l : List ℕ) (i op x y : ℕ) → i + 2 < length l → take (i + 3) (step_at l i op x y) ≡ take i l ++ (op ∷ x ∷ y ∷ [])
step_take l i op x y h = rw (add-one, add-two, add-three) (step_take_suc l i op x y (omega arith))

numbers_more : (s : List Step) (x : Step) → numbers (s ++ (x ∷ [])) ≡ numbers s ++ step_numbers x
unfolding numbers
numbers_more [] x = append-nil (step_numbers x)
numbers_more (y ∷ s) x = ap (λ t. step_numbers y ++ t) (numbers_more s x) ∙ sym (append_assoc (step_numbers y) (numbers s) (step_numbers x))

-- other numbers are as they were
other : (l : List ℕ) (i j v : ℕ) → j < i → get_or (set l i v) j 0 ≡ get_or l j 0
other l i j v h = get_or-set_other l i j v 0 (omega arith)

step_other : (m : List ℕ) (i j op x y : ℕ) → j < i → get_or (step_at m i op x y) j 0 ≡ get_or m j 0
step_other m i j op x y h =
    other (set (set m i op) (i + 1) x) (i + 2) j y (omega arith) ∙ other (set m i op) (i + 1) j x (omega arith) ∙ other m i j op h

module _ (size : ℕ) (m : List ℕ) (n : ℕ) (s : List Step) (counts : n ≡ length s) (most : length s ≤ 4096) (h : Held size m s) where
  -- nothing but a reference
  pub keep : (r : Ref) {c : ℕ} → c ≡ code r → Sim n s (Gave size m (got m n c) s r)
  keep r e = live counts most (record { held = h; coded = e; same = λ i k. refl })

  module _ (x : Step) (op a b : ℕ) (is : step_numbers x ≡ op ∷ a ∷ b ∷ []) where
    longer : length (s ++ (x ∷ [])) ≡ n + 1
    longer = rw length-append (omega arith)

    held_more : n < 4096 → Held size (step_at m (4 * size + 3 * n) op a b) (s ++ (x ∷ []))
    held_more k = record {
      room = simp length-set h.room;
      steps = (λ i. take (size' i) (step_drop m (4 * size) (3 * n) op a b i))
          ∙ step_take (drop (4 * size) m) (3 * n) op a b (simp length-drop (omega (arith, h.room)))
          ∙ ap (λ (t : List ℕ). t ++ (op ∷ a ∷ b ∷ [])) (ap (λ k. take (3 * k) (drop (4 * size) m)) counts ∙ h.steps)
          ∙ ap (λ t. numbers s ++ t) (sym is)
          ∙ sym (numbers_more s x);
    }
      where
        size' : 3 * length (s ++ (x ∷ [])) ≡ 3 * n + 3
        size' = omega (arith, longer)

    pub add_sim : Sim (add_f size op a b m n).steps (s ++ (x ∷ [])) (Gave size m (add_f size op a b m n) (s ++ (x ∷ [])) (Ref.step (length s)))
    unfolding add_f
    add_sim = go (ltb n 4096) refl
      where
        g : Bool → Got
        g q = cond q (got (step_at m (4 * size + 3 * n) op a b) (n + 1) (12288 + n)) (got m 4097 0)

        go : (q : Bool) → ltb n 4096 ≡ q → Sim (g q).steps (s ++ (x ∷ [])) (Gave size m (g q) (s ++ (x ∷ [])) (Ref.step (length s)))
        go true q = live (sym longer) (omega (arith, longer, ltb-true n 4096 q)) (record {
          held = held_more (ltb-true n 4096 q);
          coded = ap (λ k. 12288 + k) counts;
          same = λ i k. step_other m (4 * size + 3 * n) i op a b (omega arith);
        })
        go false q = over refl (omega (arith, longer, ltb-false n 4096 q))

-- JOINING
pub data View (c : ℕ) : Option Bool → Type 0 where
  low : c ≡ 0 → View c (some false)
  high : c ≡ 4096 → View c (some true)
  free : (c ≡ 0 → ⊥) → (c ≡ 4096 → ⊥) → View c none

pub view : (r : Ref) → View (code r) (constant r)
view Ref.low = low refl
view Ref.high = high refl
view (Ref.var x) = free (λ e. omega arith) (λ e. omega arith)
view (Ref.step i) = free (λ e. omega arith) (λ e. omega arith)

-- or and and
abbrev pub op_of : Bool → ℕ
op_of true = 1
op_of false = 0

module _ (size : ℕ) (m : List ℕ) (n : ℕ) (s : List Step) (counts : n ≡ length s) (most : length s ≤ 4096) (h : Held size m s) where
  join_at : (z : Bool) (a b : Ref) (o p : Option Bool) → View (code a) o → View (code b) p
      → Sim (join_f size (op_of z) (code a) (code b) m n).steps (join_of z s a b o p).0 (Gave size m (join_f size (op_of z) (code a) (code b) m n) (join_of z s a b o p).0 (join_of z s a b o p).1)
  unfolding join_f
  join_at true a b _ p (high e) w = simp (eq-eqb (code a) 4096 e) (keep size m n s counts most h a refl)
  join_at true a b _ p (low e) w = simp (ne_eqb (code a) 4096 (λ q. omega arith), eq-eqb (code a) 0 e) (keep size m n s counts most h b refl)
  join_at true a b _ _ (free x y) (high e) = simp (ne_eqb (code a) 4096 y, ne_eqb (code a) 0 x, eq-eqb (code b) 4096 e) (keep size m n s counts most h b refl)
  join_at true a b _ _ (free x y) (low e) = simp (ne_eqb (code a) 4096 y, ne_eqb (code a) 0 x, ne_eqb (code b) 4096 (λ q. omega arith), eq-eqb (code b) 0 e) (keep size m n s counts most h a refl)
  join_at true a b _ _ (free x y) (free x' y') = simp (ne_eqb (code a) 4096 y, ne_eqb (code a) 0 x, ne_eqb (code b) 4096 y', ne_eqb (code b) 0 x') (add_sim size m n s counts most h (Step.or a b) 1 (code a) (code b) refl)
  join_at false a b _ p (high e) w = simp (ne_eqb (code a) 0 (λ q. omega arith), eq-eqb (code a) 4096 e) (keep size m n s counts most h b refl)
  join_at false a b _ p (low e) w = simp (eq-eqb (code a) 0 e) (keep size m n s counts most h a refl)
  join_at false a b _ _ (free x y) (high e) = simp (ne_eqb (code a) 4096 y, ne_eqb (code a) 0 x, ne_eqb (code b) 0 (λ q. omega arith), eq-eqb (code b) 4096 e) (keep size m n s counts most h a refl)
  join_at false a b _ _ (free x y) (low e) = simp (ne_eqb (code a) 4096 y, ne_eqb (code a) 0 x, eq-eqb (code b) 0 e) (keep size m n s counts most h b refl)
  join_at false a b _ _ (free x y) (free x' y') = simp (ne_eqb (code a) 4096 y, ne_eqb (code a) 0 x, ne_eqb (code b) 4096 y', ne_eqb (code b) 0 x') (add_sim size m n s counts most h (Step.and a b) 0 (code a) (code b) refl)

  pub join_sim : (z : Bool) (a b : Ref) {x y : ℕ} → x ≡ code a → y ≡ code b
      → Sim (join_f size (op_of z) x y m n).steps (join z s a b).0 (Gave size m (join_f size (op_of z) x y m n) (join z s a b).0 (join z s a b).1)
  join_sim z a b p q = rw (p, q) (join_at z a b (constant a) (constant b) (view a) (view b))

  not_at : (a : Ref) → Sim (not_f size (code a) m n).steps (negated s a).0 (Gave size m (not_f size (code a) m n) (negated s a).0 (negated s a).1)
  unfolding not_f
  not_at Ref.low = keep size m n s counts most h Ref.high refl
  not_at Ref.high = keep size m n s counts most h Ref.low refl
  not_at (Ref.var i) = simp (ne_eqb (8192 + i) 0 (λ q. omega arith), ne_eqb (8192 + i) 4096 (λ q. omega arith)) (add_sim size m n s counts most h (Step.not (Ref.var i)) 2 (8192 + i) 0 refl)
  not_at (Ref.step i) = simp (ne_eqb (12288 + i) 0 (λ q. omega arith), ne_eqb (12288 + i) 4096 (λ q. omega arith)) (add_sim size m n s counts most h (Step.not (Ref.step i)) 2 (12288 + i) 0 refl)

  pub not_sim : (a : Ref) {x : ℕ} → x ≡ code a → Sim (not_f size x m n).steps (negated s a).0 (Gave size m (not_f size x m n) (negated s a).0 (negated s a).1)
  not_sim a p = rw p (not_at a)
