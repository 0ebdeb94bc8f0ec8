-- Lists of a function's values, and runs of bits of one width.
use Prim.Native.Nat.{ℕ, zero, suc, ◌+◌, ◌*◌, ◌≤◌, ◌<◌}
use native.Mathlib.Nat.{suc_inj, eq-or-lt_of_le, le_of_suc-le-suc, mul-zero, mul-suc, add-zero, add-suc, suc-add, zero-add}
use native.Mathlib.Omega.{arith}
use mathlib.Core.Path.{◌≡◌, refl, sym, ap, ◌∙◌, subst}
use mathlib.Core.Logic.{⊎_elim}
use mathlib.Core.Bool.{Bool}
use mathlib.Core.List.{List, [], ◌∷◌, ◌++◌, append_assoc, append-nil}
use lib.ListN.{length, get_or, length-append}
use lib.Seq.{ext_get_or}
use Rattle.bits.specs.inner.Stand.{BitsStand}
use Rattle.bits.proofs.Laws.{stand_none, stand_append, stand_split}
use Rattle.meaning.specs.Reply.{tabulated}
use Rattle.meaning.proofs.Reply.{tabulated_at}
use Rattle.reply.specs.Write.{each}

-- every number up to n, by the last one
pub up_to_suc : (P : ℕ → Type 0) (n : ℕ) → ((i : ℕ) → i < n → P i) → P n → (i : ℕ) → i < suc n → P i
up_to_suc P n h p i l = ⊎_elim (λ e. subst P (sym (suc_inj e)) p) (λ m. h i (le_of_suc-le-suc m)) (eq-or-lt_of_le l)

module _ {A : Type 0} where
  pub tab_length : (n k : ℕ) (f : ℕ → A) → length (tabulated n k f) ≡ n
  unfolding tabulated
  tab_length zero k f = refl
  tab_length (suc n) k f = ap suc (tab_length n (suc k) f)

  tab_more : (n k : ℕ) (f : ℕ → A) → tabulated (suc n) k f ≡ tabulated n k f ++ (f (n + k) ∷ [])
  unfolding tabulated
  tab_more zero k f = ap (λ j. f j ∷ []) (sym (zero-add k))
  tab_more (suc n) k f = ap (λ l. f k ∷ l) (tab_more n (suc k) f ∙ ap (λ j. tabulated n (suc k) f ++ (f j ∷ [])) (add-suc n k ∙ sym (suc-add n k)))

  pub tab_snoc : (n : ℕ) (f : ℕ → A) → tabulated (suc n) 0 f ≡ tabulated n 0 f ++ (f n ∷ [])
  tab_snoc n f = tab_more n 0 f ∙ ap (λ j. tabulated n 0 f ++ (f j ∷ [])) (add-zero n)

  pub tab_at : (n i : ℕ) (f : ℕ → A) (d : A) → i < n → get_or (tabulated n 0 f) i d ≡ f i
  tab_at n i f d h = tabulated_at n 0 i f d h ∙ ap f (add-zero i)

  pub tab_is : (f : ℕ → A) (d : A) (xs : List A) (n : ℕ) → length xs ≡ n → ((i : ℕ) → i < n → get_or xs i d ≡ f i) → xs ≡ tabulated n 0 f
  tab_is f d xs n e h = ext_get_or d xs (tabulated n 0 f) (e ∙ sym (tab_length n 0 f)) (λ i l. h i (omega arith) ∙ sym (tab_at n i f d (omega arith)))

  pub tab_same : (n : ℕ) (f g : ℕ → A) (d : A) → ((i : ℕ) → i < n → f i ≡ g i) → tabulated n 0 f ≡ tabulated n 0 g
  tab_same n f g d h = tab_is g d (tabulated n 0 f) n (tab_length n 0 f) (λ i l. tab_at n i f d l ∙ h i l)

  module _ (W : ℕ) (f : A → List Bool) (wide : (x : A) → length (f x) ≡ W) where
    pub each_length : (xs : List A) → length (each f xs) ≡ W * length xs
    unfolding each
    each_length [] = sym (mul-zero W)
    each_length (x ∷ xs) = rw (length-append, wide x, each_length xs, mul-suc) (omega arith)

    -- each one at its place, from the run
    pub each_at : (s : List ℕ) (d : A) (xs : List A) (a b : ℕ) → BitsStand s a b (each f xs) → (i : ℕ) → i < length xs
        → BitsStand s (a + W * i) (a + W * i + W) (f (get_or xs i d))
    unfolding each
    each_at s d [] a b h i l = absurd (omega arith)
    each_at s d (x ∷ xs) a b h zero l =
        let z : a + W * zero ≡ a = rw mul-zero (omega arith) in
        rw z (stand_split (a + W) (f x) (each f xs) (rw wide refl) h).0
    each_at s d (x ∷ xs) a b h (suc i) l =
        let z : a + W * suc i ≡ a + W + W * i = rw mul-suc (omega arith) in
        rw z (each_at s d xs (a + W) b (stand_split (a + W) (f x) (each f xs) (rw wide refl) h).1 i (omega arith))

  pub each_append : (f : A → List Bool) (xs ys : List A) → each f (xs ++ ys) ≡ each f xs ++ each f ys
  unfolding each
  each_append f [] ys = refl
  each_append f (x ∷ xs) ys = rw (each_append f xs ys, append_assoc) refl

  pub each_snoc : (f : A → List Bool) (xs : List A) (x : A) → each f (xs ++ (x ∷ [])) ≡ each f xs ++ f x
  unfolding each
  each_snoc f xs x = each_append f xs (x ∷ []) ∙ rw append-nil refl

  pub each_none : (f : A → List Bool) (g : ℕ → A) → each f (tabulated 0 0 g) ≡ []
  unfolding each tabulated
  each_none f g = refl

  -- one more
  pub each_more : (f : A → List Bool) (g : ℕ → A) (n : ℕ) → each f (tabulated (suc n) 0 g) ≡ each f (tabulated n 0 g) ++ f (g n)
  each_more f g n = rw (tab_snoc n g) (each_snoc f (tabulated n 0 g) (g n))

  -- the run, from each one at its place
  pub at_each : (W : ℕ) (f : A → List Bool) (s : List ℕ) (g : ℕ → A) (n a : ℕ) → a + W * n ≤ 8 * length s → ((i : ℕ) → i < n → BitsStand s (a + W * i) (a + W * i + W) (f (g i)))
      → BitsStand s a (a + W * n) (each f (tabulated n 0 g))
  at_each W f s g zero a r h =
      let z : a + W * zero ≡ a = rw mul-zero (omega arith) in
      rw (z, each_none f g) (stand_none s a (rw z at r))
  at_each W f s g (suc n) a r h =
      let z : a + W * suc n ≡ a + W * n + W = rw mul-suc (omega arith) in
      rw (z, each_more f g n) (stand_append (at_each W f s g n a (omega arith) (λ i l. h i (omega arith))) (h n (omega arith)))
