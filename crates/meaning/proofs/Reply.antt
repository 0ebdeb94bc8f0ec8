-- The stand-ins of a fragment, by position; and the list of a function's values.
use Prim.Native.Nat.{ℕ, zero, suc, ◌+◌, ◌-◌, ◌<◌}
use native.Mathlib.Omega.{arith}
use native.Mathlib.Nat.{zero-add, suc-add, add-suc}
use mathlib.Core.Path.{◌≡◌, refl, sym, ap, ◌∙◌, subst}
use mathlib.Core.Bool.{Bool, true, false, cond}
use mathlib.Core.Logic.{◌⊎◌, inl, inr}
use mathlib.Core.List.Memᴰ
use mathlib.Core.List.{List, [], ◌∷◌, ◌++◌, append-nil, append_assoc, Memᴰ}
use lib.ListN.{length, get_or, length-append}
use lib.Seq.{get_or-append_seam}
use Rattle.meaning.specs.Fragment.{Rows}
use Rattle.meaning.specs.Reply.{stand_ins, tabulated}

module _ (R : Rows) where
  more : (k m : ℕ) → (t : List ℕ) × (stand_ins R (m + k) ≡ stand_ins R k ++ t)
  unfolding stand_ins
  more k zero = ([], rw zero-add (sym (append-nil (stand_ins R k))))
  more k (suc m) = rw suc-add (go (R.stands (m + k)) (more k m))
    where
      go : (b : Bool) → (t : List ℕ) × (stand_ins R (m + k) ≡ stand_ins R k ++ t) → (t : List ℕ) × (cond b (stand_ins R (m + k) ++ (R.goes (m + k) ∷ [])) (stand_ins R (m + k)) ≡ stand_ins R k ++ t)
      go true h = (h.0 ++ (R.goes (m + k) ∷ []), ap (λ l. l ++ (R.goes (m + k) ∷ [])) h.1 ∙ append_assoc (stand_ins R k) h.0 (R.goes (m + k) ∷ []))
      go false h = h

  -- those before the stand-in of row k, it, and those after
  around : (k n : ℕ) → k < n → R.stands k ≡ true → (t : List ℕ) × (stand_ins R n ≡ stand_ins R k ++ (R.goes k ∷ t))
  unfolding stand_ins
  around k n h e = (t, ap (stand_ins R) (sym size) ∙ (more (suc k) m).1 ∙ ap (λ b. cond b (stand_ins R k ++ (R.goes k ∷ [])) (stand_ins R k) ++ t) e ∙ append_assoc (stand_ins R k) (R.goes k ∷ []) t)
    where
      m : ℕ
      m = n - suc k

      size : m + suc k ≡ n
      size = omega arith

      t : List ℕ
      t = (more (suc k) m).0

  -- the stand-in of row k has the position of those before it
  pub record Position (k n : ℕ) : Type 0 where
    pub early : length (stand_ins R k) < length (stand_ins R n)
    pub is : get_or (stand_ins R n) (length (stand_ins R k)) 0 ≡ R.goes k

  pub position : (k n : ℕ) → k < n → R.stands k ≡ true → Position k n
  position k n h e =
      let a = around k n h e in
      record { early = subst (λ l. length (stand_ins R k) < length l) (sym a.1) (rw length-append (omega arith)); is = ap (λ l. get_or l (length (stand_ins R k)) 0) a.1 ∙ get_or-append_seam (stand_ins R k) (R.goes k) a.0 0 }

  -- a fragment is among the stand-ins exactly if a row stands for it
  pub record Stood (k g : ℕ) : Type 0 where
    pub row : ℕ
    pub early : row < k
    pub stands : R.stands row ≡ true
    pub goes : R.goes row ≡ g

  pub stood : (k g : ℕ) → Memᴰ g (stand_ins R k) → Stood k g
  unfolding stand_ins
  stood zero g i = absurd (Memᴰ.not-nil i)
  stood (suc k) g i = go (R.stands k) refl (stood k g) i
    where
      wide : Stood k g → Stood (suc k) g
      wide s = record { row = s.row; early = omega (arith, s.early); stands = s.stands; goes = s.goes }

      end : R.stands k ≡ true → (Memᴰ g (stand_ins R k) → Stood k g) → Memᴰ g (stand_ins R k) ⊎ Memᴰ g (R.goes k ∷ []) → Stood (suc k) g
      end e h (inl x) = wide (h x)
      end e h (inr x) = record { row = k; early = omega arith; stands = e; goes = sym (Memᴰ.eq_of_singleton x) }

      go : (b : Bool) → R.stands k ≡ b → (Memᴰ g (stand_ins R k) → Stood k g) → Memᴰ g (cond b (stand_ins R k ++ (R.goes k ∷ [])) (stand_ins R k)) → Stood (suc k) g
      go true e h x = end e h (Memᴰ.append_cases (stand_ins R k) x)
      go false e h x = wide (h x)

  pub stands_in : (k g : ℕ) → Stood k g → Memᴰ g (stand_ins R k)
  stands_in k g s = subst (Memᴰ g) (sym (around s.row k s.early s.stands).1) (Memᴰ.append_right (stand_ins R s.row) (Memᴰ.head (sym s.goes)))

module _ {X : Type 0} where
  pub tabulated_at : (n k i : ℕ) (f : ℕ → X) (z : X) → i < n → get_or (tabulated n k f) i z ≡ f (i + k)
  unfolding tabulated
  tabulated_at zero k i f z h = absurd (omega arith)
  tabulated_at (suc n) k zero f z h = ap f (sym (zero-add k))
  tabulated_at (suc n) k (suc i) f z h = tabulated_at n (suc k) i f z (omega arith) ∙ ap f (add-suc i k ∙ sym (suc-add i k))
