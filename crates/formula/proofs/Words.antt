-- Two words compared by `==`.
use Prim.Native.Nat.{ℕ, suc, ◌+◌, ◌≤◌}
use native.Mathlib.Omega.{arith}
use mathlib.Core.Path.{◌≡◌, refl, sym, ap, ◌∙◌}
use mathlib.Core.Bool.{Bool, true, false, ◌&&◌}
use mathlib.Core.List.{[], ◌∷◌}
use lib.ListN.{length, take, drop, length-take, length-drop}
use lib.Dec.{eqb}
use lib.Pointwise.{pointwise}
use Rattle.meaning.specs.Bytes.{Bytes, word, same_bytes}

same_pointwise : (x y : Bytes) → pointwise eqb x y ≡ same_bytes x y
unfolding same_bytes
same_pointwise [] [] = refl
same_pointwise [] (b ∷ y) = refl
same_pointwise (a ∷ x) [] = refl
same_pointwise (a ∷ x) (b ∷ y) = ap (λ q. eqb a b && q) (same_pointwise x y)

pub words_same : (t p : Bytes) (a len b size : ℕ) {la lb : ℕ} {r : Bool} → r ≡ pointwise eqb (take la (drop a t)) (take lb (drop b p)) → la ≡ len → lb ≡ size → r ≡ same_bytes (word t a len) (word p b size)
words_same t p a len b size e f g = e ∙ same_pointwise _ _ ∙ (λ i. same_bytes (take (f i) (drop a t)) (take (g i) (drop b p)))

word_length : (t : Bytes) (x n : ℕ) → x + n ≤ length t → length (word t x n) ≡ n
word_length t x n h = simp (length-take, length-drop) (omega arith)

same_length : (x y : Bytes) → (length x ≡ length y → ⊥) → false ≡ same_bytes x y
unfolding same_bytes
same_length [] [] h = absurd (h refl)
same_length [] (b ∷ y) h = refl
same_length (a ∷ x) [] h = refl
same_length (a ∷ x) (b ∷ y) h = go (eqb a b) (same_length x y (λ e. h (ap suc e)))
  where
    go : (q : Bool) → false ≡ same_bytes x y → false ≡ q && same_bytes x y
    go true e = e
    go false e = refl

pub words_length : (t p : Bytes) (a b len size : ℕ) {r : Bool} → a + len ≤ length t → b + size ≤ length p → r ≡ false → (len ≡ size → ⊥) → r ≡ same_bytes (word t a len) (word p b size)
words_length t p a b len size h k off n = off ∙ same_length (word t a len) (word p b size) (λ e. n (sym (word_length t a len h) ∙ e ∙ word_length p b size k))
