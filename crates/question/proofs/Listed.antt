-- The entries of a list by value: how many, and that they keep the rule "each pointing only at earlier ones".
use Prim.Native.Nat.{ℕ, zero, suc, ◌+◌, ◌<◌}
use native.Mathlib.Omega.{arith}
use mathlib.Core.Path.{◌≡◌, refl, ap}
use lib.ListN.{length, get_or}
use Rattle.meaning.specs.Bytes.{Bytes, word}
use Rattle.meaning.specs.Entry.{Entry, Points, Earlier}
use Rattle.meaning.specs.Reply.{tabulated}
use Rattle.question.specs.declared.List as L
use Rattle.question.specs.Listed.{Inside, entry_of, Keeps, listed}

tabulated_length : (n k : ℕ) (f : ℕ → Entry Bytes) → length (tabulated n k f) ≡ n
unfolding tabulated
tabulated_length zero k f = refl
tabulated_length (suc n) k f = ap suc (tabulated_length n (suc k) f)

pub listed_length : (l : L.List) (t : Bytes) → length (listed l t) ≡ l.count
unfolding listed
listed_length l t = tabulated_length l.count 0 _

-- WHAT AN ENTRY POINTS AT does not hang on how its word is named
module _ {U W : Type 0} (f : ℕ → ℕ → U) (g : ℕ → ℕ → W) (P : U → Type 0) (Q : W → Type 0) where
  pub renamed : ((a b : ℕ) → P (f a b) → Q (g a b)) → (i k a b : ℕ) → Points P i (entry_of f k a b) → Points Q i (entry_of g k a b)
  unfolding entry_of
  renamed h i zero a b p = tt
  renamed h i (suc zero) a b p = h a b p
  renamed h i (suc (suc zero)) a b p = h a b p
  renamed h i (suc (suc (suc zero))) a b p = p
  renamed h i (suc (suc (suc (suc zero)))) a b p = p
  renamed h i (suc (suc (suc (suc (suc zero))))) a b p = p
  renamed h i (suc (suc (suc (suc (suc (suc zero)))))) a b p = p
  renamed h i (suc (suc (suc (suc (suc (suc (suc zero))))))) a b p = p
  renamed h i (suc (suc (suc (suc (suc (suc (suc (suc zero)))))))) a b p = p
  renamed h i (suc (suc (suc (suc (suc (suc (suc (suc (suc k))))))))) a b p = tt

-- A LIST THAT KEEPS ITS RULES points only at earlier entries
tabulated_earlier : (n i : ℕ) (f : ℕ → Entry Bytes) → ((j : ℕ) → j < n + i → Points (λ w. Unit {0}) j (f j)) → Earlier i (tabulated n i f)
unfolding tabulated
tabulated_earlier zero i f h = tt
tabulated_earlier (suc n) i f h = (h i (omega arith), tabulated_earlier n (suc i) f (λ j l. h j (omega arith)))

pub keeps_earlier : (l : L.List) (t : Bytes) → Keeps l t → Earlier 0 (listed l t)
unfolding listed
keeps_earlier l t k = tabulated_earlier l.count 0 _ (λ j h.
    renamed (λ a b. (a, b)) (word t) (Inside t) (λ w. Unit {0}) (λ a b p. tt) j (get_or l.kinds j 0) (get_or l.left j 0) (get_or l.right j 0) (k.each j (omega arith)).points)
