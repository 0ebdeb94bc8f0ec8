-- Sums over the parts that are heard.
use Prim.Native.Nat.{ℕ, zero, suc, ◌+◌, ◌≤◌, ◌<◌}
use native.Mathlib.Omega.{arith}
use native.Mathlib.Decide.{ℕ_discrete}
use mathlib.Core.Path.{◌≡◌, refl, sym, ap, ◌∙◌}
use mathlib.Core.Bool.{Bool, true, false, cond}
use mathlib.Core.Logic.{◌≢◌}
use Rattle.register.specs.Round.{total}

module _ (size : ℕ → ℕ) where
  abbrev pub weigh : (ℕ → Bool) → ℕ → ℕ
  weigh h n = total (λ f. cond (h f) (size f) 0) n

  most : (b : Bool) (k : ℕ) → cond b (size k) 0 ≤ size k
  most true k = omega arith
  most false k = omega arith

  below : (h : ℕ → Bool) (n : ℕ) → weigh h n ≤ total size n
  unfolding total
  below h zero = omega arith
  below h (suc n) = omega (arith, below h n, most (h n) n)

  -- there is room for a part that is not heard
  pub spare : (h : ℕ → Bool) (n f : ℕ) → f < n → h f ≡ false → weigh h n + size f ≤ total size n
  unfolding total
  spare h zero f k e = absurd (omega arith)
  spare h (suc n) f k e = go (ℕ_discrete f n) (λ j. spare h n f j e)
    where
      go : Dec (f ≡ n) → (f < n → weigh h n + size f ≤ total size n) → weigh h n + cond (h n) (size n) 0 + size f ≤ total size n + size n
      go (yes z) r = omega (arith, below h n, ap size z, ap (λ b. cond b (size n) 0) (sym (ap h z) ∙ e))
      go (no z) r = omega (arith, r (omega (arith, z)), most (h n) n)

  -- two that agree but for f, which one has not and the other has
  module _ (h k : ℕ → Bool) (f : ℕ) (same : (g : ℕ) → g ≢ f → k g ≡ h g) (off : h f ≡ false) (on : k f ≡ true) where
    apart : (n : ℕ) → n ≤ f → weigh k n ≡ weigh h n
    unfolding total
    apart zero l = refl
    apart (suc n) l = let e : n ≢ f = (λ z. omega (arith, z)) in omega (arith, apart n (omega arith), ap (λ b. cond b (size n) 0) (same n e))

    pub more : (n : ℕ) → f < n → weigh k n ≡ weigh h n + size f
    unfolding total
    more zero l = absurd (omega arith)
    more (suc n) l = go (ℕ_discrete f n) (λ j. more n j)
      where
        go : Dec (f ≡ n) → (f < n → weigh k n ≡ weigh h n + size f) → weigh k n + cond (k n) (size n) 0 ≡ weigh h n + cond (h n) (size n) 0 + size f
        go (yes z) r = omega (arith, apart n (omega (arith, z)), ap size z, ap (λ b. cond b (size n) 0) (sym (ap h z) ∙ off), ap (λ b. cond b (size n) 0) (sym (ap k z) ∙ on))
        go (no z) r = omega (arith, r (omega (arith, z)), ap (λ b. cond b (size n) 0) (same n (λ w. z (sym w))))

  pub empty : (h : ℕ → Bool) (n : ℕ) → ((f : ℕ) → f < n → h f ≡ false) → weigh h n ≡ 0
  unfolding total
  empty h zero e = refl
  empty h (suc n) e = omega (arith, empty h n (λ f k. e f (omega arith)), ap (λ b. cond b (size n) 0) (e n (omega arith)))
