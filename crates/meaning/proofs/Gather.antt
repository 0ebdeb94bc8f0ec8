-- The places of those rows of a range that pass a test: how a row's children are listed.
use Prim.Native.Nat.{ℕ, zero, suc, ◌+◌, ◌≤◌, ◌<◌}
use native.Mathlib.Omega.{arith}
use native.Mathlib.Decide.{ℕ_discrete}
use mathlib.Core.Path.{◌≡◌, refl, sym, ap, ◌∙◌}
use mathlib.Core.Bool.{Bool, true, false, ◌&&◌, ◌||◌, cond, true≢false}
use mathlib.Core.List.Memᴰ
use mathlib.Core.List.{List, [], ◌∷◌, Memᴰ}
use Rattle.meaning.proofs.Says.{some}
use Rattle.meaning.proofs.Placed.{ups}
use Rattle.std.proofs.Math.Bool.{or_comm, or-false}

module _ {X : Type 0} (test : ℕ → Bool) (place : ℕ → X) where
  -- of rows k to k + m - 1
  pub gather : ℕ → ℕ → List X
  gather zero k = []
  gather (suc m) k = cond (test k) (place k ∷ gather m (suc k)) (gather m (suc k))

  pub gather_some : (p : X → Bool) (m k : ℕ) → some p (gather m k) ≡ ups m k (λ c. test c && p (place c))
  unfolding gather
  gather_some p zero k = refl
  gather_some p (suc m) k = go (test k) (gather_some p m (suc k))
    where
      l : List X
      l = gather m (suc k)

      u : Bool
      u = ups m (suc k) (λ c. test c && p (place c))

      go : (b : Bool) → some p l ≡ u → some p (cond b (place k ∷ l) l) ≡ u || (b && p (place k))
      go true e = or_comm (p (place k)) (some p l) ∙ ap (λ z. z || p (place k)) e
      go false e = e ∙ sym (or-false u)

  pub record Gathered (m k : ℕ) (v : X) : Type 0 where
    pub row : ℕ
    pub low : k ≤ row
    pub high : row < m + k
    pub passes : test row ≡ true
    pub is : place row ≡ v

  pub gathered : (v : X) (m k : ℕ) → Memᴰ v (gather m k) → Gathered m k v
  unfolding gather
  gathered v zero k i = absurd (Memᴰ.not-nil i)
  gathered v (suc m) k i = go (test k) refl (λ j. gathered v m (suc k) j) i
    where
      l : List X
      l = gather m (suc k)

      wide : Gathered m (suc k) v → Gathered (suc m) k v
      wide g = record { row = g.row; low = omega (arith, g.low); high = omega (arith, g.high); passes = g.passes; is = g.is }

      first : {l : List X} → test k ≡ true → (Memᴰ v l → Gathered m (suc k) v) → Memᴰ v (place k ∷ l) → Gathered (suc m) k v
      first e h (Memᴰ.head x) = record { row = k; low = omega arith; high = omega arith; passes = e; is = sym x }
      first e h (Memᴰ.tail x) = wide (h x)

      go : (b : Bool) → test k ≡ b → (Memᴰ v l → Gathered m (suc k) v) → Memᴰ v (cond b (place k ∷ l) l) → Gathered (suc m) k v
      go true e h x = first e h x
      go false e h x = wide (h x)

  pub gather_has : (c m k : ℕ) → k ≤ c → c < m + k → test c ≡ true → Memᴰ (place c) (gather m k)
  unfolding gather
  gather_has c zero k a b e = absurd (omega arith)
  gather_has c (suc m) k a b e = go (ℕ_discrete c k) (λ z. gather_has c m (suc k) z (omega arith) e) (test k) refl
    where
      l : List X
      l = gather m (suc k)

      go : Dec (c ≡ k) → (suc k ≤ c → Memᴰ (place c) l) → (t : Bool) → test k ≡ t → Memᴰ (place c) (cond t (place k ∷ l) l)
      go (yes p) h true q = Memᴰ.head (ap place p)
      go (yes p) h false q = absurd (true≢false (sym e ∙ ap test p ∙ q))
      go (no p) h true q = Memᴰ.tail (h (omega arith))
      go (no p) h false q = h (omega arith)
