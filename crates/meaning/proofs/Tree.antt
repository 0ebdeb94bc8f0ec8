-- A tree whose children can be listed and whose branches end: then "some row below" is computed.
use Prim.Native.Nat.{ℕ, zero, suc, ◌<◌}
use native.Mathlib.Omega.{arith}
use mathlib.Core.Path.{◌≡◌, refl}
use mathlib.Core.Bool.{Bool, false, ◌||◌}
use mathlib.Core.Logic.{◌⊎◌, inl, inr}
use mathlib.Core.List.{List, Memᴰ}
use Rattle.meaning.specs.Says.{Says}
use Rattle.meaning.specs.Tree.{Tree, Below, here, down}
use Rattle.meaning.proofs.Says.{says_iff, says_or, some, some_same, some_says}

-- the children of each row, and a number that falls from parent to child
pub record Finite (t : Tree) : Type 0 where
  pub kids : t.N → List t.N
  pub rank : t.N → ℕ
  pub listed : (u v : t.N) → t.Child u v → Memᴰ v (kids u)
  pub child : (u v : t.N) → Memᴰ v (kids u) → t.Child u v
  pub falls : (u v : t.N) → Memᴰ v (kids u) → rank v < rank u

module _ {t : Tree} (fin : Finite t) where
  -- some child of u has p
  pub some_child : (p : t.N → Bool) (P : t.N → Type 0) → ((v : t.N) → Says (P v) (p v)) → (u : t.N) → Says ((v : t.N) × t.Child u v × P v) (some p (fin.kids u))
  some_child p P r u = says_iff (λ x. (x.0, fin.child u x.0 x.1, x.2)) (λ x. (x.0, fin.listed u x.0 x.1, x.2)) (some_says p P (fin.kids u) (λ v i. r v))

  -- some row here or below has p, `f` being more than the rank
  abbrev deep_f : ℕ → (t.N → Bool) → t.N → Bool
  deep_f zero p u = false
  deep_f (suc f) p u = p u || some (deep_f f p) (fin.kids u)

  pub deep : (t.N → Bool) → t.N → Bool
  deep p u = deep_f (suc (fin.rank u)) p u

  deep_f_same : (p : t.N → Bool) (f g : ℕ) (u : t.N) → fin.rank u < f → fin.rank u < g → deep_f f p u ≡ deep_f g p u
  deep_f_same p zero g u h k = absurd (omega arith)
  deep_f_same p (suc f) zero u h k = absurd (omega arith)
  deep_f_same p (suc f) (suc g) u h k = rw (some_same (deep_f f p) (deep_f g p) (fin.kids u) (λ v i. deep_f_same p f g v (omega (arith, fin.falls u v i)) (omega (arith, fin.falls u v i)))) refl

  pub deep_step : (p : t.N → Bool) (u : t.N) → deep p u ≡ p u || some (deep p) (fin.kids u)
  unfolding deep
  deep_step p u = rw (some_same (deep_f (fin.rank u) p) (deep p) (fin.kids u) (λ v i. deep_f_same p (fin.rank u) (suc (fin.rank v)) v (fin.falls u v i) (omega arith))) refl

  deep_f_says : (p : t.N → Bool) (P : t.N → Type 0) → ((v : t.N) → Says (P v) (p v)) → (f : ℕ) (u : t.N) → fin.rank u < f → Says ((v : t.N) × Below t u v × P v) (deep_f f p u)
  deep_f_says p P r zero u h = absurd (omega arith)
  deep_f_says p P r (suc f) u h = says_iff to from (says_or (r u) (some_says (deep_f f p) (λ w. (v : t.N) × Below t w v × P v) (fin.kids u) (λ w i. deep_f_says p P r f w (omega (arith, fin.falls u w i)))))
    where
      to : P u ⊎ ((w : t.N) × Memᴰ w (fin.kids u) × ((v : t.N) × Below t w v × P v)) → (v : t.N) × Below t u v × P v
      to (inl a) = (u, here, a)
      to (inr x) = (x.2.0, down (fin.child u x.0 x.1) x.2.1, x.2.2)

      from' : {u v : t.N} → Below t u v → P v → P u ⊎ ((w : t.N) × Memᴰ w (fin.kids u) × ((v : t.N) × Below t w v × P v))
      from' here a = inl a
      from' (down {u = u} {w = w} {v = v} i b) a = inr (w, fin.listed u w i, (v, b, a))

      from : (v : t.N) × Below t u v × P v → P u ⊎ ((w : t.N) × Memᴰ w (fin.kids u) × ((v : t.N) × Below t w v × P v))
      from x = from' x.1 x.2

  pub deep_says : (p : t.N → Bool) (P : t.N → Type 0) → ((v : t.N) → Says (P v) (p v)) → (u : t.N) → Says ((v : t.N) × Below t u v × P v) (deep p u)
  unfolding deep
  deep_says p P r u = deep_f_says p P r (suc (fin.rank u)) u (omega arith)
