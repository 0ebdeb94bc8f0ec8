-- Laying parts with no gap and no overlap: what the code tests says the same as `Tiled`.
use Prim.Native.Nat.{ℕ, zero, suc, ◌+◌, ◌-◌, ◌≤◌, ◌<◌}
use native.Mathlib.Omega.{arith}
use native.Mathlib.Decide.{dec_lt, dec_le, ℕ_discrete}
use mathlib.Core.Path.{◌≡◌, refl, sym, ◌∙◌}
use mathlib.Core.Logic.{◌⊎◌, inl, inr, ⊎_elim}
use Rattle.whole.specs.Tiles.{In, Tiled}
use Rattle.whole.specs.inner.Steps.{Starts, Apart, Tested}

module _ (H : ℕ → Type 0) (place size : ℕ → ℕ) where
  module _ (used : ℕ) (some : (f : ℕ) → H f → 0 < size f) where
    at_start : (x : ℕ) → Starts H place size x → (f : ℕ) × In H place size f x
    at_start x s = let p = some s.part s.is in (s.part, record { is = s.is; from = omega (arith, s.here); to = omega (arith, s.here) })

    cover : Tested H place size used → (x : ℕ) → x < used → (f : ℕ) × In H place size f x
    cover t zero l = ⊎_elim (λ e. absurd (omega arith)) (at_start 0) t.begins
    cover t (suc x) l = go (cover t x (omega arith))
      where
        next : (f : ℕ) → In H place size f x → Dec (suc x < place f + size f) → (f : ℕ) × In H place size f (suc x)
        next f i (yes k) = (f, record { is = i.is; from = omega (arith, i.from); to = k })
        next f i (no k) =
            let e : place f + size f ≡ suc x = omega (arith, i.to) in
            ⊎_elim (λ u. absurd (omega arith)) (λ s. at_start (suc x) (record { part = s.part; is = s.is; here = s.here ∙ e })) (t.each f i.is).follows

        go : (f : ℕ) × In H place size f x → (f : ℕ) × In H place size f (suc x)
        go p = next p.0 p.1 (dec_lt (suc x) (place p.0 + size p.0))

    pub tested_tiled : Tested H place size used → Tiled H place size used
    tested_tiled t = record { inside = λ f h. (t.each f h).inside; covered = cover t; apart = λ f g x i j. same f g x i j (ℕ_discrete g f) }
      where
        same : (f g x : ℕ) → In H place size f x → In H place size g x → Dec (g ≡ f) → f ≡ g
        same f g x i j (yes e) = sym e
        same f g x i j (no e) = absurd (⊎_elim (λ p. omega (arith, p, i.to, j.from)) (λ p. omega (arith, p, i.from, j.to)) ((t.each f i.is).apart g j.is e))

    pub tiled_tested : Tiled H place size used → Tested H place size used
    tiled_tested t = record {
      each = λ f h. record { inside = t.inside f h; apart = λ g k n. pair f g h k n (dec_le (place f + size f) (place g)) (dec_le (place g + size g) (place f)); follows = follow f h (dec_lt (place f + size f) used) };
      begins = begin (dec_lt 0 used);
    }
      where
        clash : (f g x : ℕ) → H f → H g → (g ≡ f → ⊥) → place f ≤ x → x < place f + size f → place g ≤ x → x < place g + size g → ⊥
        clash f g x h k n a b c d = n (sym (t.apart f g x (record { is = h; from = a; to = b }) (record { is = k; from = c; to = d })))

        pair : (f g : ℕ) → H f → H g → (g ≡ f → ⊥) → Dec (place f + size f ≤ place g) → Dec (place g + size g ≤ place f) → Apart H place size f g
        pair f g h k n (yes a) b = inl a
        pair f g h k n (no a) (yes b) = inr b
        pair f g h k n (no a) (no b) = absurd (over (dec_le (place f) (place g)))
          where
            over : Dec (place f ≤ place g) → ⊥
            over (yes q) = let z = some g k in clash f g (place g) h k n q (omega arith) (omega arith) (omega arith)
            over (no q) = let z = some f h in clash f g (place f) h k n (omega arith) (omega arith) (omega arith) (omega arith)

        follow : (f : ℕ) → H f → Dec (place f + size f < used) → (place f + size f ≡ used) ⊎ Starts H place size (place f + size f)
        follow f h (no a) = let i = t.inside f h in inl (omega arith)
        follow f h (yes a) = inr (at (t.covered (place f + size f) a))
          where
            meet : (g : ℕ) → In H place size g (place f + size f) → Dec (place g ≡ place f + size f) → Starts H place size (place f + size f)
            meet g i (yes e) = record { part = g; is = i.is; here = e }
            meet g i (no e) =
                let z = some f h in
                absurd (clash f g (place f + size f - 1) h i.is (λ q. let w : place g + size g ≡ place f + size f = rw q refl in omega (arith, i.to)) (omega arith) (omega arith) (omega (arith, i.from)) (omega (arith, i.to)))

            at : (g : ℕ) × In H place size g (place f + size f) → Starts H place size (place f + size f)
            at p = meet p.0 p.1 (ℕ_discrete (place p.0) (place f + size f))

        begin : Dec (0 < used) → (used ≡ 0) ⊎ Starts H place size 0
        begin (no a) = inl (omega arith)
        begin (yes a) = let p = t.covered 0 a in inr (record { part = p.0; is = p.1.is; here = omega (arith, p.1.from) })
