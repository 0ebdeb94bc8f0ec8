-- A fragment's rows in a tree: each row has a place there, and a row's children are the rows that name it as their parent.
use Prim.Native.Nat.{ℕ, zero, suc, ◌+◌, ◌≤◌, ◌<◌}
use native.Mathlib.Omega.{arith}
use native.Mathlib.Nat.{zero-add, suc-add, add-suc}
use mathlib.Core.Path.{◌≡◌, refl, sym, ap, ◌∙◌}
use mathlib.Core.Bool.{Bool, false, ◌&&◌, ◌||◌}
use lib.Dec.{eqb}
use Rattle.meaning.specs.Bytes.{Bytes, label_is, text_is}
use Rattle.meaning.specs.Tree.{Tree}
use Rattle.meaning.specs.Fragment.{Rows}
use Rattle.meaning.proofs.Says.{some}
use Rattle.meaning.proofs.Tree.{Finite}
use Rattle.std.proofs.lemmas.Bool.{ne_eqb}
use Rattle.std.proofs.Math.Bool.{or-false}

-- some row of k, .. k + m - 1 passes p
abbrev pub ups : ℕ → ℕ → (ℕ → Bool) → Bool
ups zero k p = false
ups (suc m) k p = ups m (suc k) p || p k

ups_skip : (p : ℕ → Bool) (m j k : ℕ) → ((i : ℕ) → k ≤ i → i < j + k → p i ≡ false) → ups (j + m) k p ≡ ups m (j + k) p
ups_skip p m zero k h = rw (zero-add m, zero-add k) refl
ups_skip p m (suc j) k h = rw (suc-add j m, suc-add j k, ← (add-suc j k), h k (omega arith) (omega arith)) (or-false (ups (j + m) (suc k) p) ∙ ups_skip p m j (suc k) (λ i y x. h i (omega arith) (omega arith)))

pub record Placed {t : Tree} (fin : Finite t) (R : Rows) (place : ℕ → t.N) : Type 0 where
  pub real : R.stands 0 ≡ false
  pub parents : (k : ℕ) → 0 < k → k ≤ R.last → R.parent k < k
  pub label_agrees : (k : ℕ) → k ≤ R.last → R.stands k ≡ false → (w : Bytes) → label_is w (R.label k) ≡ t.label? w (place k)
  pub text_agrees : (k : ℕ) → k ≤ R.last → R.stands k ≡ false → (w : Bytes) → text_is w (R.text k) ≡ t.text? w (place k)
  pub kids_are : (k : ℕ) → k ≤ R.last → R.stands k ≡ false → (p : t.N → Bool) → some p (fin.kids (place k)) ≡ ups R.last 1 (λ c. eqb (R.parent c) k && p (place c))

-- the children of row k are all among the m rows after it
pub kids_later : {t : Tree} (fin : Finite t) (R : Rows) (place : ℕ → t.N) → Placed fin R place → (m k : ℕ) → m + k ≡ R.last → R.stands k ≡ false → (p : t.N → Bool)
    → ups m (suc k) (λ c. eqb (R.parent c) k && p (place c)) ≡ some p (fin.kids (place k))
kids_later fin R place P m k e r p = sym (P.kids_are k (omega arith) r p ∙ ap (λ n. ups n 1 f) e₁ ∙ ups_skip f m k 1 none ∙ ap (λ n. ups m n f) e₂)
  where
    f : ℕ → Bool
    f c = eqb (R.parent c) k && p (place c)

    e₁ : R.last ≡ k + m
    e₁ = omega arith

    e₂ : k + 1 ≡ suc k
    e₂ = omega arith

    none : (i : ℕ) → 1 ≤ i → i < k + 1 → f i ≡ false
    none i a b = ap (λ x. x && p (place i)) (ne_eqb (R.parent i) k (omega (arith, P.parents i a (omega arith))))
