-- A test of every number below one says what is tested, and so does one of bytes.
use Prim.Native.Nat.{ℕ, zero, suc, ◌<◌}
use native.Mathlib.Omega.{arith}
use mathlib.Core.Path.{◌≡◌, refl}
use mathlib.Core.Bool.{Bool, not}
use lib.Dec.{eqb}
use Rattle.meaning.specs.Says.{Says, aye, nay}
use Rattle.meaning.specs.Bytes.{Bytes, same_bytes}
use mathlib.Core.List.{[], ◌∷◌}
use Rattle.meaning.proofs.Numbers.{says_eqb}
use Rattle.meaning.proofs.Says.{says_iff, says_and, says_not}
use Rattle.reply.specs.inner.Decode.{every}
use Rattle.reply.proofs.Lists.{up_to_suc}

pub says_ne : (a b : ℕ) → Says (a ≡ b → ⊥) (not (eqb a b))
says_ne a b = says_not (says_eqb a b)

pub says_every : (P : ℕ → Type 0) (p : ℕ → Bool) (n : ℕ) → ((i : ℕ) → i < n → Says (P i) (p i)) → Says ((i : ℕ) → i < n → P i) (every p n)
unfolding every
says_every P p zero h = aye (λ i l. absurd (omega arith))
says_every P p (suc n) h =
    says_iff (λ (t : ((i : ℕ) → i < n → P i) × P n). up_to_suc P n t.0 t.1) (λ f. ((λ i l. f i (omega arith)), f n (omega arith)))
    (says_and (says_every P p n (λ i l. h i (omega arith))) (h n (omega arith)))

pub says_same_bytes : (s t : Bytes) → Says (s ≡ t) (same_bytes s t)
unfolding same_bytes
says_same_bytes [] [] = aye refl
says_same_bytes [] (y ∷ t) = nay (λ e. let z : ◌≡◌ {A = ℕ} 0 1 = cc in omega arith)
says_same_bytes (x ∷ s) [] = nay (λ e. let z : ◌≡◌ {A = ℕ} 0 1 = cc in omega arith)
says_same_bytes (x ∷ s) (y ∷ t) =
    says_iff (λ (h : (x ≡ y) × (s ≡ t)). let a = h.0 in let b = h.1 in cc) (λ e. (cc, cc)) (says_and (says_eqb x y) (says_same_bytes s t))
