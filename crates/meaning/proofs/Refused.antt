-- Laws of refusals in order of checking.
use Prim.Native.Nat.{ℕ}
use mathlib.Core.Path.{◌≡◌, refl}
use mathlib.Core.Logic.{◌≢◌}
use Rattle.meaning.specs.Refused.{Unless, Granted}

-- at most one number is given
abbrev pub One : (ℕ → Type 0) → Type 0
One P = (m n : ℕ) → P m → P n → m ≡ n

pub one_granted : One Granted
one_granted m n Granted.granted Granted.granted = refl

pub one_unless : {A : Type 0} {c : ℕ} {P : ℕ → Type 0} → One P → One (Unless A c P)
one_unless h m n (Unless.refused x) (Unless.refused y) = refl
one_unless h m n (Unless.refused x) (Unless.passed b q) = absurd (x b)
one_unless h m n (Unless.passed a p) (Unless.refused y) = absurd (y a)
one_unless h m n (Unless.passed a p) (Unless.passed b q) = h m n p q

-- another number than c: the condition holds, and what comes after gives it
pub through : {A : Type 0} {c n : ℕ} {P : ℕ → Type 0} → n ≢ c → Unless A c P n → A × P n
through h (Unless.refused x) = absurd (h refl)
through h (Unless.passed a p) = (a, p)

-- the condition holds: what comes after gives the number
pub beyond : {A : Type 0} {c n : ℕ} {P : ℕ → Type 0} → A → Unless A c P n → P n
beyond a (Unless.refused x) = absurd (x a)
beyond a (Unless.passed b p) = p
