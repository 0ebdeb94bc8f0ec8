-- Refusals in order of checking: a number is given exactly where its condition fails and every one before it holds.
use Rattle.std.specs.Prelude.{ℕ}

-- c, unless A holds; then what comes after
pub data Unless (A : Type 0) (c : ℕ) (rest : ℕ → Type 0) : ℕ → Type 0 where
  refused : (A → ⊥) → Unless A c rest c
  passed : {x : ℕ} → A → rest x → Unless A c rest x

-- 0: no refusal
pub data Granted : ℕ → Type 0 where
  granted : Granted 0
