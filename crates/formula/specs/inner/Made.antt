-- WHAT THE FORMULA LEAVES in work memory.
use Rattle.std.specs.Prelude.{ℕ, ◌+◌, ◌*◌, ◌<◌, ◌≤◌, ◌≡◌, Result, MatchResult, List, length, get_or, take, drop}
use Rattle.meaning.specs.Bytes.{Bytes}
use Rattle.meaning.specs.Formula as Formulas
use Rattle.meaning.specs.Fragment.{Fragment, Sound, row_count}
use Rattle.meaning.specs.Run.{Vectors}
use Rattle.question.specs.declared.List as L
use Rattle.question.specs.Listed.{Keeps}
use Rattle.formula.specs.declared.TooMany.{TooMany}
use Rattle.writing.specs.inner.Codes.{code, numbers}

-- what it works on: list and fragment keep their rules, and the memory is large enough
pub record Ready (l : L.List) (t : Bytes) (F : Fragment) (m : List ℕ) : Type 0 where
  pub number : ℕ
  pub sound : Sound number F
  pub keeps : Keeps l t
  pub room : 4 * (row_count F * l.count) + 12288 ≤ length m

-- the numbers of the steps, and of V and D of row 0, for n entries and `size` = rows × entries
pub record Laid (size n : ℕ) (o : Vectors Formulas.formula) (m : List ℕ) : Type 0 where
  pub steps : take (3 * length o.st) (drop (4 * size) m) ≡ numbers o.st
  pub v : (e : ℕ) → e < n → get_or m e 0 ≡ code (o.v e)
  pub d : (e : ℕ) → e < n → get_or m (2 * size + e) 0 ≡ code (o.d e)

-- the steps of o fit, and `made` is how many they are
pub record Within (size n : ℕ) (o : Vectors Formulas.formula) (m : List ℕ) (made : ℕ) : Type 0 where
  pub few : length o.st ≤ 4096
  pub count : made ≡ length o.st
  pub laid : Laid size n o m

-- by the result: how many steps there are, or that there are over 4,096
abbrev pub Made : ℕ → ℕ → Vectors Formulas.formula → List ℕ → Result ℕ TooMany → Type 0
Made size n o m r = MatchResult r (λ made. Within size n o m made) (λ e. 4096 < length o.st)
