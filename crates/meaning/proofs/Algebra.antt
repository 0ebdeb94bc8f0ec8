-- What ties references to truth values.
use mathlib.Core.Bool.{Bool, true, false, not, ◌&&◌, ◌||◌}
use Rattle.meaning.specs.Algebra.{Algebra}

-- how references are read: `Later s s'`, the store s' is s or has grown from it; `Is s r b`, in s the reference r has the value b
pub record Reading (A : Algebra) : Type 1 where
  pub Later : A.St → A.St → Type 0
  pub Is : A.St → A.Ref → Bool → Type 0

-- a reference keeps its value while the store grows, and the operations do what they say
pub record Laws (A : Algebra) (R : Reading A) : Type 0 where
  pub same : (s : A.St) → R.Later s s
  pub trans : (s s' s'' : A.St) → R.Later s s' → R.Later s' s'' → R.Later s s''
  pub keep : (s s' : A.St) (r : A.Ref) (b : Bool) → R.Later s s' → R.Is s r b → R.Is s' r b
  pub low_is : (s : A.St) → R.Is s A.low false
  pub high_is : (s : A.St) → R.Is s A.high true
  pub and_later : (s : A.St) (a b : A.Ref) → R.Later s (A.and s a b).0
  pub or_later : (s : A.St) (a b : A.Ref) → R.Later s (A.or s a b).0
  pub neg_later : (s : A.St) (a : A.Ref) → R.Later s (A.neg s a).0
  pub and_is : (s : A.St) (a b : A.Ref) (x y : Bool) → R.Is s a x → R.Is s b y → R.Is (A.and s a b).0 (A.and s a b).1 (x && y)
  pub or_is : (s : A.St) (a b : A.Ref) (x y : Bool) → R.Is s a x → R.Is s b y → R.Is (A.or s a b).0 (A.or s a b).1 (x || y)
  pub neg_is : (s : A.St) (a : A.Ref) (x : Bool) → R.Is s a x → R.Is (A.neg s a).0 (A.neg s a).1 (not x)
