-- A truth value that answers a type: it is true and the type has an element, or it is false and the type has none.
use Rattle.std.specs.Prelude.{Bool, true, false}

pub data Says (A : Type 0) : Bool → Type 0 where
  aye : A → Says A true
  nay : (A → ⊥) → Says A false
