-- A tree of rows: who is whose child, and which words a row's label and text pass.
use Rattle.std.specs.Prelude.{Bool}
use Rattle.meaning.specs.Bytes.{Bytes}

pub record Tree : Type 1 where
  pub N : Type 0
  pub Child : N → N → Type 0
  pub label? : Bytes → N → Bool
  pub text? : Bytes → N → Bool

-- the row itself or any row below
pub data Below (t : Tree) : t.N → t.N → Type 0 where
  here : {u : t.N} → Below t u u
  down : {u w v : t.N} → t.Child u w → Below t w v → Below t u v
