-- What the bottom-up computation asks of references: a store that may grow, two constants, and three operations.
use Rattle.std.specs.Prelude.{Bool, true, false, not, ◌&&◌, ◌||◌}

pub record Algebra : Type 1 where
  pub St : Type 0
  pub Ref : Type 0
  pub low : Ref
  pub high : Ref
  pub and : St → Ref → Ref → St × Ref
  pub or : St → Ref → Ref → St × Ref
  pub neg : St → Ref → St × Ref

-- truth values of some kind
pub record Truth : Type 1 where
  pub X : Type 0
  pub no : X
  pub yes : X
  pub and : X → X → X
  pub or : X → X → X
  pub neg : X → X

abbrev pub bool : Truth
bool = record { X = Bool; no = false; yes = true; and = ◌&&◌; or = ◌||◌; neg = not }
