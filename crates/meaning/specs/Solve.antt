-- Solving replies (01, "The desk"): fragments from the highest down, and the answer once every fragment is heard.
use Rattle.std.specs.Prelude.{ℕ, zero, suc, ◌-◌, ◌*◌, Bool, true, false, ◌&&◌, cond, List, [], ◌∷◌, get_or, ltb}
use Rattle.std.proofs.Math.Option.{Option, none, some}
use Rattle.meaning.specs.Algebra.{Truth, bool}
use Rattle.meaning.specs.Formula.{Ref, value}
use Rattle.meaning.specs.Run.{upd}
use Rattle.meaning.specs.Reply.{Reply}

-- V and D of row 0 of every fragment, by fragment and entry
pub record Values (X : Type 0) : Type 0 where
  pub v : ℕ → ℕ → X
  pub d : ℕ → ℕ → X

-- for n entries
module _ (B : Truth) (n : ℕ) where
  -- the variables' values: for each stand-in in turn n of V, then n of D
  unfoldable pub assign : List ℕ → Values B.X → ℕ → B.X
  assign [] S x = B.no
  assign (g ∷ l) S x = cond (ltb x n) (S.v g x) (cond (ltb x (2 * n)) (S.d g (x - n)) (assign l S (x - 2 * n)))

  -- V and D of entry e that a reply gives, from the values of the fragments that it stands for
  abbrev pub here_of : Reply → Values B.X → ℕ → B.X
  here_of r S e = value B (assign r.ins S) r.steps (get_or r.v e Ref.low)

  abbrev pub lower_of : Reply → Values B.X → ℕ → B.X
  lower_of r S e = value B (assign r.ins S) r.steps (get_or r.d e Ref.low)

  abbrev pub solved : Option Reply → ℕ → Values B.X → Values B.X
  solved none f S = S
  solved (some r) f S = record { v = upd S.v f (here_of r S); d = upd S.d f (lower_of r S) }

  -- fragments k - 1, .. 0
  unfoldable pub solve : (ℕ → Option Reply) → ℕ → Values B.X → Values B.X
  solve heard zero S = S
  solve heard (suc k) S = solve heard k (solved (heard k) k S)

  abbrev pub no_values : Values B.X
  no_values = record { v = λ f e. B.no; d = λ f e. B.no }

pub data Outcome : Type 0 where
  waiting : Outcome
  said : Bool → Outcome

abbrev pub is_heard : Option Reply → Bool
is_heard none = false
is_heard (some r) = true

-- fragments 0 to k - 1 are heard
unfoldable pub all_heard : (ℕ → Option Reply) → ℕ → Bool
all_heard heard zero = true
all_heard heard (suc k) = is_heard (heard k) && all_heard heard k

-- THE DESK'S ANSWER, for n entries and a number of parts: V of fragment 0's last entry, once every fragment is heard
unfoldable pub outcome : ℕ → ℕ → (ℕ → Option Reply) → Outcome
outcome n parts heard = cond (all_heard heard parts) (said ((solve bool n heard parts (no_values bool n)).v 0 (n - 1))) waiting
