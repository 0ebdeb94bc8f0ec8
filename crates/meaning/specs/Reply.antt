-- A reply (01, "The reply's bits"), and the one laid down for a fragment.
use Rattle.std.specs.Prelude.{ℕ, zero, suc, ◌+◌, ◌*◌, cond, List, [], ◌∷◌, ◌++◌, length}
use Rattle.meaning.specs.Bytes.{Bytes}
use Rattle.meaning.specs.Entry.{Entry}
use Rattle.meaning.specs.Formula.{Ref, Step, formula}
use Rattle.meaning.specs.Fragment.{Rows}
use Rattle.meaning.specs.Run.{Vectors, run}

pub record Reply : Type 0 where
  pub number : ℕ
  pub fragment : ℕ
  pub entries : ℕ
  pub ins : List ℕ
  pub steps : List Step
  pub v : List Ref
  pub d : List Ref

-- the fragments that the stand-ins among rows 0 to k - 1 stand for, by increasing row
unfoldable pub stand_ins : Rows → ℕ → List ℕ
stand_ins R zero = []
stand_ins R (suc k) = cond (R.stands k) (stand_ins R k ++ (R.goes k ∷ [])) (stand_ins R k)

-- f k, f (k + 1), .., n of them
unfoldable pub tabulated : {X : Type 0} → ℕ → ℕ → (ℕ → X) → List X
tabulated zero k f = []
tabulated (suc n) k f = f k ∷ tabulated n (suc k) f

module _ (R : Rows) (es : List (Entry Bytes)) where
  -- a variable's number: the stand-in's position × 2 × entries, plus the entry number for V, plus entries as well for D
  abbrev pub var_v : ℕ → ℕ → Ref
  var_v k e = Ref.var (length (stand_ins R k) * (2 * length es) + e)

  abbrev pub var_d : ℕ → ℕ → Ref
  var_d k e = Ref.var (length (stand_ins R k) * (2 * length es) + (length es + e))

  abbrev pub laid_run : Vectors formula
  laid_run = run formula R es var_v var_d []

  -- THE REPLY LAID DOWN
  unfoldable pub laid_down : ℕ → ℕ → Reply
  laid_down number fragment = record {
    number = number;
    fragment = fragment;
    entries = length es;
    ins = stand_ins R (suc R.last);
    steps = laid_run.st;
    v = tabulated (length es) 0 laid_run.v;
    d = tabulated (length es) 0 laid_run.d;
  }
