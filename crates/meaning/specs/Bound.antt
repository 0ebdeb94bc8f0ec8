-- The step bound's two counts (01, "A depot's formula"): open rows and stand-ins.
use Rattle.std.specs.Prelude.{ℕ, zero, suc, ◌+◌, ◌*◌, ◌≡◌, Bool, true, false, cond, length}
use Rattle.meaning.specs.Tree.{Below}
use Rattle.meaning.specs.Fragment.{Rows, alone}
use Rattle.meaning.specs.Reply.{stand_ins}

-- an open row is a real one with a stand-in below
abbrev pub Open : Rows → ℕ → Type 0
Open R k = (R.stands k ≡ false) × ((s : ℕ) × Below (alone R) k s × (R.stands s ≡ true))

-- how many of 0 to k - 1 pass a test
unfoldable pub count : (ℕ → Bool) → ℕ → ℕ
count p zero = 0
count p (suc k) = count p k + cond (p k) 1 0

-- entries × (4 × open rows + 2 × stand-ins), where `is_open` tells the open rows
abbrev pub step_bound : ℕ → Rows → (ℕ → Bool) → ℕ
step_bound n R is_open = n * (4 * count is_open (suc R.last) + 2 * length (stand_ins R (suc R.last)))
