-- The fragment that is lent, and parts of a row's rule.
use Rattle.std.specs.Prelude.{ℕ, zero, suc, ◌+◌, ◌≤◌, ◌<◌, ◌≡◌, length, get_or}
use Rattle.meaning.specs.Fragment.{Fragment, num}
use Rattle.fragment.specs.Lent.{lent}
use Rattle.fragment.specs.declared.Lent.{Lent}

abbrev pub fragment_of : Lent → Fragment
fragment_of l = lent l.rows.now l.pool.now

-- the word whose start and length are the numbers at `at` has `least` to `most` bytes, wholly inside the pool
pub record WordRule (F : Fragment) (at least top : ℕ) : Type 0 where
  pub some : least ≤ get_or F.rows (at + 1) 0
  pub most : get_or F.rows (at + 1) 0 ≤ top
  pub inside : get_or F.rows at 0 + get_or F.rows (at + 1) 0 ≤ length F.pool

-- row 0 has no parent, and another's is a real row before it
abbrev pub ParentRule : Fragment → ℕ → Type 0
ParentRule F zero = num F 0 0 ≡ 4_294_967_295
ParentRule F (suc k) = (num F (suc k) 0 < suc k) × (num F (num F (suc k) 0) 1 ≡ 0)
