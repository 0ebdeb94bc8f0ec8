-- THE STRUCTS OF THE CODE, as the equations of `Flat` have them.
use Rattle.std.specs.Prelude.{ℕ, ◌+◌, ◌*◌, ◌<◌, ◌≤◌, ◌≡◌, length, Result, MatchResult}
use Rattle.meaning.specs.Fragment.{Fragment, Sound, row_count}
use Rattle.question.specs.declared.kind.Kind.{Kind}
use Rattle.question.specs.declared.kind.Kind.TheVariants.{Itself, Label, Text, Child, At, Below}
use Rattle.question.specs.declared.kind.Kind.TheVariants as Kinds
use Rattle.question.specs.Listed.{Keeps}
use Rattle.fragment.specs.Lent.{lent}
use Rattle.formula.specs.declared.Source.{Source}
use Rattle.formula.specs.declared.Layout.{Layout}
use Rattle.formula.specs.declared.Memory.{Memory}
use Rattle.reply.specs.declared.Op.{Op}
use Rattle.reply.specs.declared.Op.TheVariants.{And, Or, Not}
use Rattle.formula.specs.declared.TooMany.{TooMany}
use Rattle.formula.specs.inner.Flat.{St, st, Got, got}

-- the number of an operation in memory
abbrev pub op_number : Op → ℕ
op_number And = 0
op_number Or = 1
op_number Not = 2

-- the fragment that is lent
abbrev pub fragment_of : Source → Fragment
fragment_of s = lent s.fragment.rows.now s.fragment.pool.now

-- where the parts of the memory begin, and how long it has to be
pub record LaidOut (cells : ℕ) (l : Layout) : Type 0 where
  pub cells_is : l.cells ≡ cells
  pub d : l.d ≡ 2 * cells
  pub steps : l.steps ≡ 4 * cells
  pub need : l.need ≡ 4 * cells + 12288

-- each entry that an operand numbers lies before it
abbrev pub Operands : ℕ → Kind → ℕ → ℕ → Type 0
Operands e Itself i j = Unit {0}
Operands e Label i j = Unit {0}
Operands e Text i j = Unit {0}
Operands e Child i j = i < e
Operands e At i j = (i < e) × (j < e)
Operands e Below i j = i < e
Operands e Kinds.Or i j = (i < e) × (j < e)
Operands e Kinds.And i j = (i < e) × (j < e)
Operands e Kinds.Not i j = i < e

-- list and fragment keep their rules, and the memory's size is rows × entries
pub record Ruled (s : Source) (m : Memory) : Type 0 where
  pub number : ℕ
  pub sound : Sound number (fragment_of s)
  pub keeps : Keeps s.list s.text.now
  pub cells : m.cells ≡ row_count (fragment_of s) * s.list.count

-- room for every step
pub record Room (m : Memory) : Type 0 where
  pub room : 4 * m.cells + 12288 ≤ length m.work.now
  pub count : m.steps ≤ 4096

abbrev pub state : Memory → St
state m = st m.work.now m.steps

-- the lent memory is the same one, as long as it was, and things lie where they lay
abbrev pub Same : Memory → Memory → Type 0
Same m m' = (m'.work.ghost_name ≡ m.work.ghost_name) × (m'.cells ≡ m.cells) × (length m'.work.now ≡ length m.work.now)

-- what a function leaves: the memory, the count and the reference are those of g, or of s
pub record Given (g : Got) (m : Memory) (c : ℕ) : Type 0 where
  pub is : got m.work.now m.steps c ≡ g
  pub count : m.steps ≤ 4096

pub record Done (s : St) (m : Memory) : Type 0 where
  pub is : state m ≡ s
  pub count : m.steps ≤ 4096

-- by the result; where a step did not fit, the count of g, or of s, is 4097
abbrev pub Gives : Got → Memory → Result ℕ TooMany → Type 0
Gives g m r = MatchResult r (λ c. Given g m c) (λ e. g.steps ≡ 4097)

abbrev pub Does : {A : Type 0} → St → Memory → Result A TooMany → Type 0
Does s m r = MatchResult r (λ u. Done s m) (λ e. s.steps ≡ 4097)
