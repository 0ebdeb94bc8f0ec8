-- What the tests of `whole` ask, piece by piece. Inner functions' contracts cite these.
use Rattle.std.specs.Prelude.{ℕ, ◌+◌, ◌≤◌, ◌<◌, ◌≡◌, ◌⊎◌, length, Result, Ok, Err}
use Rattle.meaning.specs.Bytes.{Bytes}
use Rattle.meaning.specs.Register.{parent_of}
use Rattle.reply.specs.inner.Decode.{in_at}
use Rattle.reply.specs.declared.Head.{Head}
use Rattle.meaning.specs.Refused.{Granted}
use Rattle.whole.specs.Whole.{layout_of, Judging}
use Rattle.whole.specs.declared.Question.{Question}
use Rattle.whole.specs.declared.Unfit.{Unfit}
use Rattle.whole.specs.declared.Unfit.TheVariants.{NotAReply, OtherQuestion, Misfit}

-- g is among the first k stand-ins
pub record StandsFor (s : Bytes) (k g : ℕ) : Type 0 where
  pub at : ℕ
  pub less : at < k
  pub is : in_at s at ≡ g

-- the layout cuts fragment g from fragment f
pub record ChildOf (layout : Bytes) (f g : ℕ) : Type 0 where
  pub inside : g < length layout
  pub parent : parent_of layout g ≡ f

-- each stand-in of the reply s, whose header is h, is a child of its fragment
abbrev pub OnlyChildren : Bytes → Bytes → Head → Type 0
OnlyChildren layout s h = (i : ℕ) → i < h.ins → ChildOf layout h.fragment (in_at s i)

-- each child of the fragment has a stand-in
abbrev pub AllChildren : Bytes → Bytes → Head → Type 0
AllChildren layout s h = (g : ℕ) → ChildOf layout h.fragment g → StandsFor s h.ins g

-- `Shaped`, of header and bytes
pub record Fitting (q : Question) (s : Bytes) (h : Head) : Type 0 where
  pub fragment_in : h.fragment < q.parts
  pub entries_same : h.entries ≡ q.entries
  pub only : OnlyChildren (layout_of q) s h
  pub all : AllChildren (layout_of q) s h

-- the first of 13, 14, 15 that applies, or 0
abbrev pub Judged : Question → Bytes → ℕ → Type 0
Judged q s = Judging q s Granted

-- the number of a judgement, 0 where the reply fits
abbrev pub number_of : Unfit → ℕ
number_of NotAReply = 13
number_of OtherQuestion = 14
number_of Misfit = 15

abbrev pub judge_number : Result Head Unfit → ℕ
judge_number (Ok h) = 0
judge_number (Err e) = number_of e

module _ (H : ℕ → Type 0) (place size : ℕ → ℕ) where
  -- some part starts at x
  pub record Starts (x : ℕ) : Type 0 where
    pub part : ℕ
    pub is : H part
    pub here : place part ≡ x

  abbrev pub Apart : ℕ → ℕ → Type 0
  Apart f g = (place f + size f ≤ place g) ⊎ (place g + size g ≤ place f)

  -- part f is inside, apart from the others, and the last or followed
  pub record TileOk (used f : ℕ) : Type 0 where
    pub inside : place f + size f ≤ used
    pub apart : (g : ℕ) → H g → (g ≡ f → ⊥) → Apart f g
    pub follows : (place f + size f ≡ used) ⊎ Starts (place f + size f)

  pub record Tested (used : ℕ) : Type 0 where
    pub each : (f : ℕ) → H f → TileOk used f
    pub begins : (used ≡ 0) ⊎ Starts 0
