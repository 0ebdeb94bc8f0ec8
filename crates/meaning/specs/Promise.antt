-- WHAT IS PROVED OF THESE DEFINITIONS: each promise is a type, and proofs/ has an element under its name (`last_entry` of `LastEntry`).
use Rattle.std.specs.Prelude.{ℕ, suc, ◌-◌, ◌≤◌, ◌<◌, ◌≡◌, Bool, ◌↔◌, ◌≢◌, length}
use Rattle.std.proofs.Math.Option.{Option, none, some}
use mathlib.Core.List.{List, Memᴰ}
use Rattle.meaning.specs.Says.{Says}
use Rattle.meaning.specs.Bytes.{Bytes}
use Rattle.meaning.specs.Tree.{Tree}
use Rattle.meaning.specs.Question.{Question}
use Rattle.meaning.specs.Holds.{Holds}
use Rattle.meaning.specs.Entry.{Entry, entries, top, Earlier, EntryHolds}
use Rattle.meaning.specs.Fragment.{Fragment, Sound, row_count, rows_of}
use Rattle.meaning.specs.Reply.{Reply, stand_ins, laid_down}
use Rattle.meaning.specs.Register.{Register, parts, children_of, rows_in, StandsFor, Cut, joined, JoinedChild, RealIn, Parent}
use Rattle.meaning.specs.Solve.{outcome, waiting, said}
use Rattle.meaning.specs.Lawful.{Lawful, HereIn, LowerIn}
use Rattle.meaning.specs.Bound.{Open, step_bound}

-- the reader's list keeps the rule that each entry points only at earlier ones, and its last entry is the question
abbrev pub ReadersList : Type 0
ReadersList = (q : Question) → Earlier 0 (entries q) × (length (entries q) ≡ suc (top q))

abbrev pub LastEntry : Type 1
LastEntry = (t : Tree) (q : Question) (u : t.N) → Holds t q u ↔ EntryHolds t (entries q) (top q) u

-- THE JOINED REGISTER: a child is a real row, its parent is the one that 01 means, every real row but the top one has just one;
-- and a fragment's stand-ins are exactly its children in the layout, each met once
abbrev pub ChildIsReal : Type 0
ChildIsReal = (G : Register) → Cut G → (u v : ℕ × ℕ) → JoinedChild G u v → RealIn G v

abbrev pub ParentIs : Type 0
ParentIs = (G : Register) → Cut G → (u v : ℕ × ℕ) → RealIn G v → JoinedChild G u v ↔ Parent G v.0 v.1 u

abbrev pub OneParent : Type 0
OneParent = (G : Register) → Cut G → (v : ℕ × ℕ) → RealIn G v → v ≢ (0, 0)
    → (u : ℕ × ℕ) × Parent G v.0 v.1 u × ((w : ℕ × ℕ) → Parent G v.0 v.1 w → w ≡ u)

abbrev pub OneStandIn : Type 0
OneStandIn = (G : Register) → Cut G → (f k f' k' g : ℕ) → f < parts G → f' < parts G
    → StandsFor G f k g → StandsFor G f' k' g → (f ≡ f') × (k ≡ k')

abbrev pub Children : Type 0
Children = (G : Register) → Cut G → (f : ℕ) → f < parts G → (g : ℕ)
    → Memᴰ g (stand_ins (rows_in G f) (suc (rows_in G f).last)) ↔ Memᴰ g (children_of G.layout f)

-- MANY BOXES: the reply laid down for each fragment is lawful
abbrev pub DepotLawful : Type 0
DepotLawful = (G : Register) → Cut G → (es : List (Entry Bytes)) → Earlier 0 es → (number f : ℕ) → f < parts G
    → Lawful (HereIn G es) (LowerIn G es) (length es) (parts G) f (laid_down (rows_in G f) es number f)

-- the desk waits while a fragment is unheard; of lawful replies, all heard, it says what fragment 0's last entry means
abbrev pub Waits : Type 0
Waits = (n parts : ℕ) (heard : ℕ → Option Reply) (f : ℕ) → f < parts → heard f ≡ none → outcome n parts heard ≡ waiting

abbrev pub Solves : Type 1
Solves = (Here Lower : ℕ → ℕ → Type 0) (n parts : ℕ) → 0 < n → 0 < parts → (heard : ℕ → Option Reply)
    → ((f : ℕ) → f < parts → (r : Reply) × (heard f ≡ some r) × Lawful Here Lower n parts f r)
    → (b : Bool) × (outcome n parts heard ≡ said b) × Says (Here 0 (n - 1)) b

-- so of the replies laid down it says what the question means at the top row of the joined register
abbrev pub DeskAnswer : Type 0
DeskAnswer = (G : Register) → Cut G → (q : Question) (number : ℕ)
    → (b : Bool) × (outcome (length (entries q)) (parts G) (λ f. some (laid_down (rows_in G f) (entries q) number f)) ≡ said b)
    × Says (Holds (joined G) q (0, 0)) b

-- THE STEP BOUND, with the test that tells the open rows
abbrev pub StepBound : Type 0
StepBound = (number part : ℕ) (F : Fragment) → Sound part F → (es : List (Entry Bytes)) → Earlier 0 es
    → (is_open : ℕ → Bool) × ((k : ℕ) → k < row_count F → Says (Open (rows_of F) k) (is_open k))
    × (length (laid_down (rows_of F) es number part).steps ≤ step_bound (length es) (rows_of F) is_open)
