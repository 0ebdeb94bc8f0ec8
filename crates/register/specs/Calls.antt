-- Any finite sequence of calls of a desk, each as its contract allows.
use Rattle.std.specs.Prelude.{ℕ, ◌≢◌}
use mathlib.Core.List.{List, [], ◌∷◌, Memᴰ}
use Rattle.meaning.specs.Bytes.{Bytes}
use Rattle.desk.specs.Calls.{Opens, Accepts, Asks}
use Rattle.whole.specs.declared.Record.{Record}

-- a call, with the number that it answered: bytes handed in, an ask with what it said, an opening
pub data Event : Type 0 where
  handed : Bytes → ℕ → Event
  asked : ℕ → ℕ → Event
  opening : Bytes → ℕ → ℕ → ℕ → Event

-- record and store before, the calls in order, record and store after; every opening among them is refused
pub data Calls : Record → Bytes → List Event → Record → Bytes → Type 0 where
  none : {d : Record} {store : Bytes} → Calls d store [] d store
  hand : {d d' e : Record} {store store' x : Bytes} {l : List Event} (s : Bytes) (n : ℕ)
      → Accepts d store s n d' store' → Calls d' store' l e x → Calls d store (Event.handed s n ∷ l) e x
  ask : {d e : Record} {store x : Bytes} {l : List Event} (n a : ℕ)
      → Asks d store n a → Calls d store l e x → Calls d store (Event.asked n a ∷ l) e x
  open_refused : {d d' e : Record} {store x : Bytes} {l : List Event} (layout : Bytes) (entries number n : ℕ)
      → n ≢ 0 → Opens d layout entries number n d' → Calls d' store l e x → Calls d store (Event.opening layout entries number n ∷ l) e x

-- these bytes were handed in: the caller's act, whatever the desk said
abbrev pub HandedIn : Bytes → List Event → Type 0
HandedIn s l = (n : ℕ) × Memᴰ (Event.handed s n) l
