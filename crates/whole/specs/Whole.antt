-- When a reply is free of 13 to 15, and when record and store are whole (01, "The desk").
use Rattle.std.specs.Prelude.{ℕ, ◌≤◌, ◌<◌, ◌≡◌, ◌↔◌, ◌≢◌, length, get_or, take, drop}
use mathlib.Core.List.{Memᴰ}
use Rattle.meaning.specs.Bytes.{Bytes}
use Rattle.meaning.specs.Reply.{Reply}
use Rattle.meaning.specs.Register.{Layout, children_of}
use Rattle.reply.specs.Read.{Is}
use Rattle.meaning.specs.Refused.{Unless, Granted}
use Rattle.whole.specs.Tiles.{Tiled}
use Rattle.whole.specs.declared.Question.{Question}
use Rattle.whole.specs.declared.Record.{Record}

-- layout and entry count keep their rules
pub record OpenRules (layout : Bytes) (entries : ℕ) : Type 0 where
  pub layout_keeps : Layout layout
  pub some_entry : 1 ≤ entries
  pub few_entries : entries ≤ 32

-- a question's layout: its first `parts` bytes
abbrev pub layout_of : Question → Bytes
layout_of q = take q.parts q.layout

pub record Rules (q : Question) : Type 0 where
  pub few_parts : q.parts ≤ 32
  pub keeps : OpenRules (layout_of q) q.entries

-- ---- a reply
-- fragment in the layout, the same entry count, stand-ins exactly its children
pub record Shaped (q : Question) (r : Reply) : Type 0 where
  pub fragment_in : r.fragment < q.parts
  pub entries_same : r.entries ≡ q.entries
  pub children : (g : ℕ) → Memᴰ g r.ins ↔ Memᴰ g (children_of (layout_of q) r.fragment)

-- 13, 14, 15 in this order, and what comes after
abbrev pub Judging : Question → Bytes → (ℕ → Type 0) → ℕ → Type 0
Judging q s rest =
    Unless ((r : Reply) × Is 12 s r) 13
    (Unless ((r : Reply) → Is 12 s r → r.number ≡ q.number) 14
    (Unless ((r : Reply) → Is 12 s r → Shaped q r) 15 rest))

-- ---- the store
abbrev pub Heard : Question → ℕ → Type 0
Heard q f = (f < 32) × (get_or q.heard f 0 ≢ 0)

abbrev pub start_of : Question → ℕ → ℕ
start_of q f = get_or q.place f 0

abbrev pub size_of : Question → ℕ → ℕ
size_of q f = get_or q.size f 0

-- the bytes recorded for f
abbrev pub part_of : Question → Bytes → ℕ → Bytes
part_of q store f = take (size_of q f) (drop (start_of q f) store)

-- the bytes s are free of 13 to 15, and f's
pub record Own (q : Question) (s : Bytes) (f : ℕ) : Type 0 where
  pub judged : Judging q s Granted 0
  pub own : (r : Reply) → Is 12 s r → r.fragment ≡ f

-- the used part of the store is exactly the heard fragments' replies, each placed as recorded
pub record Laid (q : Question) (used : ℕ) (store : Bytes) : Type 0 where
  pub fits : used ≤ length store
  pub replies : (f : ℕ) → Heard q f → Own q (part_of q store f) f
  pub tiled : Tiled (Heard q) (start_of q) (size_of q) used

pub record Opened (q : Question) (used : ℕ) (store : Bytes) : Type 0 where
  pub rules : Rules q
  pub laid : Laid q used store

-- RECORD AND STORE ARE WHOLE: no question is open, the last number is 0 and nothing is heard or used; or a question is open as above
pub data Whole (d : Record) (store : Bytes) : Type 0 where
  closed : d.question.number ≡ 0 → d.last ≡ 0 → d.used ≡ 0 → ((f : ℕ) → Heard d.question f → ⊥) → Whole d store
  opened : d.question.number ≢ 0 → Opened d.question d.used store → Whole d store

-- an array's length, which a record's type does not tell
pub record Sizes (q : Question) : Type 0 where
  pub heard_all : length q.heard ≡ 32
  pub place_all : length q.place ≡ 32
  pub size_all : length q.size ≡ 32
