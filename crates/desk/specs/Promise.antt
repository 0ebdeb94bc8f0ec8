-- WHAT IS PROVED of the desk's calls: each promise is a type, and proofs/ has its element under its name (`one_opening` of `OneOpening`).
use Rattle.std.specs.Prelude.{ℕ, ◌≤◌, ◌≡◌, ◌≢◌, Result}
use Rattle.meaning.specs.Bytes.{Bytes}
use Rattle.whole.specs.Whole.{OpenRules, Whole, Sizes}
use Rattle.desk.specs.Changed.{fresh_record}
use Rattle.desk.specs.Calls.{Opens, Accepts, Asks}
use Rattle.desk.specs.Numbers.{refusal_number, record_after, said_number}
use Rattle.whole.specs.declared.Record.{Record}
use Rattle.desk.specs.declared.Refusal.{Refusal}
use Rattle.desk.specs.declared.Said.{Said}

-- ---- any two results that a contract allows are equal
abbrev pub OneOpening : Type 0
OneOpening = (d : Record) (layout : Bytes) (entries number m n : ℕ) (a b : Record)
    → Opens d layout entries number m a → Opens d layout entries number n b → (m ≡ n) × (a ≡ b)

abbrev pub OneAccepting : Type 0
OneAccepting = (d : Record) (store s : Bytes) (m n : ℕ) (a b : Record) (x y : Bytes)
    → Accepts d store s m a x → Accepts d store s n b y → (m ≡ n) × (a ≡ b) × (x ≡ y)

abbrev pub OneAsking : Type 0
OneAsking = (d : Record) (store : Bytes) (m n a b : ℕ) → Asks d store m a → Asks d store n b → (m ≡ n) × (a ≡ b)

-- the same of the answers themselves: of the calls by value, and of those that change the record in place
abbrev pub OneOpened : Type 0
OneOpened = (d : Record) (layout : Bytes) (entries number : ℕ) (a b : Result Record Refusal)
    → Opens d layout entries number (refusal_number a) (record_after d a)
    → Opens d layout entries number (refusal_number b) (record_after d b) → a ≡ b

abbrev pub OneAccepted : Type 0
OneAccepted = (d : Record) (store s : Bytes) (a b : Result Record Refusal) (x y : Bytes)
    → Accepts d store s (refusal_number a) (record_after d a) x
    → Accepts d store s (refusal_number b) (record_after d b) y → (a ≡ b) × (x ≡ y)

abbrev pub OneAsked : Type 0
OneAsked = (d : Record) (store : Bytes) (a b : Result Said Refusal)
    → Asks d store (refusal_number a) (said_number a) → Asks d store (refusal_number b) (said_number b) → a ≡ b

abbrev pub OneDeskOpen : Type 0
OneDeskOpen = (d : Record) (layout : Bytes) (entries number : ℕ) (m n : Result (Unit {0}) Refusal) (a b : Record)
    → Opens d layout entries number (refusal_number m) a → Opens d layout entries number (refusal_number n) b → (m ≡ n) × (a ≡ b)

abbrev pub OneDeskAccept : Type 0
OneDeskAccept = (d : Record) (store s : Bytes) (m n : Result (Unit {0}) Refusal) (a b : Record) (x y : Bytes)
    → Accepts d store s (refusal_number m) a x → Accepts d store s (refusal_number n) b y → (m ≡ n) × (a ≡ b) × (x ≡ y)

-- ---- whole: a successful opening of any record, with any store, is whole; accepting and a refused opening keep it
abbrev pub OpeningWhole : Type 0
OpeningWhole = (d : Record) (layout : Bytes) (entries number : ℕ) (a : Record) → Opens d layout entries number 0 a
    → (store : Bytes) → Whole a store

abbrev pub RefusedOpeningKeeps : Type 0
RefusedOpeningKeeps = (d : Record) (layout : Bytes) (entries number m : ℕ) (a : Record) → m ≢ 0 → Opens d layout entries number m a
    → (store : Bytes) → Whole d store → Whole a store

-- (an array's length, which a record's type does not tell, is 32)
abbrev pub AcceptingKeeps : Type 0
AcceptingKeeps = (d : Record) (store s : Bytes) (m : ℕ) (a : Record) (x : Bytes) → Sizes d.question
    → Accepts d store s m a x → Whole d store → Whole a x

-- a fresh record is whole, with any store
abbrev pub FreshWhole : Type 0
FreshWhole = (store : Bytes) → Whole fresh_record store

-- after number 4,294,967,295 every opening that escapes 10 gets 11 (a number above it stands only in a record that the host filled)
abbrev pub AfterTheLast : Type 0
AfterTheLast = (d : Record) (layout : Bytes) (entries number n : ℕ) (a : Record) → 4_294_967_295 ≤ d.last → number ≤ 4_294_967_295
    → OpenRules layout entries → Opens d layout entries number n a → n ≡ 11
