-- A DEPOT'S FORMULA (01): rows from last to first, and for each row and entry V (here), C (some child), D (here or below).
use Rattle.std.specs.Prelude.{ℕ, zero, suc, Bool, true, false, cond, List, [], ◌∷◌, length, eqb}
use Rattle.meaning.specs.Bytes.{Bytes, label_is, text_is}
use Rattle.meaning.specs.Entry.{Entry}
use Rattle.meaning.specs.Algebra.{Algebra}
use Rattle.meaning.specs.Fragment.{Rows}

-- a function changed at one number
abbrev pub upd : {X : Type 0} → (ℕ → X) → ℕ → X → ℕ → X
upd f i x j = cond (eqb j i) x (f j)

module _ (A : Algebra) where
  -- V and D of one row, by entry
  pub record Vectors : Type 0 where
    pub st : A.St
    pub v : ℕ → A.Ref
    pub d : ℕ → A.Ref

  -- C and D of a row that something was delivered to
  pub record Delivered : Type 0 where
    pub st : A.St
    pub c : ℕ → A.Ref
    pub d : ℕ → A.Ref

  -- C and D of every row, by row and entry
  pub record Tables : Type 0 where
    pub st : A.St
    pub c : ℕ → ℕ → A.Ref
    pub d : ℕ → ℕ → A.Ref

  abbrev pub literal : Bool → A.Ref
  literal true = A.high
  literal false = A.low

  -- V of an entry by its kind, where the row's label and text pass the tests `lab` and `txt`; child reads C, lower (01's below) reads D
  abbrev pub value_of : (Bytes → Bool) → (Bytes → Bool) → Entry Bytes → A.St → (ℕ → A.Ref) → (ℕ → A.Ref) → (ℕ → A.Ref) → A.St × A.Ref
  value_of lab txt Entry.self s v c d = (s, A.high)
  value_of lab txt (Entry.label w) s v c d = (s, literal (lab w))
  value_of lab txt (Entry.text w) s v c d = (s, literal (txt w))
  value_of lab txt (Entry.child q) s v c d = (s, c q)
  value_of lab txt (Entry.at p q) s v c d = A.and s (v p) (v q)
  value_of lab txt (Entry.lower q) s v c d = (s, d q)
  value_of lab txt (Entry.or p q) s v c d = A.or s (v p) (v q)
  value_of lab txt (Entry.and p q) s v c d = A.and s (v p) (v q)
  value_of lab txt (Entry.not q) s v c d = A.neg s (v q)

  -- at a real row, for each entry in order, the first being entry i: V by its kind, then D becomes V or D
  unfoldable pub visit : (Bytes → Bool) → (Bytes → Bool) → (ℕ → A.Ref) → List (Entry Bytes) → ℕ
      → A.St → (ℕ → A.Ref) → (ℕ → A.Ref) → Vectors
  visit lab txt c [] i s v d = record { st = s; v = v; d = d }
  visit lab txt c (e ∷ l) i s v d =
      let a = value_of lab txt e s v c d in
      let b = A.or a.0 a.1 (d i) in
      visit lab txt c l (suc i) b.0 (upd v i a.1) (upd d i b.1)

  -- to the parent, for n entries from i on: its C becomes C or V, then its D becomes D or this D
  unfoldable pub push : (ℕ → A.Ref) → (ℕ → A.Ref) → ℕ → ℕ → A.St → (ℕ → A.Ref) → (ℕ → A.Ref) → Delivered
  push v d zero i s pc pd = record { st = s; c = pc; d = pd }
  push v d (suc n) i s pc pd =
      let a = A.or s (pc i) (v i) in
      let b = A.or a.0 (pd i) (d i) in
      push v d n (suc i) b.0 (upd pc i a.1) (upd pd i b.1)

  -- the rows R, the entries es, and the variables of each stand-in row
  module _ (R : Rows) (es : List (Entry Bytes)) (var_v var_d : ℕ → ℕ → A.Ref) where
    -- V and D of row k, the rows after it being done; a stand-in's are variables
    unfoldable pub row : ℕ → Tables → Vectors
    row k S =
        cond (R.stands k) (record { st = S.st; v = var_v k; d = var_d k })
        (visit (λ w. label_is w (R.label k)) (λ w. text_is w (R.text k)) (S.c k) es 0 S.st (λ e. A.low) (S.d k))

    unfoldable pub deliver : ℕ → Tables → Tables
    deliver k S =
        let r = row k S in
        let p = R.parent k in
        let o = push r.v r.d (length es) 0 r.st (S.c p) (S.d p) in
        record { st = o.st; c = upd S.c p o.c; d = upd S.d p o.d }

    -- rows k, k - 1, .. 1
    unfoldable pub sweep : ℕ → Tables → Tables
    sweep zero S = S
    sweep (suc k) S = sweep k (deliver (suc k) S)

    -- V and D of row 0, from the store s; C and D begin false
    unfoldable pub run : A.St → Vectors
    run s = row 0 (sweep R.last (record { st = s; c = λ r e. A.low; d = λ r e. A.low }))
