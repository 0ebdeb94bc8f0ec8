-- A list of at most 32 entries, kept one by one, is the packed list.
use Prim.Native.Nat.{ℕ, suc, ◌+◌, ◌-◌, ◌%◌, ◌≤◌, ◌<◌}
use native.Mathlib.Omega.{arith}
use native.Mathlib.Nat.{mod-eq_of_lt}
use mathlib.Core.Path.{◌≡◌, sym, ap, ◌∙◌}
use mathlib.Core.List.{List, [], ◌∷◌, ◌++◌, append_assoc, append-nil, map, map-append}
use lib.ListN.{length, length-append, length-map}
use lib.Seq.{set-append_seam}
use borrow.Author.Tests.{lt-ltb}
use Rattle.meaning.specs.Entry.{Entry, Points, Earlier}
use Rattle.question.specs.declared.List as L
use Rattle.question.specs.Listed.{Place}
use Rattle.reader.specs.Packed.{padded, packed, empty_list}
use Rattle.reader.specs.inner.Reading.{kind_code, left_of, right_of, stored, pushed, kept}

-- the operands of an entry are bytes
abbrev pub Small : Entry Place → Type 0
Small e = (left_of e < 256) × (right_of e < 256)

abbrev pub AllSmall : List (Entry Place) → Type 0
AllSmall [] = Unit {0}
AllSmall (e ∷ es) = Small e × AllSmall es

-- one more number into a row
number : (xs : List ℕ) (v : ℕ) → length xs < 32 → stored (padded xs) (length xs) v ≡ padded (xs ++ (v ∷ []))
number xs v h =
    let r : 32 - length xs ≡ suc (32 - length (xs ++ (v ∷ []))) = omega (arith, length-append xs (v ∷ [])) in
    rw (lt-ltb _ 32 h, r) (set-append_seam xs 0 _ v ∙ sym (append_assoc xs (v ∷ []) _))

row : (f : Entry Place → ℕ) (es : List (Entry Place)) (e : Entry Place) → length es < 32 → stored (padded (map f es)) (length es) (f e) ≡ padded (map f (es ++ (e ∷ [])))
row f es e h =
    let n : length (map f es) ≡ length es = length-map es f in
    let i : length (map f es) < 32 = omega arith in
    ap (λ k. stored (padded (map f es)) k (f e)) (sym n) ∙ number (map f es) (f e) i ∙ ap padded (sym (map-append f es (e ∷ [])))

lists : ℕ → List ℕ → List ℕ → List ℕ → L.List
lists n a b c = record { count = n; kinds = a; left = b; right = c }

pack_more : (es : List (Entry Place)) (e : Entry Place) → length es < 32 → Small e → pushed (packed es) (kind_code e) (left_of e) (right_of e) ≡ packed (es ++ (e ∷ []))
unfolding packed lists
pack_more es e h s = λ i. lists (counts i) (row kind_code es e h i) (lefts i) (rights i)
  where
    counts : length es + 1 ≡ length (es ++ (e ∷ []))
    counts = sym (length-append es (e ∷ []))

    lefts : stored (padded (map left_of es)) (length es) (left_of e % 256) ≡ padded (map left_of (es ++ (e ∷ [])))
    lefts = ap (stored (padded (map left_of es)) (length es)) (mod-eq_of_lt s.0) ∙ row left_of es e h

    rights : stored (padded (map right_of es)) (length es) (right_of e % 256) ≡ padded (map right_of (es ++ (e ∷ [])))
    rights = ap (stored (padded (map right_of es)) (length es)) (mod-eq_of_lt s.1) ∙ row right_of es e h

keep_all : (es xs : List (Entry Place)) → length xs + length es ≤ 32 → AllSmall es → kept es (packed xs) ≡ packed (xs ++ es)
unfolding kept
keep_all [] xs h s = ap packed (sym (append-nil xs))
keep_all (e ∷ es) xs h s = ap (kept es) (pack_more xs e (omega arith) s.0) ∙ keep_all es (xs ++ (e ∷ [])) (omega (arith, length-append xs (e ∷ []))) s.1 ∙ ap packed (append_assoc xs (e ∷ []) es)

pub kept_packed : (es : List (Entry Place)) → length es ≤ 32 → AllSmall es → kept es empty_list ≡ packed es
unfolding packed
kept_packed es h s = keep_all es [] (omega arith) s

-- what points at earlier ones is small, where words are
abbrev pub WordSmall : Entry Place → Type 0
WordSmall Entry.self = Unit {0}
WordSmall (Entry.label w) = (w.0 < 256) × (w.1 < 256)
WordSmall (Entry.text w) = (w.0 < 256) × (w.1 < 256)
WordSmall (Entry.child q) = Unit {0}
WordSmall (Entry.at p q) = Unit {0}
WordSmall (Entry.lower q) = Unit {0}
WordSmall (Entry.or p q) = Unit {0}
WordSmall (Entry.and p q) = Unit {0}
WordSmall (Entry.not q) = Unit {0}

small_entry : (n : ℕ) (e : Entry Place) → n ≤ 32 → Points (λ w. Unit {0}) n e → WordSmall e → Small e
small_entry n Entry.self h p w = (omega arith, omega arith)
small_entry n (Entry.label x) h p w = w
small_entry n (Entry.text x) h p w = w
small_entry n (Entry.child q) h p w = (omega arith, omega arith)
small_entry n (Entry.at a b) h p w = (omega (arith, p.0), omega (arith, p.1))
small_entry n (Entry.lower q) h p w = (omega arith, omega arith)
small_entry n (Entry.or a b) h p w = (omega (arith, p.0), omega (arith, p.1))
small_entry n (Entry.and a b) h p w = (omega (arith, p.0), omega (arith, p.1))
small_entry n (Entry.not q) h p w = (omega arith, omega arith)

abbrev pub AllWordsSmall : List (Entry Place) → Type 0
AllWordsSmall [] = Unit {0}
AllWordsSmall (e ∷ es) = WordSmall e × AllWordsSmall es

pub all_small : (n : ℕ) (es : List (Entry Place)) → length es + n ≤ 32 → Earlier n es → AllWordsSmall es → AllSmall es
all_small n [] h p w = tt
all_small n (e ∷ es) h p w = (small_entry n e (omega arith) p.0 w.0, all_small (suc n) es (omega arith) p.1 w.1)
