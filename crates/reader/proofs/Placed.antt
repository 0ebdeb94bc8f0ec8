-- What the reader's list says of the text: each word stands where the list says, and the list stands for the question's entries.
use Prim.Native.Nat.{ℕ, zero, suc, ◌+◌, ◌-◌, ◌≤◌, ◌<◌}
use native.Mathlib.Omega.{arith}
use native.Mathlib.Nat.{zero-add, add-zero, suc-add, add-suc}
use mathlib.Core.Path.{◌≡◌, refl, sym, ap, ap₂, ◌∙◌}
use mathlib.Core.List.{List, [], ◌∷◌, ◌++◌, append-nil, map}
use lib.ListN.{length, get_or, drop, take, replicate, length-append, length-drop, length-map, get_or-append, get_or-map}
use lib.Seq.{take-append_seam}
use Rattle.meaning.specs.Bytes.{Bytes, word}
use Rattle.meaning.specs.Question.{Question, write_question}
use Rattle.meaning.specs.Term.{normal}
use Rattle.meaning.specs.Entry.{Entry, entries, Points, Earlier}
use Rattle.meaning.specs.Reply.{tabulated}
use Rattle.meaning.proofs.Entry.{flat_earlier, flat_length}
use Rattle.question.specs.Listed.{Place, entry_of, EntryRule, Keeps, listed}
use Rattle.reader.specs.Packed.{word_place, placed_entries, padded, packed}
use Rattle.reader.specs.inner.Reading.{kind_code, left_of, right_of}
use Rattle.reader.proofs.Pack.{WordSmall, AllWordsSmall}
use Rattle.reader.proofs.Alike.{AlikeEntry, AlikeLists, flat_alike, normal_alike}

-- the place of a word in the text
pub record Stands (t : Bytes) (p : Place) (w : Bytes) : Type 0 where
  pub small : p.1 ≤ 64
  pub inside : p.0 + p.1 ≤ length t
  pub is : word t p.0 p.1 ≡ w

placed : (t : Bytes) (a : ℕ) (w z : Bytes) → length w ≤ 64 → 0 < length (w ++ z) → drop a t ≡ w ++ z → Stands t (word_place a w) w
placed t a w z h k e = record { small = h; inside = omega (arith, ap length e, length-append w z, length-drop a t); is = ap (take (length w)) e ∙ take-append_seam w z }

-- the reader's entries and the question's are alike
alike : (t : Bytes) (q : Question) → write_question q ≡ t → AlikeLists (Stands t) (placed_entries q) (entries q)
alike t q e = flat_alike (Stands t) (normal_alike (Stands t) word_place (λ a w. w) t (placed t) q 0 [] (sym (append-nil (write_question q) ∙ e))) 0

small_words : (t : Bytes) {es : List (Entry Place)} {ys : List (Entry Bytes)} → length t ≤ 255 → AlikeLists (Stands t) es ys → AllWordsSmall es
small_words t h AlikeLists.none = tt
small_words t h (AlikeLists.more e a) = (one e, small_words t h a)
  where
    one : {x : Entry Place} {y : Entry Bytes} → AlikeEntry (Stands t) x y → WordSmall x
    one AlikeEntry.self = tt
    one (AlikeEntry.label s) = (omega (arith, s.inside), omega (arith, s.inside))
    one (AlikeEntry.text s) = (omega (arith, s.inside), omega (arith, s.inside))
    one (AlikeEntry.child q) = tt
    one (AlikeEntry.at p q) = tt
    one (AlikeEntry.lower q) = tt
    one (AlikeEntry.or p q) = tt
    one (AlikeEntry.and p q) = tt
    one (AlikeEntry.not q) = tt

pub words_small : (t : Bytes) (q : Question) → length t ≤ 255 → write_question q ≡ t → AllWordsSmall (placed_entries q)
words_small t q h e = small_words t h (alike t q e)

-- ENTRY BY ENTRY
alike_at : {t : Bytes} {es : List (Entry Place)} {ys : List (Entry Bytes)} → AlikeLists (Stands t) es ys → (i : ℕ) → i < length es → AlikeEntry (Stands t) (get_or es i Entry.self) (get_or ys i Entry.self)
alike_at AlikeLists.none i h = absurd (omega arith)
alike_at (AlikeLists.more e a) zero h = e
alike_at (AlikeLists.more e a) (suc i) h = alike_at a i (omega arith)

alike_length : {t : Bytes} {es : List (Entry Place)} {ys : List (Entry Bytes)} → AlikeLists (Stands t) es ys → length es ≡ length ys
alike_length AlikeLists.none = refl
alike_length (AlikeLists.more e a) = ap suc (alike_length a)

earlier_at : (n : ℕ) (es : List (Entry Place)) → Earlier n es → (i : ℕ) → i < length es → Points (λ w. Unit {0}) (i + n) (get_or es i Entry.self)
earlier_at n [] h i k = absurd (omega arith)
earlier_at n (e ∷ es) h zero k = rw zero-add h.0
earlier_at n (e ∷ es) h (suc i) k = rw (suc-add, ← add-suc) (earlier_at (suc n) es h.1 i (omega arith))

-- number i of a row of 32
padded_at : (f : Entry Place → ℕ) → f Entry.self ≡ 0 → (es : List (Entry Place)) (i : ℕ) → i < length es → get_or (padded (map f es)) i 0 ≡ f (get_or es i Entry.self)
padded_at f z es i h = get_or-append (map f es) (replicate (32 - length (map f es)) 0) 0 i (omega (arith, length-map es f)) ∙ ap (get_or (map f es) i) (sym z) ∙ get_or-map f es i Entry.self

entry_is : (t : Bytes) {x : Entry Place} {y : Entry Bytes} → AlikeEntry (Stands t) x y → entry_of (word t) (kind_code x) (left_of x) (right_of x) ≡ y
unfolding entry_of
entry_is t AlikeEntry.self = refl
entry_is t (AlikeEntry.label s) = ap Entry.label s.is
entry_is t (AlikeEntry.text s) = ap Entry.text s.is
entry_is t (AlikeEntry.child q) = refl
entry_is t (AlikeEntry.at p q) = refl
entry_is t (AlikeEntry.lower q) = refl
entry_is t (AlikeEntry.or p q) = refl
entry_is t (AlikeEntry.and p q) = refl
entry_is t (AlikeEntry.not q) = refl

entry_keeps : (t : Bytes) (i : ℕ) {x : Entry Place} {y : Entry Bytes} → AlikeEntry (Stands t) x y → Points (λ w. Unit {0}) i x → EntryRule t i (kind_code x) (left_of x) (right_of x)
unfolding entry_of
entry_keeps t i AlikeEntry.self p = record { known = omega arith; points = tt }
entry_keeps t i (AlikeEntry.label s) p = record { known = omega arith; points = (s.small, s.inside) }
entry_keeps t i (AlikeEntry.text s) p = record { known = omega arith; points = (s.small, s.inside) }
entry_keeps t i (AlikeEntry.child q) p = record { known = omega arith; points = p }
entry_keeps t i (AlikeEntry.at a b) p = record { known = omega arith; points = p }
entry_keeps t i (AlikeEntry.lower q) p = record { known = omega arith; points = p }
entry_keeps t i (AlikeEntry.or a b) p = record { known = omega arith; points = p }
entry_keeps t i (AlikeEntry.and a b) p = record { known = omega arith; points = p }
entry_keeps t i (AlikeEntry.not q) p = record { known = omega arith; points = p }

pub tabulated_is : {X : Type 0} (ys : List X) (z : X) (k : ℕ) (f : ℕ → X) → ((i : ℕ) → i < length ys → f (i + k) ≡ get_or ys i z) → tabulated (length ys) k f ≡ ys
unfolding tabulated
tabulated_is [] z k f h = refl
tabulated_is {X} (y ∷ ys) z k f h = ap₂ (λ a b. a ∷ b) (ap f (sym (zero-add k)) ∙ h 0 (omega arith)) (tabulated_is ys z (suc k) f (λ i j. ap f (add-suc i k ∙ sym (suc-add i k)) ∙ h (suc i) (omega arith)))

-- the packed list, as the rules and the entries see it
module _ (t : Bytes) (q : Question) (e : write_question q ≡ t) (few : length (placed_entries q) ≤ 32) where
  pub packed_keeps : Keeps (packed (placed_entries q)) t
  unfolding packed
  packed_keeps = record {
    some_entry = omega (arith, flat_length (normal word_place 0 q) 0);
    most = few;
    each = λ i h. rw (padded_at kind_code refl (placed_entries q) i h, padded_at left_of refl (placed_entries q) i h, padded_at right_of refl (placed_entries q) i h)
        (entry_keeps t i (alike_at (alike t q e) i h) (rw add-zero at (earlier_at 0 (placed_entries q) (flat_earlier (normal word_place 0 q) 0) i h)));
  }

  pub packed_listed : listed (packed (placed_entries q)) t ≡ entries q
  unfolding packed listed
  packed_listed = ap (λ n. tabulated n 0 at) size ∙ tabulated_is (entries q) Entry.self 0 at (λ i h. ap at (add-zero i) ∙ is i (omega (arith, size)))
    where
      size : length (placed_entries q) ≡ length (entries q)
      size = alike_length (alike t q e)

      at : ℕ → Entry Bytes
      at i = entry_of (word t) (get_or (padded (map kind_code (placed_entries q))) i 0) (get_or (padded (map left_of (placed_entries q))) i 0) (get_or (padded (map right_of (placed_entries q))) i 0)

      is : (i : ℕ) → i < length (placed_entries q) → at i ≡ get_or (entries q) i Entry.self
      is i h = rw (padded_at kind_code refl (placed_entries q) i h, padded_at left_of refl (placed_entries q) i h, padded_at right_of refl (placed_entries q) i h) (entry_is t (alike_at (alike t q e) i h))
