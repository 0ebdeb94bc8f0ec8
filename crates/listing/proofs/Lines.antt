-- The lines of a list: what is left of them while they are put on a page, and how long they are at most.
use Prim.Native.Nat.{ℕ, zero, suc, ◌+◌, ◌-◌, ◌*◌, ◌/◌, ◌%◌, ◌≤◌, ◌<◌}
use native.Mathlib.Omega.{arith}
use native.Mathlib.Decide.{dec_lt}
use mathlib.Core.Path.{◌≡◌, refl, sym, ap, ◌∙◌}
use mathlib.Core.List.{[], ◌∷◌, ◌++◌, append_assoc}
use mathlib.Core.Logic.{◌⊎◌, inl, inr}
use lib.ListN.{length, get_or, drop, length-append, length-take}
use borrow.Author.Tests.{lt-ltb, le-ltb}
use Rattle.meaning.specs.Bytes.{Bytes, ascii, word}
use Rattle.meaning.specs.Entry.{Entry}
use Rattle.meaning.specs.Reply.{tabulated}
use Rattle.question.specs.declared.List as L
use Rattle.question.specs.declared.kind.Kind.{Kind}
use Rattle.question.specs.declared.kind.Kind.TheVariants.{Itself, Label, Text, Child, At, Below, Or, And, Not}
use Rattle.question.specs.declared.entry.Entry as E
use Rattle.question.specs.inner.Kind.{code, IsEntry}
use Rattle.question.specs.Listed.{entry_of, EntryRule, Keeps, listed}
use Rattle.question.proofs.Listed.{listed_length}
use Rattle.listing.specs.Listing.{decimal, shown, line, lines, listing, listing_of, Lists}
use Rattle.listing.specs.inner.Parts.{entry_in, word_of, operands}
use Rattle.listing.specs.Promise.{OneListing, MostListing}

-- DECIMAL DIGITS
one_digit : (n : ℕ) → n < 10 → (48 + n) ∷ [] ≡ decimal n
unfolding decimal
one_digit n h = rw (lt-ltb n 10 h)

two_digits : (n : ℕ) → 10 ≤ n → (48 + n / 10) ∷ (48 + n % 10) ∷ [] ≡ decimal n
unfolding decimal
two_digits n h = rw (le-ltb n 10 h)

pub one_size : (n : ℕ) → n < 10 → length (decimal n) ≡ 1
one_size n h = sym (ap length (one_digit n h))

pub two_size : (n : ℕ) → 10 ≤ n → length (decimal n) ≡ 2
two_size n h = sym (ap length (two_digits n h))

-- a number's bytes are put: x and y are the digits that the code puts
pub put_one : (before : Bytes) {after : Bytes} {n y : ℕ} → n < 10 → after ≡ before ++ y ∷ [] → y ≡ 48 + n → after ≡ before ++ decimal n
put_one before {n = n} h p e = rw (p, e) (ap (λ w. before ++ w) (one_digit n h))

pub put_two : (before : Bytes) {tens after : Bytes} {n x y : ℕ} → 10 ≤ n → tens ≡ before ++ x ∷ [] → after ≡ tens ++ y ∷ [] → x ≡ 48 + n / 10 → y ≡ 48 + n % 10 → after ≡ before ++ decimal n
put_two before {n = n} h p q d e =
    rw (q, p, d, e) (append_assoc before ((48 + n / 10) ∷ []) ((48 + n % 10) ∷ []) ∙ ap (λ w. before ++ w) (two_digits n h))

pub decimal_size : (n : ℕ) → length (decimal n) ≤ 2
decimal_size n = elim (dec_lt n 10) [ yes h ↦ omega (arith, one_size n h) | no h ↦ omega (arith, two_size n (omega arith)) ]

-- THE PARTS OF AN ENTRY that keeps its rule
module _ {t : Bytes} {i a b : ℕ} (kind : Kind) (r : EntryRule t i (code kind) a b) where
  pub word_inside : kind ≡ Label ⊎ kind ≡ Text → a + b ≤ length t
  unfolding entry_of
  word_inside (inl h) = (rw h at r.points).1
  word_inside (inr h) = (rw h at r.points).1

  pub one_before : kind ≡ Child ⊎ (kind ≡ Below ⊎ kind ≡ Not) → a < i
  unfolding entry_of
  one_before (inl h) = rw h at r.points
  one_before (inr (inl h)) = rw h at r.points
  one_before (inr (inr h)) = rw h at r.points

  pub two_before : kind ≡ At ⊎ (kind ≡ Or ⊎ kind ≡ And) → (a < i) × (b < i)
  unfolding entry_of
  two_before (inl h) = rw h at r.points
  two_before (inr (inl h)) = rw h at r.points
  two_before (inr (inr h)) = rw h at r.points

-- A LINE, from its parts
parts : (t : Bytes) (kind : Kind) (a b : ℕ) → word_of kind ++ operands t kind a b ≡ shown (entry_of (word t) (code kind) a b)
unfolding shown entry_of
parts t Itself a b = refl
parts t Label a b = refl
parts t Text a b = refl
parts t Child a b = refl
parts t At a b = refl
parts t Below a b = refl
parts t Or a b = refl
parts t And a b = refl
parts t Not a b = refl

pub line_length : (i : ℕ) (e : Entry Bytes) → length (line i e) ≡ length (decimal i) + (length (shown e) + 2)
unfolding line
line_length i e = omega (arith, length-append (decimal i) (ascii " " ++ (shown e ++ ascii "\n")), length-append (shown e) (ascii "\n"))

module _ (l : L.List) (t : Bytes) (i : ℕ) {x : E.Entry} (is : IsEntry l i x) where
  shown_is : word_of x.kind ++ operands t x.kind x.a x.b ≡ shown (entry_in l t i)
  shown_is = rw (← is.kind, ← is.a, ← is.b) (parts t x.kind x.a x.b)

  pub line_size : length (line i (entry_in l t i)) ≡ length (decimal i) + length (word_of x.kind) + length (operands t x.kind x.a x.b) + 2
  line_size = omega (arith, line_length i (entry_in l t i), ap length shown_is, length-append (word_of x.kind) (operands t x.kind x.a x.b))

  -- blank and feed are the bytes that the code puts after the number and at the end
  pub line_put : (before : Bytes) {blank feed : ℕ} → blank ≡ 32 → feed ≡ 10 → ((((before ++ decimal i) ++ blank ∷ []) ++ word_of x.kind) ++ operands t x.kind x.a x.b) ++ feed ∷ [] ≡ before ++ line i (entry_in l t i)
  unfolding line
  line_put before d e = rw (d, e) (simp append_assoc (rw (← shown_is) (simp append_assoc)))

-- THE LINES that are still to be put, from entry i on
abbrev pub left : L.List → Bytes → ℕ → Bytes
left l t i = lines i (tabulated (l.count - i) i (entry_in l t))

module _ (l : L.List) (t : Bytes) where
  left_first : left l t 0 ≡ lines 0 (listed l t)
  unfolding listed
  left_first = let e : l.count - 0 ≡ l.count = omega arith in ap (λ n. lines 0 (tabulated n 0 (entry_in l t))) e

  pub left_more : (i : ℕ) → i < l.count → left l t i ≡ line i (entry_in l t i) ++ left l t (i + 1)
  unfolding lines tabulated
  left_more i h =
      let e : l.count - i ≡ suc (l.count - suc i) = omega arith in
      let s : suc i ≡ i + 1 = omega arith in
      ap (λ n. lines i (tabulated n i (entry_in l t))) e ∙ ap (λ j. line i (entry_in l t i) ++ left l t j) s

  pub left_none : (i : ℕ) → l.count ≤ i → left l t i ≡ []
  unfolding lines tabulated
  left_none i h = let e : l.count - i ≡ 0 = omega arith in rw e

  -- the whole listing, of which the first line is put
  pub head_put : ((ascii "entries " ++ decimal l.count) ++ ascii "\n") ++ left l t 0 ≡ listing_of l t
  unfolding listing
  head_put =
      append_assoc (ascii "entries " ++ decimal l.count) (ascii "\n") (left l t 0)
      ∙ append_assoc (ascii "entries ") (decimal l.count) (ascii "\n" ++ left l t 0)
      ∙ ap (λ w. ascii "entries " ++ (decimal l.count ++ (ascii "\n" ++ w))) left_first
      ∙ ap (λ n. ascii "entries " ++ (decimal n ++ (ascii "\n" ++ lines 0 (listed l t)))) (sym (listed_length l t))

  -- a line more is put
  pub line_more : (page next : Bytes) (i : ℕ) → i < l.count → next ≡ page ++ line i (entry_in l t i) → page ++ left l t i ≡ listing_of l t → next ++ left l t (i + 1) ≡ listing_of l t
  line_more page next i h e w = ap (λ p. p ++ left l t (i + 1)) e ∙ append_assoc page (line i (entry_in l t i)) (left l t (i + 1)) ∙ ap (λ x. page ++ x) (sym (left_more i h)) ∙ w

-- SIZES: a line has 73 bytes at most, and a byte more from entry 10 on
word_size : (t : Bytes) (a b : ℕ) → length (word t a b) ≤ b
word_size t a b = omega (arith, length-take b (drop a t))

pair_size : (a b : ℕ) → length (decimal a ++ (ascii " " ++ decimal b)) ≤ 5
pair_size a b = omega (arith, length-append (decimal a) (ascii " " ++ decimal b), decimal_size a, decimal_size b)

decimal_step : (i : ℕ) → length (decimal i) + (i - 10) ≤ 1 + (suc i - 10)
decimal_step i = elim (dec_lt i 10) [ yes h ↦ omega (arith, one_size i h) | no h ↦ omega (arith, decimal_size i) ]

shown_size : (t : Bytes) (i k a b : ℕ) → EntryRule t i k a b → length (shown (entry_of (word t) k a b)) ≤ 70
unfolding shown entry_of
shown_size t i zero a b r = omega arith
shown_size t i (suc zero) a b r = omega (arith, word_size t a b, r.points.0)
shown_size t i (suc (suc zero)) a b r = omega (arith, word_size t a b, r.points.0)
shown_size t i (suc (suc (suc zero))) a b r = omega (arith, decimal_size a)
shown_size t i (suc (suc (suc (suc zero)))) a b r = omega (arith, pair_size a b)
shown_size t i (suc (suc (suc (suc (suc zero))))) a b r = omega (arith, decimal_size a)
shown_size t i (suc (suc (suc (suc (suc (suc zero)))))) a b r = omega (arith, pair_size a b)
shown_size t i (suc (suc (suc (suc (suc (suc (suc zero))))))) a b r = omega (arith, pair_size a b)
shown_size t i (suc (suc (suc (suc (suc (suc (suc (suc zero)))))))) a b r = omega (arith, decimal_size a)
shown_size t i (suc (suc (suc (suc (suc (suc (suc (suc (suc k))))))))) a b r = omega (arith, r.known)

lines_size : (n i : ℕ) (f : ℕ → Entry Bytes) → ((j : ℕ) → j < n + i → length (shown (f j)) ≤ 70) → length (lines i (tabulated n i f)) + (73 * i + (i - 10)) ≤ 73 * (n + i) + (n + i - 10)
unfolding lines tabulated
lines_size zero i f h = omega arith
lines_size (suc n) i f h =
    omega (arith, lines_size n (suc i) f (λ j k. h j (omega arith)), length-append (line i (f i)) (lines (suc i) (tabulated n (suc i) f)), line_length i (f i), h i (omega arith), decimal_step i)

pub most_listing : MostListing
unfolding listing listed
most_listing l t k =
    let n = length-append (decimal (length (listed l t))) (ascii "\n" ++ lines 0 (listed l t)) in
    let s = lines_size l.count 0 (entry_in l t) (λ j h. shown_size t j (get_or l.kinds j 0) (get_or l.left j 0) (get_or l.right j 0) (k.each j (omega arith))) in
    (omega arith, omega (arith, n, s, decimal_size (length (listed l t)), k.most))

-- the page has room for a line that is still to be put
pub left_room : (l : L.List) (t page : Bytes) (i : ℕ) → i < l.count → Keeps l t → page ++ left l t i ≡ listing_of l t → length page + length (line i (entry_in l t i)) ≤ 2369
left_room l t page i h k w =
    omega (arith, (most_listing l t k).1, ap length w, length-append page (left l t i), ap length (left_more l t i h), length-append (line i (entry_in l t i)) (left l t (i + 1)))

-- WHAT GOES OUT, where w is the listing
module _ {l : L.List} {t old w : Bytes} (k : Keeps l t) (e : w ≡ listing_of l t) where
  pub list_written : {part : Bytes} → part ≡ w → length w ≤ length old → Lists l t old (length w) (part ++ drop (length w) old)
  list_written p h = rw (p, e) (Lists.written k (omega (arith, ap length e)))

  pub list_short : length old < length w → Lists l t old (length w) old
  list_short h = rw e (Lists.short k (omega (arith, ap length e)))

-- ONE LISTING
pub one_listing : OneListing
one_listing l t old r s x y (Lists.written a b) (Lists.written c d) = (refl, refl)
one_listing l t old r s x y (Lists.written a b) (Lists.short c d) = absurd (omega arith)
one_listing l t old r s x y (Lists.written a b) (Lists.broken n) = absurd (n a)
one_listing l t old r s x y (Lists.short a b) (Lists.written c d) = absurd (omega arith)
one_listing l t old r s x y (Lists.short a b) (Lists.short c d) = (refl, refl)
one_listing l t old r s x y (Lists.short a b) (Lists.broken n) = absurd (n a)
one_listing l t old r s x y (Lists.broken n) (Lists.written c d) = absurd (n c)
one_listing l t old r s x y (Lists.broken n) (Lists.short c d) = absurd (n c)
one_listing l t old r s x y (Lists.broken n) (Lists.broken m) = (refl, refl)
