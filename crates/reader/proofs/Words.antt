-- Names and quoted words, as far as they go.
use Prim.Native.Nat.{ℕ, suc, ◌+◌, ◌≤◌, ◌<◌}
use native.Mathlib.Omega.{arith}
use native.Mathlib.Numerals.{one-add}
use mathlib.Core.Path.{◌≡◌, refl, sym, ap, ◌∙◌, subst}
use mathlib.Core.Bool.{Bool, true, false, cond, ◌&&◌, false≢true}
use mathlib.Core.Logic.{◌⊎◌, inl, inr}
use mathlib.Core.List.{[], ◌∷◌, ◌++◌, append_assoc}
use lib.ListN.{length, get_or, drop, take, take-append-drop}
use Rattle.std.specs.List.{prefix_len}
use Rattle.std.proofs.lemmas.List.Folds.{length-prefix_len}
use lib.Seq.{drop-drop}
use lib.Dec.{T, leb, le→leb, leb→le, lit<}
use Rattle.meaning.specs.Bytes.{Bytes}
use Rattle.meaning.specs.Question.{Quoted, is_letter, is_name_byte, is_quotable, is_name, is_quoted, all, write_quoted}
use Rattle.reader.specs.declared.state.State.{State}
use Rattle.reader.specs.inner.Reading.{added, moved, byte_at, Worded}
use Rattle.reader.proofs.Text.{inside, head_at, rest_at, cons_at}
use Rattle.reader.proofs.Heads.{both, span_all}

and_t : (a b : Bool) → T a → T b → T (a && b)
and_t true b x y = y
and_t false b x y = absurd x

-- the bytes that pass are a word of bytes that pass
pub span_front : (p : ℕ → Bool) (x : Bytes) → T (all p (take (prefix_len p x) x))
unfolding all
span_front p [] = tt
span_front p (b ∷ x) = go (p b) refl (span_front p x)
  where
    go : (c : Bool) → p b ≡ c → T (all p (take (prefix_len p x) x)) → T (all p (take (cond c (1 + prefix_len p x) 0) (b ∷ x)))
    go true e h = rw (one-add, e) h
    go false e h = tt

pub name_word : (x : Bytes) → is_letter (get_or x 0 0) ≡ true → prefix_len is_name_byte x ≤ 64 → T (is_name (take (prefix_len is_name_byte x) x))
unfolding is_name
name_word [] e h = absurd (false≢true e)
name_word (b ∷ x) e h = go (is_name_byte b) (rw e) h
  where
    go : (c : Bool) → c ≡ true → cond c (1 + prefix_len is_name_byte x) 0 ≤ 64 → T (is_name (take (cond c (1 + prefix_len is_name_byte x) 0) (b ∷ x)))
    go true i k = rw one-add (and_t (is_letter b && all is_name_byte (take (prefix_len is_name_byte x) x)) (leb (suc (length (take (prefix_len is_name_byte x) x))) 64) (and_t (is_letter b) (all is_name_byte (take (prefix_len is_name_byte x) x)) (subst T (sym e) tt) (span_front is_name_byte x))
        (le→leb (suc (length (take (prefix_len is_name_byte x) x))) 64 (omega (arith, length-prefix_len is_name_byte x))))
    go false i k = absurd (false≢true i)

pub name_size_lem : (w : Bytes) → T (is_name w) → length w ≤ 64
unfolding is_name
name_size_lem [] h = omega arith
name_size_lem (b ∷ w) h = omega (arith, leb→le (suc (length w)) 64 (both (is_letter b && all is_name_byte w) (leb (suc (length w)) 64) h).1)

pub name_some_byte : (w : Bytes) → T (is_name w) → 0 < length w
unfolding is_name
name_some_byte [] h = absurd h
name_some_byte (b ∷ w) h = omega arith

pub quoted_size : (w : Bytes) → T (is_quoted w) → length w ≤ 64
unfolding is_quoted
quoted_size w h = leb→le (length w) 64 (both (all is_quotable w) (leb (length w) 64) h).1

pub quoted_all : (w : Bytes) → T (is_quoted w) → T (all is_quotable w)
unfolding is_quoted
quoted_all w h = (both (all is_quotable w) (leb (length w) 64) h).0

-- what stands at a place is the word that spans there, and the rest
pub word_at : (t : Bytes) (at n : ℕ) → drop at t ≡ take n (drop at t) ++ drop (at + n) t
word_at t at n = sym (take-append-drop n (drop at t)) ∙ ap (λ x. take n (drop at t) ++ x) (drop-drop n at t)

-- A QUOTED WORD
module _ (t : Bytes) (s : State) (kind : ℕ) where
  -- where its closing quote is to stand
  abbrev start : ℕ
  start = s.at + 1

  abbrev size : ℕ
  size = prefix_len is_quotable (drop start t)

  -- a word that stands there is found
  found : (w : Quoted) (z : Bytes) → drop s.at t ≡ write_quoted w ++ z → (byte_at t s.at ≡ 34) × (size ≡ length w.bytes) × (byte_at t (start + size) ≡ 34)
  found w z e = (head_at t s.at _ e, n, ap (λ k. byte_at t (start + k)) n ∙ head_at t (start + length w.bytes) (34 ∷ z) (rest_at t start w.bytes (34 ∷ z) e'))
    where
      e' : drop start t ≡ w.bytes ++ (34 ∷ z)
      e' = rest_at t s.at (34 ∷ []) _ e ∙ append_assoc w.bytes (34 ∷ []) z

      n : size ≡ length w.bytes
      n = ap (prefix_len is_quotable) e' ∙ span_all is_quotable w.bytes (34 ∷ z) (quoted_all w.bytes w.well_quoted) refl

  pub no_word : (64 < size) ⊎ (byte_at t (start + size) ≡ 34 → ⊥) → (w : Quoted) (z : Bytes) → drop s.at t ≡ write_quoted w ++ z → ⊥
  no_word (inl h) w z e = omega (arith, (found w z e).1, quoted_size w.bytes w.well_quoted)
  no_word (inr n) w z e = n (found w z e).2

  pub quoted_read : byte_at t s.at ≡ 34 → byte_at t (start + size) ≡ 34 → size ≤ 64 → Worded t s (added (moved s (start + size + 1)) kind start size) kind s.list.count
  unfolding is_quoted
  quoted_read b b' h =
      let i : s.at < length t = inside t s.at 34 b (lit< tt) in
      let j : start + size < length t = inside t (start + size) 34 b' (lit< tt) in
      record {
        goes = record { onward = omega arith; inside = omega arith; few = omega arith; level = refl; same = refl };
        word = word;
        text = text;
        is = ap (λ n. added (moved s (start + n + 1)) kind start n) (sym (length-prefix_len is_quotable (drop start t)));
        top = refl;
        alone = λ w z e. ap (λ n. added (moved s (start + n + 1)) kind start n) (found w z e).1;
      }
    where
      word : Quoted
      word = record { bytes = take size (drop start t); well_quoted = and_t (all is_quotable (take size (drop start t))) (leb (length (take size (drop start t))) 64) (span_front is_quotable (drop start t)) (le→leb (length (take size (drop start t))) 64 (omega (arith, length-prefix_len is_quotable (drop start t)))) }

      text : drop s.at t ≡ write_quoted word ++ drop (start + size + 1) t
      text = cons_at t s.at 34 b (lit< tt) ∙ ap (λ x. 34 ∷ x) (word_at t start size ∙ ap (λ x. word.bytes ++ x) (cons_at t (start + size) 34 b' (lit< tt)) ∙ sym (append_assoc word.bytes (34 ∷ []) (drop (start + size + 1) t)))
