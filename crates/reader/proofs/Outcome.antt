-- From the state after the last form to the answer; and that there is one answer.
use Prim.Native.Nat.{ℕ, ◌≤◌, ◌<◌}
use native.Mathlib.Omega.{arith}
use native.Mathlib.Nat.{zero-add}
use native.Mathlib.Decide.{ℕ_discrete}
use mathlib.Core.Path.{◌≡◌, refl, sym, ap, ap₂, ◌∙◌, subst}
use mathlib.Core.Bool.{true, false, true≢false, false≢true}
use mathlib.Core.List.{List, [], ◌∷◌, ◌++◌, append-nil}
use lib.ListN.{length, get_or, drop}
use lib.Seq.{drop-length}
use lib.Dec.{eqb}
use borrow.Author.Tests.{eqb-false}
use Rattle.meaning.specs.Refused.{Unless, Granted}
use Rattle.meaning.proofs.Refused.{One, one_granted, one_unless, through}
use Rattle.meaning.specs.Bytes.{Bytes}
use Rattle.meaning.specs.Question.{Question, write_question}
use Rattle.meaning.specs.Term.{normal}
use Rattle.meaning.specs.Entry.{Entry}
use Rattle.meaning.proofs.Entry.{flat_earlier}
use Rattle.std.specs.Borrow.{Bor}
use Rattle.reader.specs.declared.state.State.{State}
use Rattle.reader.specs.Nesting.{nesting}
use Rattle.reader.specs.Packed.{word_place, placed_entries, packed, empty_list}
use Rattle.reader.specs.Read.{Written, Sized, Scan, ReadRefusal, Read, read_number, answer_of}
use Rattle.reader.specs.declared.Refusal.{Refusal}
use Rattle.std.specs.Prelude.{Result, Ok, Err, Option, Some, None, is_some}
use Rattle.question.specs.declared.List as L
use Rattle.reader.specs.inner.Reading.{kept, emitted, Form, StandsAt, Nowhere, Found, ReadsIn}
use Rattle.question.specs.Listed.{Place, Keeps, listed}
use Rattle.reader.specs.Promise.{OneRead, OneResult, ReadKeeps, ReadListed}
use Rattle.reader.proofs.Emit.{kept_count}
use Rattle.reader.proofs.Nesting.{reach_all}
use Rattle.reader.proofs.Unique.{write_once, by_nothing}
use Rattle.reader.proofs.Pack.{kept_packed, all_small}
use Rattle.reader.proofs.Placed.{words_small, packed_keeps, packed_listed}

abbrev pub start : Bor Bytes → State
start x = record { text = x; at = 0; depth = 0; deepest = 0; list = empty_list }

one_tree : {t : Bytes} (w v : Written t) → w.tree ≡ v.tree
one_tree w v = write_once w.tree v.tree (w.writes ∙ sym v.writes)

-- what holds of one tree that writes the text holds of all
every : {t : Bytes} (P : Question → Type 0) (w : Written t) → P w.tree → (v : Written t) → P v.tree
every P w p v = subst P (one_tree w v) p

count_kept : (es : List (Entry Place)) → (kept es empty_list).count ≡ length es
count_kept es = kept_count es empty_list ∙ omega arith

pub sized : (t : Bytes) → eqb (length t) 0 ≡ false → length t ≤ 255 → Sized t
sized t e h = (omega (arith, eqb-false (length t) 0 e), h)

-- A REFUSAL, by its number
some_number : (r : Refusal) → read_number r ≡ 0 → ⊥
some_number Refusal.TextLength e = omega arith
some_number Refusal.NotAQuestion e = omega arith
some_number Refusal.TooNested e = omega arith
some_number Refusal.TooManyEntries e = omega arith

module _ {t : Bytes} where
  refuses : (r : Refusal) → ReadRefusal t (read_number r) → Read t (answer_of (Err r))
  refuses r y = record { why = y; refused = λ n. refl; listed = λ e. absurd (some_number r e) }

  pub wrong_length : (Sized t → ⊥) → Read t (answer_of (Err Refusal.TextLength))
  wrong_length n = refuses Refusal.TextLength (Unless.refused n)

  pub not_grammar : Sized t → (Written t → ⊥) → Read t (answer_of (Err Refusal.NotAQuestion))
  not_grammar h n = refuses Refusal.NotAQuestion (Unless.passed h (Unless.refused n))

-- a text of the grammar stands at its start, followed by nothing
whole_text : {t : Bytes} (w : Written t) → StandsAt Form.question t 0 w.tree
whole_text w = record { after = []; text = sym (append-nil (write_question w.tree) ∙ w.writes); follows = by_nothing }

none_written : {t : Bytes} → Nowhere Form.question t 0 → Written t → ⊥
none_written f w = f.none w.tree (whole_text w)

module _ {t : Bytes} {x : Bor Bytes} {s : State} {n : ℕ} (f : Found Form.question t (start x) s n) where
  -- a text of the grammar is read to its end
  not_written : (s.at ≡ length t → ⊥) → Written t → ⊥
  not_written y w = y ((f.complete w.tree (whole_text w)).place ∙ zero-add (length (write_question w.tree)) ∙ ap length w.writes)

  -- what was read to its end is of the grammar
  written : s.at ≡ length t → (w : Written t) × (s.deepest ≡ nesting w.tree) × (s.list ≡ kept (placed_entries w.tree) empty_list)
  unfolding emitted
  written e =
      let q = f.sound.0 in
      let m = f.sound.1 in
      (record { tree = q; writes = sym (m.text ∙ ap (λ n. write_question q ++ drop n t) e ∙ ap (λ x. write_question q ++ x) (drop-length t) ∙ append-nil (write_question q)) }, m.deepest ∙ reach_all q, m.list)

  -- the entries counted are those of the tree
  counted : (e : s.at ≡ length t) → s.list.count ≡ length (placed_entries (written e).0.tree)
  counted e = let w = written e in ap (λ l. l.count) w.2 ∙ count_kept (placed_entries w.0.tree)

-- a text of 1 to 255 bytes that was read to its end
pub record Ended (t : Bytes) (x : Bor Bytes) (s : State) : Type 0 where
  sized : Sized t
  number : ℕ
  found : Found Form.question t (start x) s number
  end : s.at ≡ length t

-- what the reader of questions says, where it gives nothing, and where it gives a number
module _ (t : Bytes) (x : Bor Bytes) (s : State) where
  pub nothing : (o : Option ℕ) → is_some o ≡ false → ReadsIn Form.question t (start x) s o → Written t → ⊥
  nothing None q f = none_written f
  nothing (Some n) q f = absurd (true≢false q)

  pub not_ended : (o : Option ℕ) → is_some o ≡ true → ReadsIn Form.question t (start x) s o → (s.at ≡ length t → ⊥) → Written t → ⊥
  not_ended None q f = absurd (false≢true q)
  not_ended (Some n) q f = not_written f

  pub ended : Sized t → (o : Option ℕ) → is_some o ≡ true → ReadsIn Form.question t (start x) s o → s.at ≡ length t → Ended t x s
  ended h None q f e = absurd (false≢true q)
  ended h (Some n) q f e = record { sized = h; number = n; found = f; end = e }

module _ {t : Bytes} {x : Bor Bytes} {s : State} (y : Ended t x s) where
  pub too_deep : 12 < s.deepest → Read t (answer_of (Err Refusal.TooNested))
  too_deep d =
      let w = written y.found y.end in
      refuses Refusal.TooNested (Unless.passed y.sized (Unless.passed w.0 (Unless.refused (λ g. omega (arith, d, w.1, g w.0)))))

  module _ (d : s.deepest ≤ 12) where
    shallow : (w : Written t) → nesting w.tree ≤ 12
    shallow = let w = written y.found y.end in every (λ q. nesting q ≤ 12) w.0 (subst (λ n. n ≤ 12) w.1 d)

    pub too_many : 32 < s.list.count → Read t (answer_of (Err Refusal.TooManyEntries))
    too_many m =
        let w = (written y.found y.end).0 in
        refuses Refusal.TooManyEntries (Unless.passed y.sized (Unless.passed w (Unless.passed shallow (Unless.refused (λ few. omega (arith, m, counted y.found y.end, few w))))))

    pub all_read : s.list.count ≤ 32 → Read t (answer_of (Ok s.list))
    all_read m =
        let w = written y.found y.end in
        let few : length (placed_entries w.0.tree) ≤ 32 = omega (arith, counted y.found y.end) in
        record {
          why = Unless.passed y.sized (Unless.passed w.0 (Unless.passed shallow (Unless.passed (every (λ q. length (placed_entries q) ≤ 32) w.0 few) Granted.granted)));
          refused = λ n. absurd (n refl);
          listed = λ z v. w.2 ∙ kept_packed (placed_entries w.0.tree) few (all_small 0 (placed_entries w.0.tree) (omega arith) (flat_earlier (normal word_place 0 w.0.tree) 0) (words_small t w.0.tree y.sized.1 w.0.writes)) ∙ ap (λ q. packed (placed_entries q)) (one_tree w.0 v);
        }

-- what is known of a text that is not refused by 1, 2 or 3
record Passed (t : Bytes) : Type 0 where
  sized : Sized t
  tree : Written t
  shallow : (w : Written t) → nesting w.tree ≤ 12

passed : {t : Bytes} {n : ℕ} {P : ℕ → Type 0} → n ≡ 0 → Scan t P n → Passed t × P n
passed z s =
    let a = through (λ e. omega arith) s in
    let b = through (λ e. omega arith) a.1 in
    let c = through (λ e. omega arith) b.1 in
    (record { sized = a.0; tree = b.0; shallow = c.0 }, c.1)

go_on : {t : Bytes} {n : ℕ} {P : ℕ → Type 0} → Passed t → P n → Scan t P n
go_on a p = Unless.passed a.sized (Unless.passed a.tree (Unless.passed a.shallow p))

-- ONE ANSWER
one_refusal : (t : Bytes) → One (ReadRefusal t)
one_refusal t = one_unless (one_unless (one_unless (one_unless one_granted)))

pub one_read : OneRead
one_read t r s a b = ap₂ (λ n l. record { refusal = n; list = l }) same lists
  where
    same : r.refusal ≡ s.refusal
    same = one_refusal t r.refusal s.refusal a.why b.why

    lists : r.list ≡ s.list
    lists = elim (ℕ_discrete r.refusal 0) [
      | yes e ↦ let w = (passed e a.why).0.tree in a.listed e w ∙ sym (b.listed (sym same ∙ e) w)
      | no n ↦ a.refused n ∙ sym (b.refused (λ e. n (same ∙ e)))
    ]

-- WHAT THE READER TAKES
pub read_taken : {t : Bytes} (w : Written t) → Sized t → nesting w.tree ≤ 12 → length (placed_entries w.tree) ≤ 32 → ReadRefusal t 0
read_taken w h d f = go_on (record { sized = h; tree = w; shallow = every (λ q. nesting q ≤ 12) w d }) (Unless.passed (every (λ q. length (placed_entries q) ≤ 32) w f) Granted.granted)

pub taken_tree : {t : Bytes} → ReadRefusal t 0 → Written t
taken_tree y = (passed refl y).0.tree

pub taken_list : {t : Bytes} → ReadRefusal t 0 → (w : Written t) → Read t (record { refusal = 0; list = packed (placed_entries w.tree) })
taken_list y w = record { why = y; refused = λ n. absurd (n refl); listed = λ e v. ap (λ q. packed (placed_entries q)) (one_tree w v) }

-- WHAT THE READER HANDS OUT
few_entries : {t : Bytes} → ReadRefusal t 0 → (w : Written t) → length (placed_entries w.tree) ≤ 32
few_entries y = (through (λ e. omega arith) (passed refl y).1).0

pub read_keeps : ReadKeeps
read_keeps t l r =
    let w = taken_tree r.why in
    subst (λ l. Keeps l t) (sym (r.listed refl w)) (packed_keeps t w.tree w.writes (few_entries r.why w))

pub read_listed : ReadListed
read_listed t l r w = ap (λ l. listed l t) (r.listed refl w) ∙ packed_listed t w.tree w.writes (few_entries r.why w)

-- ONE RESULT
refusal_of : ℕ → Refusal
refusal_of n = get_or (Refusal.TextLength ∷ Refusal.TextLength ∷ Refusal.NotAQuestion ∷ Refusal.TooNested ∷ Refusal.TooManyEntries ∷ []) n Refusal.TextLength

own_refusal : (r : Refusal) → refusal_of (read_number r) ≡ r
unfolding refusal_of
own_refusal Refusal.TextLength = refl
own_refusal Refusal.NotAQuestion = refl
own_refusal Refusal.TooNested = refl
own_refusal Refusal.TooManyEntries = refl

-- no two results have one answer
one_answer : (r s : Result L.List Refusal) → answer_of r ≡ answer_of s → r ≡ s
one_answer (Ok l) (Ok m) e = ap Ok (ap (λ a. a.list) e)
one_answer (Ok l) (Err r) e = absurd (some_number r (sym (ap (λ a. a.refusal) e)))
one_answer (Err r) (Ok l) e = absurd (some_number r (ap (λ a. a.refusal) e))
one_answer (Err r) (Err q) e = ap Err (sym (own_refusal r) ∙ ap refusal_of (ap (λ a. a.refusal) e) ∙ own_refusal q)

pub one_result : OneResult
one_result t r s a b = one_answer r s (one_read t (answer_of r) (answer_of s) a b)
