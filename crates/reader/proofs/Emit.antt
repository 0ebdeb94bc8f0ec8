-- A term's entries put behind a list, part by part.
use Prim.Native.Nat.{ℕ, suc, ◌+◌}
use native.Mathlib.Omega.{arith}
use mathlib.Core.Path.{◌≡◌, refl, sym, ap, ◌∙◌}
use mathlib.Core.List.{List, [], ◌∷◌, ◌++◌}
use lib.ListN.{length}
use Rattle.meaning.specs.Term.{Term}
use Rattle.meaning.specs.Entry.{Entry, root, flat}
use Rattle.meaning.proofs.Entry.{flat_length}
use Rattle.question.specs.declared.List as L
use Rattle.question.specs.Listed.{Place}
use Rattle.reader.specs.inner.Reading.{kind_code, left_of, right_of, pushed, kept, emitted}

kept_append : (xs ys : List (Entry Place)) (l : L.List) → kept (xs ++ ys) l ≡ kept ys (kept xs l)
unfolding kept
kept_append [] ys l = refl
kept_append (x ∷ xs) ys l = kept_append xs ys (pushed l (kind_code x) (left_of x) (right_of x))

pub kept_count : (es : List (Entry Place)) (l : L.List) → (kept es l).count ≡ length es + l.count
unfolding kept
kept_count [] l = omega arith
kept_count (e ∷ es) l = omega (arith, kept_count es (pushed l (kind_code e) (left_of e) (right_of e)))

pub emitted_count : (a : Term Place) (l : L.List) → (emitted a l).count ≡ suc (root l.count a)
unfolding emitted
emitted_count a l = kept_count (flat l.count a) l ∙ flat_length a l.count

-- the entry e behind the entries of a
over : (a b : Term Place) (e : Entry Place) (l : L.List) → flat l.count b ≡ flat l.count a ++ (e ∷ []) → emitted b l ≡ pushed (emitted a l) (kind_code e) (left_of e) (right_of e)
unfolding emitted kept
over a b e l h = ap (λ es. kept es l) h ∙ kept_append (flat l.count a) (e ∷ []) l

-- behind the entries of a and then of b
over_two : (a b c : Term Place) (e : Entry Place) (l : L.List) → flat l.count c ≡ flat l.count a ++ (flat (suc (root l.count a)) b ++ (e ∷ []))
    → emitted c l ≡ pushed (emitted b (emitted a l)) (kind_code e) (left_of e) (right_of e)
unfolding emitted kept
over_two a b c e l h = ap (λ es. kept es l) h ∙ kept_append (flat l.count a) (flat (suc (root l.count a)) b ++ (e ∷ [])) l ∙ kept_append (flat (suc (root l.count a)) b) (e ∷ []) (kept (flat l.count a) l)
    ∙ ap (λ n. pushed (kept (flat n b) (kept (flat l.count a) l)) (kind_code e) (left_of e) (right_of e)) (sym (emitted_count a l))

module _ (l : L.List) where
  pub emit_self : emitted Term.self l ≡ pushed l 0 0 0
  unfolding emitted kept flat
  emit_self = refl

  pub emit_label : (a n : ℕ) → emitted (Term.label (a, n)) l ≡ pushed l 1 a n
  unfolding emitted kept flat
  emit_label a n = refl

  pub emit_text : (a n : ℕ) → emitted (Term.text (a, n)) l ≡ pushed l 2 a n
  unfolding emitted kept flat
  emit_text a n = refl

  pub emit_child : (a : Term Place) → emitted (Term.child a) l ≡ pushed (emitted a l) 3 (root l.count a) 0
  unfolding flat
  emit_child a = over a (Term.child a) (Entry.child (root l.count a)) l refl

  pub emit_lower : (a : Term Place) → emitted (Term.lower a) l ≡ pushed (emitted a l) 5 (root l.count a) 0
  unfolding flat
  emit_lower a = over a (Term.lower a) (Entry.lower (root l.count a)) l refl

  pub emit_not : (a : Term Place) → emitted (Term.not a) l ≡ pushed (emitted a l) 8 (root l.count a) 0
  unfolding flat
  emit_not a = over a (Term.not a) (Entry.not (root l.count a)) l refl

  pub emit_at : (a b : Term Place) → emitted (Term.at a b) l ≡ pushed (emitted b (emitted a l)) 4 (root l.count a) (root (suc (root l.count a)) b)
  unfolding flat
  emit_at a b = over_two a b (Term.at a b) (Entry.at (root l.count a) (root (suc (root l.count a)) b)) l refl

  pub emit_or : (a b : Term Place) → emitted (Term.or a b) l ≡ pushed (emitted b (emitted a l)) 6 (root l.count a) (root (suc (root l.count a)) b)
  unfolding flat
  emit_or a b = over_two a b (Term.or a b) (Entry.or (root l.count a) (root (suc (root l.count a)) b)) l refl

  pub emit_and : (a b : Term Place) → emitted (Term.and a b) l ≡ pushed (emitted b (emitted a l)) 7 (root l.count a) (root (suc (root l.count a)) b)
  unfolding flat
  emit_and a b = over_two a b (Term.and a b) (Entry.and (root l.count a) (root (suc (root l.count a)) b)) l refl
