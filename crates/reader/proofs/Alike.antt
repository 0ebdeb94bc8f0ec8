-- One question under two namings of its words: the lists are alike, entry by entry, each word by what it is in the text.
use Prim.Native.Nat.{ℕ, suc, ◌+◌, ◌≤◌, ◌<◌}
use native.Mathlib.Omega.{arith}
use mathlib.Core.Path.{◌≡◌, refl, ap, ◌∙◌, subst}
use mathlib.Core.List.{List, [], ◌∷◌, ◌++◌, append_assoc}
use lib.ListN.{length, drop, length-append}
use Rattle.meaning.specs.Bytes.{Bytes, ascii}
use Rattle.meaning.specs.Question.{Question, Conj, OneUnit, Steps, Rest, Begin, Sign, Move, Quoted, write_quoted, write_begin, write_sign, write_move}
use Rattle.meaning.specs.Question.{write_question, write_conj, write_unit, write_steps, write_rest}
use Rattle.meaning.specs.Term.{Term, moving, beginning, crossing, normal, normal_conj, normal_unit, normal_steps, normal_rest}
use Rattle.meaning.specs.Entry.{Entry, root, flat}
use Rattle.reader.proofs.Text.{rest_at}
use Rattle.reader.proofs.Words.{name_size_lem, name_some_byte, quoted_size}

module _ {X Y : Type 0} (R : X → Y → Type 0) where
  pub data Alike : Term X → Term Y → Type 0 where
    self : Alike Term.self Term.self
    label : {v : X} {w : Y} → R v w → Alike (Term.label v) (Term.label w)
    text : {v : X} {w : Y} → R v w → Alike (Term.text v) (Term.text w)
    child : {a : Term X} {b : Term Y} → Alike a b → Alike (Term.child a) (Term.child b)
    at : {a c : Term X} {b d : Term Y} → Alike a b → Alike c d → Alike (Term.at a c) (Term.at b d)
    lower : {a : Term X} {b : Term Y} → Alike a b → Alike (Term.lower a) (Term.lower b)
    or : {a c : Term X} {b d : Term Y} → Alike a b → Alike c d → Alike (Term.or a c) (Term.or b d)
    and : {a c : Term X} {b d : Term Y} → Alike a b → Alike c d → Alike (Term.and a c) (Term.and b d)
    not : {a : Term X} {b : Term Y} → Alike a b → Alike (Term.not a) (Term.not b)

  pub data AlikeEntry : Entry X → Entry Y → Type 0 where
    self : AlikeEntry Entry.self Entry.self
    label : {v : X} {w : Y} → R v w → AlikeEntry (Entry.label v) (Entry.label w)
    text : {v : X} {w : Y} → R v w → AlikeEntry (Entry.text v) (Entry.text w)
    child : (q : ℕ) → AlikeEntry (Entry.child q) (Entry.child q)
    at : (p q : ℕ) → AlikeEntry (Entry.at p q) (Entry.at p q)
    lower : (q : ℕ) → AlikeEntry (Entry.lower q) (Entry.lower q)
    or : (p q : ℕ) → AlikeEntry (Entry.or p q) (Entry.or p q)
    and : (p q : ℕ) → AlikeEntry (Entry.and p q) (Entry.and p q)
    not : (q : ℕ) → AlikeEntry (Entry.not q) (Entry.not q)

  pub data AlikeLists : List (Entry X) → List (Entry Y) → Type 0 where
    none : AlikeLists [] []
    more : {x : Entry X} {y : Entry Y} {xs : List (Entry X)} {ys : List (Entry Y)} → AlikeEntry x y → AlikeLists xs ys → AlikeLists (x ∷ xs) (y ∷ ys)

  alike_append : {xs us : List (Entry X)} {ys vs : List (Entry Y)} → AlikeLists xs ys → AlikeLists us vs → AlikeLists (xs ++ us) (ys ++ vs)
  alike_append AlikeLists.none b = b
  alike_append (AlikeLists.more e a) b = AlikeLists.more e (alike_append a b)

  root_alike : {a : Term X} {b : Term Y} → Alike a b → (n : ℕ) → root n a ≡ root n b
  unfolding root
  root_alike Alike.self n = refl
  root_alike (Alike.label r) n = refl
  root_alike (Alike.text r) n = refl
  root_alike (Alike.child x) n = ap suc (root_alike x n)
  root_alike (Alike.at {c = c} x y) n = ap (λ k. suc (root (suc k) c)) (root_alike x n) ∙ ap suc (root_alike y _)
  root_alike (Alike.lower x) n = ap suc (root_alike x n)
  root_alike (Alike.or {c = c} x y) n = ap (λ k. suc (root (suc k) c)) (root_alike x n) ∙ ap suc (root_alike y _)
  root_alike (Alike.and {c = c} x y) n = ap (λ k. suc (root (suc k) c)) (root_alike x n) ∙ ap suc (root_alike y _)
  root_alike (Alike.not x) n = ap suc (root_alike x n)

  -- an entry behind one list, and behind two
  behind : {xs : List (Entry X)} {ys : List (Entry Y)} (k : ℕ → Entry X) (l : ℕ → Entry Y) → ((i : ℕ) → AlikeEntry (k i) (l i)) → (i j : ℕ) → i ≡ j → AlikeLists xs ys → AlikeLists (xs ++ (k i ∷ [])) (ys ++ (l j ∷ []))
  behind {xs} {ys} k l h i j e a = alike_append a (AlikeLists.more (subst (λ x. AlikeEntry (k i) (l x)) e (h i)) AlikeLists.none)

  behind_two : (k : ℕ → ℕ → Entry X) (l : ℕ → ℕ → Entry Y) → ((i j : ℕ) → AlikeEntry (k i j) (l i j)) → (a c : Term X) (b d : Term Y) (n : ℕ) → root n a ≡ root n b → ((m : ℕ) → root m c ≡ root m d)
      → AlikeLists (flat n a) (flat n b) → ((m : ℕ) → AlikeLists (flat m c) (flat m d))
      → AlikeLists (flat n a ++ (flat (suc (root n a)) c ++ (k (root n a) (root (suc (root n a)) c) ∷ []))) (flat n b ++ (flat (suc (root n b)) d ++ (l (root n b) (root (suc (root n b)) d) ∷ [])))
  behind_two k l h a c b d n e f x y = subst (λ r. AlikeLists (flat n a ++ (flat (suc (root n a)) c ++ (k (root n a) (root (suc (root n a)) c) ∷ []))) (flat n b ++ (flat (suc r) d ++ (l r (root (suc r) d) ∷ [])))) e
      (alike_append x (alike_append (y (suc (root n a))) (AlikeLists.more (subst (λ r. AlikeEntry (k (root n a) (root (suc (root n a)) c)) (l (root n a) r)) (f (suc (root n a))) (h (root n a) (root (suc (root n a)) c))) AlikeLists.none)))

  pub flat_alike : {a : Term X} {b : Term Y} → Alike a b → (n : ℕ) → AlikeLists (flat n a) (flat n b)
  unfolding flat
  flat_alike Alike.self n = AlikeLists.more AlikeEntry.self AlikeLists.none
  flat_alike (Alike.label r) n = AlikeLists.more (AlikeEntry.label r) AlikeLists.none
  flat_alike (Alike.text r) n = AlikeLists.more (AlikeEntry.text r) AlikeLists.none
  flat_alike (Alike.child x) n = behind Entry.child Entry.child AlikeEntry.child _ _ (root_alike x n) (flat_alike x n)
  flat_alike (Alike.at {a = a} {c = c} {b = b} {d = d} x y) n = behind_two Entry.at Entry.at AlikeEntry.at a c b d n (root_alike x n) (root_alike y) (flat_alike x n) (flat_alike y)
  flat_alike (Alike.lower x) n = behind Entry.lower Entry.lower AlikeEntry.lower _ _ (root_alike x n) (flat_alike x n)
  flat_alike (Alike.or {a = a} {c = c} {b = b} {d = d} x y) n = behind_two Entry.or Entry.or AlikeEntry.or a c b d n (root_alike x n) (root_alike y) (flat_alike x n) (flat_alike y)
  flat_alike (Alike.and {a = a} {c = c} {b = b} {d = d} x y) n = behind_two Entry.and Entry.and AlikeEntry.and a c b d n (root_alike x n) (root_alike y) (flat_alike x n) (flat_alike y)
  flat_alike (Alike.not x) n = behind Entry.not Entry.not AlikeEntry.not _ _ (root_alike x n) (flat_alike x n)

  -- THE NORMAL FORMS ARE ALIKE, where each word of at most 64 bytes is named alike at the place where it stands
  module _ (f : ℕ → Bytes → X) (g : ℕ → Bytes → Y) (t : Bytes) (named : (a : ℕ) (w z : Bytes) → length w ≤ 64 → 0 < length (w ++ z) → drop a t ≡ w ++ z → R (f a w) (g a w)) where
    -- a quoted word, after n bytes of which the last is its quote
    quoted : (p : Bytes) (n a : ℕ) (w : Quoted) (z : Bytes) → length p ≡ n → drop a t ≡ (p ++ write_quoted w) ++ z → R (f (a + (n + 1)) w.bytes) (g (a + (n + 1)) w.bytes)
    quoted p n a w z h e = named (a + (n + 1)) w.bytes (34 ∷ z) (quoted_size w.bytes w.well_quoted) (omega (arith, length-append w.bytes (34 ∷ z))) (ap (λ k. drop k t) place ∙ rest_at t (a + length p) (34 ∷ []) _ (rest_at t a p _ (e ∙ append_assoc p (write_quoted w) z)) ∙ append_assoc w.bytes (34 ∷ []) z)
      where
        place : a + (n + 1) ≡ a + length p + 1
        place = omega (arith, h)

    moves : (m : Move) (a : ℕ) (x : Bytes) (s : Term X) (u : Term Y) → drop a t ≡ write_move m ++ x → Alike s u → Alike (moving f a m s) (moving g a m u)
    moves Move.dot a x s u e h = h
    moves Move.star a x s u e h = Alike.child h
    moves (Move.name n) a x s u e h = Alike.child (Alike.at (Alike.label (named a n.bytes x (name_size_lem n.bytes n.well_named) (omega (arith, name_some_byte n.bytes n.well_named, length-append n.bytes x)) e)) h)

    begins : (b : Begin) {s : Term X} {u : Term Y} → Alike s u → Alike (beginning f b s) (beginning g b u)
    begins Begin.plain h = h
    begins Begin.deep h = Alike.lower h

    crosses : (b : Sign) {s : Term X} {u : Term Y} → Alike s u → Alike (crossing f b s) (crossing g b u)
    crosses Sign.slash h = h
    crosses Sign.slashes h = Alike.lower h

    mutual
      unfolding write_question normal

      pub normal_alike : (q : Question) (a : ℕ) (z : Bytes) → drop a t ≡ write_question q ++ z → Alike (normal f a q) (normal g a q)
      normal_alike (Question.conj c) a z e = conj_alike c a z e
      normal_alike (Question.either q c) a z e = Alike.or (normal_alike q a ((124 ∷ write_conj c) ++ z) (e ∙ append_assoc (write_question q) (124 ∷ write_conj c) z)) (conj_alike c (a + length (write_question q) + 1) z (rest_at t (a + length (write_question q)) (124 ∷ []) (write_conj c ++ z) (rest_at t a (write_question q) ((124 ∷ write_conj c) ++ z) (e ∙ append_assoc (write_question q) (124 ∷ write_conj c) z))))

      conj_alike : (c : Conj) (a : ℕ) (z : Bytes) → drop a t ≡ write_conj c ++ z → Alike (normal_conj f a c) (normal_conj g a c)
      conj_alike (Conj.unit p) a z e = unit_alike p a z e
      conj_alike (Conj.both c p) a z e = Alike.and (conj_alike c a ((38 ∷ write_unit p) ++ z) (e ∙ append_assoc (write_conj c) (38 ∷ write_unit p) z)) (unit_alike p (a + length (write_conj c) + 1) z (rest_at t (a + length (write_conj c)) (38 ∷ []) (write_unit p ++ z) (rest_at t a (write_conj c) ((38 ∷ write_unit p) ++ z) (e ∙ append_assoc (write_conj c) (38 ∷ write_unit p) z))))

      unit_alike : (p : OneUnit) (a : ℕ) (z : Bytes) → drop a t ≡ write_unit p ++ z → Alike (normal_unit f a p) (normal_unit g a p)
      unit_alike (OneUnit.deny p) a z e = Alike.not (unit_alike p (a + 1) z (rest_at t a (33 ∷ []) (write_unit p ++ z) e))
      unit_alike (OneUnit.group q) a z e = normal_alike q (a + 1) (41 ∷ z) (rest_at t a (40 ∷ []) _ e ∙ append_assoc (write_question q) (41 ∷ []) z)
      unit_alike (OneUnit.label w) a z e = Alike.label (quoted (ascii "label()=") 8 a w z refl e)
      unit_alike (OneUnit.text w) a z e = Alike.text (quoted (ascii "text()=") 7 a w z refl e)
      unit_alike (OneUnit.path b s) a z e = begins b (steps_alike s (a + length (write_begin b)) z (rest_at t a (write_begin b) (write_steps s ++ z) (e ∙ append_assoc (write_begin b) (write_steps s) z)))

      steps_alike : (s : Steps) (a : ℕ) (z : Bytes) → drop a t ≡ write_steps s ++ z → Alike (normal_steps f a s) (normal_steps g a s)
      steps_alike (Steps.step m r) a z e = moves m a (write_rest r ++ z) _ _ (e ∙ append_assoc (write_move m) (write_rest r) z) (rest_alike r (a + length (write_move m)) z (rest_at t a (write_move m) (write_rest r ++ z) (e ∙ append_assoc (write_move m) (write_rest r) z)))

      rest_alike : (r : Rest) (a : ℕ) (z : Bytes) → drop a t ≡ write_rest r ++ z → Alike (normal_rest f a r) (normal_rest g a r)
      rest_alike Rest.end a z e = Alike.self
      rest_alike (Rest.ends w) a z e = Alike.text (quoted (ascii "/text()=") 8 a w z refl e)
      rest_alike (Rest.bracket q r) a z e = Alike.at (normal_alike q (a + 1) ((93 ∷ write_rest r) ++ z) inner) (subst (λ k. Alike (normal_rest f k r) (normal_rest g k r)) place (rest_alike r (a + 1 + length (write_question q) + 1) z (rest_at t (a + 1 + length (write_question q)) (93 ∷ []) (write_rest r ++ z) (rest_at t (a + 1) (write_question q) ((93 ∷ write_rest r) ++ z) inner))))
        where
          inner : drop (a + 1) t ≡ write_question q ++ ((93 ∷ write_rest r) ++ z)
          inner = rest_at t a (91 ∷ []) _ e ∙ append_assoc (write_question q) (93 ∷ write_rest r) z

          place : a + 1 + length (write_question q) + 1 ≡ a + length (write_question q) + 2
          place = omega arith
      rest_alike (Rest.onward b s) a z e = crosses b (steps_alike s (a + length (write_sign b)) z (rest_at t a (write_sign b) (write_steps s ++ z) (e ∙ append_assoc (write_sign b) (write_steps s) z)))
