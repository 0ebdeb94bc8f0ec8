-- Units and the beginnings of paths: each way to read one, from the ways its parts were read.
use Prim.Native.Nat.{ℕ, ◌+◌, ◌≤◌, ◌<◌}
use native.Mathlib.Omega.{arith}
use mathlib.Core.Path.{◌≡◌, refl, sym, ap, ◌∙◌, subst}
use mathlib.Core.Bool.{Bool, true, false}
use mathlib.Core.List.{[], ◌∷◌, ◌++◌, append_assoc}
use lib.ListN.{length, get_or, drop, length-append, length-drop}
use lib.Seq.{drop-drop}
use lib.Dec.{lit<}
use borrow.Author.Tests.{eq-eqb, ne_eqb, eqb-false}
use Rattle.meaning.specs.Bytes.{Bytes, ascii}
use Rattle.meaning.specs.Question.{Question, OneUnit, Begin, Steps, Quoted, write_quoted, write_question, write_unit, write_steps}
use Rattle.meaning.specs.Term.{Term, normal, normal_steps}
use Rattle.meaning.specs.Entry.{root}
use Rattle.question.specs.declared.List as L
use Rattle.reader.specs.declared.state.State.{State}
use Rattle.question.specs.Listed.{Place}
use Rattle.reader.specs.Packed.{word_place}
use Rattle.reader.specs.inner.Reading.{pushed, added, moved, deepened, closed, byte_at, fronts, emitted, reach, Path, Form, QuestionEnds, TreeOf, text_of, term_of, reach_of, Made, MadeOf, StandsAt, Nowhere, Found, ReadsIn, after_quoted, QuotesIn}
use Rattle.reader.proofs.Ways.{Way, way_none, way_some, way_same}
use Rattle.std.specs.Prelude.{Option, Some, None}
use Rattle.reader.proofs.Text.{inside, head_at, rest_at, fronts_split}
use Rattle.reader.proofs.Emit.{emit_label, emit_text, emit_not, emit_lower}
use Rattle.reader.proofs.Made.{left_over, after, after_byte, after_open, before_shut, over_one, recast}
use Rattle.reader.proofs.Heads.{UnitKind, unit_class, UnitView, unit_view, PathView, path_view}

-- bytes that stand at a place
pub stand_at : (t : Bytes) (at : ℕ) (f : Bytes) → fronts f (drop at t) ≡ true → drop at t ≡ f ++ drop (at + length f) t
stand_at t at f e = fronts_split f (drop at t) e ∙ ap (λ x. f ++ x) (drop-drop (length f) at t)

pub stand_inside : (t : Bytes) (at : ℕ) (f : Bytes) → at ≤ length t → fronts f (drop at t) ≡ true → at + length f ≤ length t
stand_inside t at f h e = omega (arith, ap length (fronts_split f (drop at t) e), length-append f (drop (length f) (drop at t)), length-drop at t)

-- what closes a bracket ends every form inside
pub by_paren : QuestionEnds 41
by_paren = record { conj = record { path = record { bracket = eqb-false 41 91 refl; slash = eqb-false 41 47 refl; paren = eqb-false 41 40 refl; name = refl }; sign = eqb-false 41 38 refl }; sign = eqb-false 41 124 refl }

pub by_bracket : QuestionEnds 93
by_bracket = record { conj = record { path = record { bracket = eqb-false 93 91 refl; slash = eqb-false 93 47 refl; paren = eqb-false 93 40 refl; name = refl }; sign = eqb-false 93 38 refl }; sign = eqb-false 93 124 refl }

-- how the first bytes class a unit
unit_view_at : {t : Bytes} {a : ℕ} {p : OneUnit} → (k : UnitKind) → (z : StandsAt Form.unit t a p) → unit_class (byte_at t a) (fronts (ascii "label()=") (drop a t)) (fronts (ascii "text()=") (drop a t)) ≡ k → UnitView k p
unit_view_at {t} {a} {p} k z c = subst (λ k. UnitView k p) (sym (ap (λ b. unit_class b (fronts (ascii "label()=") (write_unit p ++ z.after)) (fronts (ascii "text()=") (write_unit p ++ z.after))) (head_at t a (write_unit p ++ z.after) z.text)) ∙ ap (λ x. unit_class (byte_at t a) (fronts (ascii "label()=") x) (fronts (ascii "text()=") x)) (sym z.text) ∙ c) (unit_view p z.after z.follows)

-- how a path begins
begin_view : {t : Bytes} {a : ℕ} {p : Path} → (b : Bool) → (z : StandsAt Form.path t a p) → fronts (ascii "//") (drop a t) ≡ b → PathView b p
begin_view {t} {a} {p} b z c = subst (λ k. PathView k p) (ap (fronts (ascii "//")) (sym z.text) ∙ c) (path_view p z.after)

pub root_label : (n : ℕ) (p : Place) → root n (Term.label p) ≡ n
unfolding root
root_label n p = refl

pub root_text : (n : ℕ) (p : Place) → root n (Term.text p) ≡ n
unfolding root
root_text n p = refl

-- what is left after a quoted word
pub after_word : (t : Bytes) (s r : State) (n kind : ℕ) (w : Quoted) (z : Bytes) → r ≡ after_quoted (moved s (s.at + n)) kind w → drop (s.at + n) t ≡ write_quoted w ++ z → drop r.at t ≡ z
after_word t s r n kind w z i e =
    let k : s.at + n + 1 + length w.bytes + 1 ≡ s.at + n + length (write_quoted w) = omega (arith, length-append w.bytes (34 ∷ [])) in
    ap (λ k. drop k.at t) i ∙ ap (λ j. drop j t) k ∙ rest_at t (s.at + n) (write_quoted w) z e

module _ {t : Bytes} where
  -- a test's word and entry, after the bytes f
  pub quoted_made : (kind : ℕ) (c : Place → Term Place) → ((l : L.List) (a n : ℕ) → emitted (c (a, n)) l ≡ pushed l kind a n) → ((n : ℕ) (p : Place) → root n (c p) ≡ n)
      → {s r : State} (f : Bytes) (n : ℕ) → length f ≡ n → drop s.at t ≡ f ++ drop (s.at + n) t → (w : Quoted) → r ≡ after_quoted (moved s (s.at + n)) kind w → drop (s.at + n) t ≡ write_quoted w ++ drop r.at t
      → Made t s r s.list.count (f ++ write_quoted w) (c (s.at + n + 1, length w.bytes)) (λ x. x)
  quoted_made kind c emits roots {s} {r} f n h e w i x = record {
    text = e ∙ ap (λ y. f ++ y) x ∙ sym (append_assoc f (write_quoted w) (drop r.at t));
    place = ap (λ k. k.at) i ∙ omega (arith, length-append f (write_quoted w), length-append w.bytes (34 ∷ []));
    list = ap (λ k. k.list) i ∙ sym (emits s.list (s.at + n + 1) (length w.bytes));
    top = sym (roots s.list.count (s.at + n + 1, length w.bytes));
    deepest = ap (λ k. k.deepest) i;
  }

  -- UNITS
  deny_way : {a : ℕ} → byte_at t a ≡ 33 → Way Form.unit Form.unit t a (a + 1) OneUnit.deny
  unfolding write_question
  deny_way {a} b = record { back = λ c z. go c z (unit_view_at UnitKind.deny z (rw (eq-eqb _ 33 b))) }
    where
      go : (c : OneUnit) → StandsAt Form.unit t a c → UnitView UnitKind.deny c → (u : OneUnit) × (c ≡ OneUnit.deny u) × StandsAt Form.unit t (a + 1) u
      go c z (UnitView.deny u) = (u, refl, record { after = z.after; text = rest_at t a (33 ∷ []) (write_unit u ++ z.after) z.text; follows = z.follows })

  pub unit_not_none : {a : ℕ} → byte_at t a ≡ 33 → Nowhere Form.unit t (a + 1) → Nowhere Form.unit t a
  unit_not_none b = way_none (deny_way b)

  pub unit_not : {s m : State} {n : ℕ} → byte_at t s.at ≡ 33 → Found Form.unit t (moved s (s.at + 1)) m n → Found Form.unit t s (added m 8 n 0) m.list.count
  unfolding write_question normal reach root
  unit_not {s} {m} b f = way_some {i = moved s (s.at + 1)} (deny_way b) (λ u x. after_byte 33 b (lit< tt) (over_one 8 Term.not emit_not (λ n a. refl) x))
      (record { onward = omega (arith, f.goes); inside = f.goes.inside; few = omega (arith, f.goes); level = f.goes.level; same = f.goes.same }) f

  -- a group's question, and the bracket that has to follow it
  group_way : {a : ℕ} → (byte_at t a ≡ 33 → ⊥) → byte_at t a ≡ 40 → (c : OneUnit) → StandsAt Form.unit t a c → (q : Question) × (c ≡ OneUnit.group q) × (z : StandsAt Form.question t (a + 1) q) × ((x : Bytes) → x ≡ z.after → get_or x 0 0 ≡ 41)
  unfolding write_question
  group_way {a} n b c z = go c z (unit_view_at UnitKind.group z (rw (ne_eqb _ 33 n, eq-eqb _ 40 b)))
    where
      go : (c : OneUnit) → StandsAt Form.unit t a c → UnitView UnitKind.group c → (q : Question) × (c ≡ OneUnit.group q) × (z : StandsAt Form.question t (a + 1) q) × ((x : Bytes) → x ≡ z.after → get_or x 0 0 ≡ 41)
      go c z (UnitView.group q) = (q, refl, record { after = 41 ∷ z.after; text = rest_at t a (40 ∷ []) _ z.text ∙ append_assoc (write_question q) (41 ∷ []) z.after; follows = by_paren }, λ x e. ap (λ y. get_or y 0 0) e)

  pub unit_group_none : {a : ℕ} → (byte_at t a ≡ 33 → ⊥) → byte_at t a ≡ 40 → Nowhere Form.question t (a + 1) → Nowhere Form.unit t a
  unit_group_none n b f = record { none = λ c z. let w = group_way n b c z in f.none w.0 w.2 }

  -- what follows a group's question is its bracket
  shuts : (s : State) {m : State} {o : ℕ} → (byte_at t s.at ≡ 33 → ⊥) → byte_at t s.at ≡ 40 → Found Form.question t (deepened s (s.at + 1)) m o → (c : OneUnit) → StandsAt Form.unit t s.at c → byte_at t m.at ≡ 41
  shuts s {m} n b f c z = let w = group_way n b c z in head_at t m.at w.2.after (left_over w.2.after (f.complete w.0 w.2) w.2.text) ∙ w.3 w.2.after refl

  pub unit_group_open : (s : State) {m : State} {o : ℕ} → (byte_at t s.at ≡ 33 → ⊥) → byte_at t s.at ≡ 40 → Found Form.question t (deepened s (s.at + 1)) m o → (byte_at t m.at ≡ 41 → ⊥) → Nowhere Form.unit t s.at
  unit_group_open s n b f x = record { none = λ c z. x (shuts s n b f c z) }

  pub unit_group : {s m : State} {o : ℕ} → (byte_at t s.at ≡ 33 → ⊥) → byte_at t s.at ≡ 40 → Found Form.question t (deepened s (s.at + 1)) m o → byte_at t m.at ≡ 41 → Found Form.unit t s (closed m) o
  unfolding write_question normal reach
  unit_group {s} {m} {o} n b f d =
      let i : m.at < length t = inside t m.at 41 d (lit< tt) in
      record {
        goes = record { onward = omega (arith, f.goes); inside = omega arith; few = omega (arith, f.goes); level = omega (arith, f.goes.level); same = f.goes.same };
        sound = (OneUnit.group f.sound.0, made f.sound.0 f.sound.1);
        complete = λ c z. let w = group_way n b c z in subst (MadeOf Form.unit t s (closed m) o) (sym w.1) (made w.0 (f.complete w.0 w.2));
      }
    where
      made : (q : Question) → MadeOf Form.question t (deepened s (s.at + 1)) m o q → MadeOf Form.unit t s (closed m) o (OneUnit.group q)
      made q x = after_open 40 b (lit< tt) (before_shut 41 d (lit< tt) x)

  -- PATHS
  deep_way : {a : ℕ} → fronts (ascii "//") (drop a t) ≡ true → Way Form.path Form.steps t a (a + 2) (λ u. (Begin.deep, u))
  unfolding write_question
  deep_way {a} b = record { back = λ c z. go c z (begin_view true z b) }
    where
      go : (c : Path) → StandsAt Form.path t a c → PathView true c → (u : Steps) × (c ≡ (Begin.deep, u)) × StandsAt Form.steps t (a + 2) u
      go c z (PathView.deep u) = (u, refl, record { after = z.after; text = rest_at t a (ascii "//") (write_steps u ++ z.after) z.text; follows = z.follows })

  pub path_deep_none : {a : ℕ} → fronts (ascii "//") (drop a t) ≡ true → Nowhere Form.steps t (a + 2) → Nowhere Form.path t a
  path_deep_none b = way_none (deep_way b)

  pub path_deep : {s m : State} {n : ℕ} → fronts (ascii "//") (drop s.at t) ≡ true → Found Form.steps t (moved s (s.at + 2)) m n → Found Form.path t s (added m 5 n 0) m.list.count
  unfolding write_question normal reach root
  path_deep {s} {m} b f = way_some {i = moved s (s.at + 2)} (deep_way b) (λ u x. after (ascii "//") 2 refl (stand_at t s.at (ascii "//") b) (over_one 5 Term.lower emit_lower (λ n a. refl) x))
      (record { onward = omega (arith, f.goes); inside = f.goes.inside; few = omega (arith, f.goes); level = f.goes.level; same = f.goes.same }) f

-- WHERE A PART'S ANSWER IS THE WHOLE'S
module _ (t : Bytes) (s r : State) where
  -- a test is read by its quoted word: build makes the whole of the word, f are the bytes before it, and c its term
  pub test_read : (g : Form) (build : Quoted → TreeOf g) (kind : ℕ) (c : Place → Term Place) (f : Bytes) (n : ℕ) → length f ≡ n
      → ((l : L.List) (a n : ℕ) → emitted (c (a, n)) l ≡ pushed l kind a n) → ((n : ℕ) (p : Place) → root n (c p) ≡ n)
      → ((w : Quoted) → text_of g (build w) ≡ f ++ write_quoted w) → ((w : Quoted) → term_of g s.at (build w) ≡ c (s.at + n + 1, length w.bytes)) → ((w : Quoted) → reach_of g s.depth (build w) ≡ (λ x. x))
      → fronts f (drop s.at t) ≡ true → ((u : TreeOf g) → StandsAt g t s.at u → (w : Quoted) × (u ≡ build w)) → (o : Option ℕ) → QuotesIn t (moved s (s.at + n)) r kind o → ReadsIn g t s r o
  test_read g build kind c f n h emits roots texts terms reaches e back o a = go o a
    where
      place : (w : Quoted) (z : Bytes) → drop s.at t ≡ text_of g (build w) ++ z → drop (s.at + n) t ≡ write_quoted w ++ z
      place w z i = ap (λ k. drop (s.at + k) t) (sym h) ∙ rest_at t s.at f (write_quoted w ++ z) (i ∙ ap (λ x. x ++ z) (texts w) ∙ append_assoc f (write_quoted w) z)

      stands : drop s.at t ≡ f ++ drop (s.at + n) t
      stands = stand_at t s.at f e ∙ ap (λ k. f ++ drop (s.at + k) t) h

      made : (o : ℕ) → o ≡ s.list.count → (w : Quoted) → r ≡ after_quoted (moved s (s.at + n)) kind w → drop (s.at + n) t ≡ write_quoted w ++ drop r.at t → MadeOf g t s r o (build w)
      made o k w i x = subst (Made t s r o (text_of g (build w)) (term_of g s.at (build w))) (sym (reaches w))
          (recast (sym (texts w)) (sym (terms w)) (subst (λ j. Made t s r j (f ++ write_quoted w) (c (s.at + n + 1, length w.bytes)) (λ x. x)) (sym k) (quoted_made kind c emits roots f n h stands w i x)))

      go : (o : Option ℕ) → QuotesIn t (moved s (s.at + n)) r kind o → ReadsIn g t s r o
      go None a = record { none = λ u z. let w = back u z in a w.0 z.after (place w.0 z.after (z.text ∙ ap (λ u. text_of g u ++ z.after) w.1)) }
      go (Some o) a = record {
        goes = record { onward = omega (arith, a.goes); inside = a.goes.inside; few = omega (arith, a.goes); level = a.goes.level; same = a.goes.same };
        sound = (build a.word, made o a.top a.word a.is a.text);
        complete = λ u z.
            let w = back u z in
            let p : drop (s.at + n) t ≡ write_quoted w.0 ++ z.after = place w.0 z.after (z.text ∙ ap (λ u. text_of g u ++ z.after) w.1) in
            let i = a.alone w.0 z.after p in
            subst (MadeOf g t s r o) (sym w.1) (made o a.top w.0 i (p ∙ ap (λ x. write_quoted w.0 ++ x) (sym (after_word t s r n kind w.0 z.after i p))));
      }

  pub unit_label : (byte_at t s.at ≡ 33 → ⊥) → (byte_at t s.at ≡ 40 → ⊥) → fronts (ascii "label()=") (drop s.at t) ≡ true → (o : Option ℕ) → QuotesIn t (moved s (s.at + 8)) r 1 o → ReadsIn Form.unit t s r o
  unfolding write_question normal reach
  unit_label n n' b = let k : s.at + 9 ≡ s.at + 8 + 1 = omega arith in
      test_read Form.unit OneUnit.label 1 Term.label (ascii "label()=") 8 refl emit_label root_label (λ w. refl) (λ w. ap (λ j. Term.label (j, length w.bytes)) k) (λ w. refl) b
      (λ u z. go u (unit_view_at UnitKind.label z (rw (ne_eqb _ 33 n, ne_eqb _ 40 n', b))))
    where
      go : (u : OneUnit) → UnitView UnitKind.label u → (w : Quoted) × (u ≡ OneUnit.label w)
      go u (UnitView.label w) = (w, refl)

  pub unit_text : (byte_at t s.at ≡ 33 → ⊥) → (byte_at t s.at ≡ 40 → ⊥) → fronts (ascii "label()=") (drop s.at t) ≡ false → fronts (ascii "text()=") (drop s.at t) ≡ true → (o : Option ℕ) → QuotesIn t (moved s (s.at + 7)) r 2 o → ReadsIn Form.unit t s r o
  unfolding write_question normal reach
  unit_text n n' l b = let k : s.at + 8 ≡ s.at + 7 + 1 = omega arith in
      test_read Form.unit OneUnit.text 2 Term.text (ascii "text()=") 7 refl emit_text root_text (λ w. refl) (λ w. ap (λ j. Term.text (j, length w.bytes)) k) (λ w. refl) b
      (λ u z. go u (unit_view_at UnitKind.text z (rw (ne_eqb _ 33 n, ne_eqb _ 40 n', l, b))))
    where
      go : (u : OneUnit) → UnitView UnitKind.text u → (w : Quoted) × (u ≡ OneUnit.text w)
      go u (UnitView.text w) = (w, refl)

  pub unit_path : (byte_at t s.at ≡ 33 → ⊥) → (byte_at t s.at ≡ 40 → ⊥) → fronts (ascii "label()=") (drop s.at t) ≡ false → fronts (ascii "text()=") (drop s.at t) ≡ false → (o : Option ℕ) → ReadsIn Form.path t s r o → ReadsIn Form.unit t s r o
  unfolding write_question normal reach
  unit_path n n' l l' = way_same Form.unit Form.path t s s r (λ u. OneUnit.path u.0 u.1) (record { back = λ c z. go c z (unit_view_at UnitKind.path z (rw (ne_eqb _ 33 n, ne_eqb _ 40 n', l, l'))) }) (λ n u x. x) (λ g. g)
    where
      go : (c : OneUnit) → StandsAt Form.unit t s.at c → UnitView UnitKind.path c → (u : Path) × (c ≡ OneUnit.path u.0 u.1) × StandsAt Form.path t s.at u
      go c z (UnitView.path b u) = ((b, u), refl, record { after = z.after; text = z.text; follows = z.follows })

  pub path_plain : fronts (ascii "//") (drop s.at t) ≡ false → (o : Option ℕ) → ReadsIn Form.steps t s r o → ReadsIn Form.path t s r o
  unfolding write_question normal reach
  path_plain b = way_same Form.path Form.steps t s s r (λ u. (Begin.plain, u)) (record { back = λ c z. go c z (begin_view false z b) }) made (λ g. g)
    where
      made : (n : ℕ) (u : Steps) → MadeOf Form.steps t s r n u → MadeOf Form.path t s r n (Begin.plain, u)
      made n u x = let k : s.at ≡ s.at + 0 = omega arith in recast refl (ap (λ j. normal_steps word_place j u) k) x

      go : (c : Path) → StandsAt Form.path t s.at c → PathView false c → (u : Steps) × (c ≡ (Begin.plain, u)) × StandsAt Form.steps t s.at u
      go c z (PathView.plain u) = (u, refl, record { after = z.after; text = z.text; follows = z.follows })
