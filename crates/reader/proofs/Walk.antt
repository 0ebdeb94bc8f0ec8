-- Steps and what follows them: each way to read one, from the ways its parts were read.
use Prim.Native.Nat.{ℕ, ◌+◌, ◌-◌, ◌≤◌, ◌<◌}
use native.Mathlib.Omega.{arith}
use mathlib.Core.Path.{◌≡◌, refl, sym, ap, ◌∙◌, subst}
use mathlib.Core.Bool.{true, false}
use mathlib.Core.List.{[], ◌∷◌, ◌++◌, append_assoc}
use lib.ListN.{length, get_or, drop, take}
use lib.Dec.{lit<}
use borrow.Author.Tests.{eq-eqb, ne_eqb}
use Rattle.std.specs.Prelude.{Option}
use Rattle.std.specs.List.{prefix_len}
use Rattle.std.proofs.lemmas.List.Folds.{length-prefix_len}
use Rattle.meaning.specs.Bytes.{Bytes, ascii}
use Rattle.meaning.specs.Question.{Question, Steps, Rest, Sign, Move, Name, Quoted, is_letter, is_name_byte, write_question, write_steps, write_rest}
use Rattle.meaning.specs.Term.{Term, normal, normal_rest}
use Rattle.meaning.specs.Entry.{root}
use Rattle.reader.specs.declared.state.State.{State}
use Rattle.reader.specs.Packed.{word_place}
use Rattle.reader.specs.inner.Reading.{added, moved, deepened, closed, byte_at, fronts, reach, reach_rest, Form, PathEnds, Made, MadeOf, StandsAt, Nowhere, Found, ReadsIn, QuotesIn}
use Rattle.reader.proofs.Text.{inside, letter_inside, head_at, rest_at, span_inside, span_some}
use Rattle.reader.proofs.Emit.{emit_text, emit_child, emit_lower, emit_at}
use Rattle.reader.proofs.Made.{left_over, after, after_byte, after_open, before_shut, over_one, over_two, recast, nothing_made, label_made}
use Rattle.reader.proofs.Ways.{Way, way_none, way_some, way_same}
use Rattle.reader.proofs.Heads.{StepKind, step_class, StepView, step_view, RestKind, rest_class, RestView, rest_view, rest_head, name_all, not_letter, span_all}
use Rattle.reader.proofs.Units.{stand_at, by_bracket, root_text, test_read}
use Rattle.reader.proofs.Words.{name_word, name_size_lem, word_at}

step_view_at : {t : Bytes} {a : ℕ} {p : Steps} (k : StepKind) → StandsAt Form.steps t a p → step_class (byte_at t a) ≡ k → StepView k p
step_view_at {t} {a} {p} k z c = subst (λ k. StepView k p) (sym (ap step_class (head_at t a (write_steps p ++ z.after) z.text)) ∙ c) (step_view p z.after)

rest_view_at : {t : Bytes} {a : ℕ} {p : Rest} (k : RestKind) → StandsAt Form.rest t a p → rest_class (byte_at t a) (fronts (ascii "/text()=") (drop a t)) (fronts (ascii "//") (drop a t)) ≡ k → RestView k p
rest_view_at {t} {a} {p} k z c = subst (λ k. RestView k p) (sym (ap (λ b. rest_class b (fronts (ascii "/text()=") (write_rest p ++ z.after)) (fronts (ascii "//") (write_rest p ++ z.after))) (head_at t a (write_rest p ++ z.after) z.text)) ∙ ap (λ x. rest_class (byte_at t a) (fronts (ascii "/text()=") x) (fronts (ascii "//") x)) (sym z.text) ∙ c) (rest_view p z.after z.follows)

no_step : {p : Steps} → StepView StepKind.wrong p → ⊥
no_step v = elim v [ ]

module _ {t : Bytes} where
  -- STEPS
  dot_way : {a : ℕ} → byte_at t a ≡ 46 → Way Form.steps Form.rest t a (a + 1) (Steps.step Move.dot)
  unfolding write_question
  dot_way {a} b = record { back = λ c z. go c z (step_view_at StepKind.dot z (rw (eq-eqb _ 46 b))) }
    where
      go : (c : Steps) → StandsAt Form.steps t a c → StepView StepKind.dot c → (u : Rest) × (c ≡ Steps.step Move.dot u) × StandsAt Form.rest t (a + 1) u
      go c z (StepView.dot u) = (u, refl, record { after = z.after; text = rest_at t a (46 ∷ []) (write_rest u ++ z.after) z.text; follows = z.follows })

  star_way : {a : ℕ} → (byte_at t a ≡ 46 → ⊥) → byte_at t a ≡ 42 → Way Form.steps Form.rest t a (a + 1) (Steps.step Move.star)
  unfolding write_question
  star_way {a} n b = record { back = λ c z. go c z (step_view_at StepKind.star z (rw (ne_eqb _ 46 n, eq-eqb _ 42 b))) }
    where
      go : (c : Steps) → StandsAt Form.steps t a c → StepView StepKind.star c → (u : Rest) × (c ≡ Steps.step Move.star u) × StandsAt Form.rest t (a + 1) u
      go c z (StepView.star u) = (u, refl, record { after = z.after; text = rest_at t a (42 ∷ []) (write_rest u ++ z.after) z.text; follows = z.follows })

  pub steps_star_none : {a : ℕ} → (byte_at t a ≡ 46 → ⊥) → byte_at t a ≡ 42 → Nowhere Form.rest t (a + 1) → Nowhere Form.steps t a
  steps_star_none n b = way_none (star_way n b)

  pub steps_star : {s m : State} {o : ℕ} → (byte_at t s.at ≡ 46 → ⊥) → byte_at t s.at ≡ 42 → Found Form.rest t (moved s (s.at + 1)) m o → Found Form.steps t s (added m 3 o 0) m.list.count
  unfolding write_question normal reach root
  steps_star {s} {m} n b f =
      let i : s.at < length t = inside t s.at 42 b (lit< tt) in
      way_some {i = moved s (s.at + 1)} (star_way n b) (λ u x. after_byte 42 b (lit< tt) (over_one 3 Term.child emit_child (λ n a. refl) x))
      (record { onward = omega (arith, f.goes); inside = f.goes.inside; few = omega (arith, f.goes); level = f.goes.level; same = f.goes.same }) f

  pub steps_wrong : {a : ℕ} → (byte_at t a ≡ 46 → ⊥) → (byte_at t a ≡ 42 → ⊥) → is_letter (byte_at t a) ≡ false → Nowhere Form.steps t a
  steps_wrong n n' l = record { none = λ c z. no_step (step_view_at StepKind.wrong z (rw (ne_eqb _ 46 n, ne_eqb _ 42 n', l))) }

-- A NAME, as far as it goes
module _ (t : Bytes) (s : State) (l : is_letter (byte_at t s.at) ≡ true) where
  abbrev pub name_size : ℕ
  name_size = prefix_len is_name_byte (drop s.at t)

  -- a name that stands there goes just as far
  name_found : (c : Steps) → StandsAt Form.steps t s.at c → (n : Name) × (u : Rest) × (c ≡ Steps.step (Move.name n) u) × (name_size ≡ length n.bytes) × (drop s.at t ≡ n.bytes ++ drop (s.at + length n.bytes) t) × StandsAt Form.rest t (s.at + name_size) u
  unfolding write_question
  name_found c z = go c z (step_view_at StepKind.name z (rw (ne_eqb _ 46 (not_letter _ 46 l refl), ne_eqb _ 42 (not_letter _ 42 l refl), l)))
    where
      go : (c : Steps) → StandsAt Form.steps t s.at c → StepView StepKind.name c → (n : Name) × (u : Rest) × (c ≡ Steps.step (Move.name n) u) × (name_size ≡ length n.bytes) × (drop s.at t ≡ n.bytes ++ drop (s.at + length n.bytes) t) × StandsAt Form.rest t (s.at + name_size) u
      go c z (StepView.name n u) =
          let e : drop s.at t ≡ n.bytes ++ (write_rest u ++ z.after) = z.text ∙ append_assoc n.bytes (write_rest u) z.after in
          let q : name_size ≡ length n.bytes = ap (prefix_len is_name_byte) e ∙ span_all is_name_byte n.bytes (write_rest u ++ z.after) (name_all n.bytes n.well_named) (rest_head u z.after z.follows).0 in
          let e' = rest_at t s.at n.bytes (write_rest u ++ z.after) e in
          (n, u, refl, q, e ∙ ap (λ y. n.bytes ++ y) (sym e'), record { after = z.after; text = ap (λ j. drop (s.at + j) t) q ∙ e'; follows = z.follows })

  pub name_long : 64 < name_size → Nowhere Form.steps t s.at
  name_long k = record { none = λ c z. let w = name_found c z in omega (arith, w.3, name_size_lem w.0.bytes w.0.well_named) }

  abbrev pub after_name : State
  after_name = added (moved s (s.at + name_size)) 1 s.at name_size

  pub name_some : s.at ≤ length t → (0 < name_size) × (s.at + name_size ≤ length t)
  name_some h = (span_some is_name_byte t s.at (letter_inside t s.at l) (rw l), span_inside is_name_byte t s.at h)

  pub name_none : Nowhere Form.rest t (s.at + name_size) → Nowhere Form.steps t s.at
  name_none f = record { none = λ c z. let w = name_found c z in f.none w.1 w.5 }

  pub name_read : {m : State} {o : ℕ} → s.at ≤ length t → name_size ≤ 64 → Found Form.rest t after_name m o → Found Form.steps t s (added (added m 4 s.list.count o) 3 m.list.count 0) (m.list.count + 1)
  unfolding write_question normal reach root
  name_read {m} {o} h k f =
      let i = name_some h in
      record {
        goes = record { onward = omega (arith, f.goes); inside = f.goes.inside; few = omega (arith, f.goes); level = f.goes.level; same = f.goes.same };
        sound = (Steps.step (Move.name own) f.sound.0, made own own_size own_text f.sound.0 f.sound.1);
        complete = λ c z. let w = name_found c z in subst (MadeOf Form.steps t s r (m.list.count + 1)) (sym w.2) (made w.0 w.3 w.4 w.1 (f.complete w.1 w.5));
      }
    where
      r : State
      r = added (added m 4 s.list.count o) 3 m.list.count 0

      x : Bytes
      x = drop s.at t

      own : Name
      own = record { bytes = take name_size x; well_named = name_word x (ap is_letter (sym (head_at t s.at x refl)) ∙ l) k }

      own_size : name_size ≡ length own.bytes
      own_size = sym (length-prefix_len is_name_byte x)

      own_text : drop s.at t ≡ own.bytes ++ drop (s.at + length own.bytes) t
      own_text = word_at t s.at name_size ∙ ap (λ n. own.bytes ++ drop (s.at + n) t) own_size

      made : (n : Name) → name_size ≡ length n.bytes → drop s.at t ≡ n.bytes ++ drop (s.at + length n.bytes) t → (u : Rest) → MadeOf Form.rest t after_name m o u → MadeOf Form.steps t s r (m.list.count + 1) (Steps.step (Move.name n) u)
      made n q e u y = over_one 3 Term.child emit_child (λ n a. refl) (over_two 4 Term.at emit_at (λ n a b. refl) (label_made n.bytes e)
          (subst (λ j. Made t (added (moved s (s.at + j)) 1 s.at j) m o (write_rest u) (normal_rest word_place (s.at + j) u) (reach_rest s.depth u)) q y))

-- WHAT FOLLOWS A STEP'S HEAD
module _ {t : Bytes} where
  pub rest_end : {s : State} → (byte_at t s.at ≡ 91 → ⊥) → (byte_at t s.at ≡ 47 → ⊥) → s.at ≤ length t → Found Form.rest t s (added s 0 0 0) s.list.count
  unfolding write_question normal reach
  rest_end {s} n n' h = record {
    goes = record { onward = omega arith; inside = h; few = omega arith; level = refl; same = refl };
    sound = (Rest.end, nothing_made);
    complete = λ c z. go c (rest_view_at RestKind.end z (rw (ne_eqb _ 91 n, ne_eqb _ 47 n')));
  }
    where
      go : (c : Rest) → RestView RestKind.end c → MadeOf Form.rest t s (added s 0 0 0) s.list.count c
      go c RestView.end = nothing_made

  slashes_way : {a : ℕ} → (byte_at t a ≡ 91 → ⊥) → byte_at t a ≡ 47 → fronts (ascii "/text()=") (drop a t) ≡ false → fronts (ascii "//") (drop a t) ≡ true → Way Form.rest Form.steps t a (a + 2) (Rest.onward Sign.slashes)
  unfolding write_question
  slashes_way {a} n b c c' = record { back = λ p z. go p z (rest_view_at RestKind.slashes z (rw (ne_eqb _ 91 n, eq-eqb _ 47 b, c, c'))) }
    where
      go : (p : Rest) → StandsAt Form.rest t a p → RestView RestKind.slashes p → (u : Steps) × (p ≡ Rest.onward Sign.slashes u) × StandsAt Form.steps t (a + 2) u
      go p z (RestView.slashes u) = (u, refl, record { after = z.after; text = rest_at t a (ascii "//") (write_steps u ++ z.after) z.text; follows = z.follows })

  pub rest_slashes_none : {a : ℕ} → (byte_at t a ≡ 91 → ⊥) → byte_at t a ≡ 47 → fronts (ascii "/text()=") (drop a t) ≡ false → fronts (ascii "//") (drop a t) ≡ true → Nowhere Form.steps t (a + 2) → Nowhere Form.rest t a
  rest_slashes_none n b c c' = way_none (slashes_way n b c c')

  pub rest_slashes : {s m : State} {o : ℕ} → (byte_at t s.at ≡ 91 → ⊥) → byte_at t s.at ≡ 47 → fronts (ascii "/text()=") (drop s.at t) ≡ false → fronts (ascii "//") (drop s.at t) ≡ true
      → Found Form.steps t (moved s (s.at + 2)) m o → Found Form.rest t s (added m 5 o 0) m.list.count
  unfolding write_question normal reach root
  rest_slashes {s} {m} n b c c' f = way_some {i = moved s (s.at + 2)} (slashes_way n b c c') (λ u x. after (ascii "//") 2 refl (stand_at t s.at (ascii "//") c') (over_one 5 Term.lower emit_lower (λ n a. refl) x))
      (record { onward = omega (arith, f.goes); inside = f.goes.inside; few = omega (arith, f.goes); level = f.goes.level; same = f.goes.same }) f

  -- a bracket's question, the bracket that has to follow it, and the rest behind
  bracket_way : {a : ℕ} → byte_at t a ≡ 91 → (c : Rest) → StandsAt Form.rest t a c → (q : Question) × (u : Rest) × (c ≡ Rest.bracket q u) × (y : Bytes) × (drop (a + 1) t ≡ write_question q ++ (93 ∷ (write_rest u ++ y))) × PathEnds (get_or y 0 0)
  unfolding write_question
  bracket_way {a} b c z = go c z (rest_view_at RestKind.bracket z (rw (eq-eqb _ 91 b)))
    where
      go : (c : Rest) → StandsAt Form.rest t a c → RestView RestKind.bracket c → (q : Question) × (u : Rest) × (c ≡ Rest.bracket q u) × (y : Bytes) × (drop (a + 1) t ≡ write_question q ++ (93 ∷ (write_rest u ++ y))) × PathEnds (get_or y 0 0)
      go c z (RestView.bracket q u) = (q, u, refl, z.after, rest_at t a (91 ∷ []) _ z.text ∙ append_assoc (write_question q) (93 ∷ write_rest u) z.after, z.follows)

  pub rest_bracket_none : {a : ℕ} → byte_at t a ≡ 91 → Nowhere Form.question t (a + 1) → Nowhere Form.rest t a
  rest_bracket_none b f = record { none = λ c z. let w = bracket_way b c z in f.none w.0 (record { after = 93 ∷ (write_rest w.1 ++ w.3); text = w.4; follows = by_bracket }) }

  -- what is left where the question was read
  module _ (s : State) {m : State} {o : ℕ} (b : byte_at t s.at ≡ 91) (f : Found Form.question t (deepened s (s.at + 1)) m o) where
    bracket_left : (c : Rest) → StandsAt Form.rest t s.at c → (q : Question) × (u : Rest) × (c ≡ Rest.bracket q u) × MadeOf Form.question t (deepened s (s.at + 1)) m o q × (byte_at t m.at ≡ 93) × StandsAt Form.rest t (m.at + 1) u
    bracket_left c z =
        let w = bracket_way b c z in
        let k = f.complete w.0 (record { after = 93 ∷ (write_rest w.1 ++ w.3); text = w.4; follows = by_bracket }) in
        let e = left_over (93 ∷ (write_rest w.1 ++ w.3)) k w.4 in
        (w.0, w.1, w.2, k, head_at t m.at (93 ∷ (write_rest w.1 ++ w.3)) e, record { after = w.3; text = rest_at t m.at (93 ∷ []) (write_rest w.1 ++ w.3) e; follows = w.5 })

    pub rest_bracket_open : (byte_at t m.at ≡ 93 → ⊥) → Nowhere Form.rest t s.at
    rest_bracket_open n = record { none = λ c z. let w = bracket_left c z in n w.4 }

    pub rest_bracket_rest : Nowhere Form.rest t (m.at + 1) → Nowhere Form.rest t s.at
    rest_bracket_rest n = record { none = λ c z. let w = bracket_left c z in n.none w.1 w.5 }

    pub rest_bracket : {r : State} {n : ℕ} → byte_at t m.at ≡ 93 → Found Form.rest t (closed m) r n → Found Form.rest t s (added r 4 o n) r.list.count
    unfolding write_question normal reach root
    rest_bracket {r} {n} d x = record {
      goes = record { onward = omega (arith, f.goes, x.goes); inside = x.goes.inside; few = omega (arith, f.goes, x.goes); level = omega (arith, f.goes, x.goes); same = x.goes.same ∙ f.goes.same };
      sound = (Rest.bracket f.sound.0 x.sound.0, made f.sound.0 x.sound.0 f.sound.1 x.sound.1);
      complete = λ c z. let w = bracket_left c z in subst (MadeOf Form.rest t s (added r 4 o n) r.list.count) (sym w.2) (made w.0 w.1 w.3 (x.complete w.1 w.5));
    }
      where
        level : m.depth - 1 ≡ s.depth
        level = omega (arith, f.goes.level)

        made : (q : Question) (u : Rest) → MadeOf Form.question t (deepened s (s.at + 1)) m o q → MadeOf Form.rest t (closed m) r n u → MadeOf Form.rest t s (added r 4 o n) r.list.count (Rest.bracket q u)
        made q u y v =
            let place : m.at + 1 ≡ s.at + length (write_question q) + 2 = omega (arith, y.place) in
            recast (ap (λ k. 91 ∷ k) (append_assoc (write_question q) (93 ∷ []) (write_rest u))) (ap (λ k. Term.at (normal word_place (s.at + 1) q) (normal_rest word_place k u)) place)
            (over_two 4 Term.at emit_at (λ n a b. refl) (after_open 91 b (lit< tt) (before_shut 93 d (lit< tt) y)) (subst (λ k. Made t (closed m) r n (write_rest u) (normal_rest word_place (m.at + 1) u) (reach_rest k u)) level v))

-- WHERE A PART'S ANSWER IS THE WHOLE'S
module _ (t : Bytes) (s r : State) where
  pub steps_dot : byte_at t s.at ≡ 46 → (o : Option ℕ) → ReadsIn Form.rest t (moved s (s.at + 1)) r o → ReadsIn Form.steps t s r o
  unfolding write_question normal reach
  steps_dot b = let i : s.at < length t = inside t s.at 46 b (lit< tt) in
      way_same Form.steps Form.rest t s (moved s (s.at + 1)) r (Steps.step Move.dot) (dot_way b) (λ n u x. after_byte 46 b (lit< tt) x)
      (λ g. record { onward = omega (arith, g); inside = g.inside; few = omega (arith, g); level = g.level; same = g.same })

  pub rest_ends : (byte_at t s.at ≡ 91 → ⊥) → byte_at t s.at ≡ 47 → fronts (ascii "/text()=") (drop s.at t) ≡ true → (o : Option ℕ) → QuotesIn t (moved s (s.at + 8)) r 2 o → ReadsIn Form.rest t s r o
  unfolding write_question normal reach
  rest_ends n b c = let k : s.at + 9 ≡ s.at + 8 + 1 = omega arith in
      test_read t s r Form.rest Rest.ends 2 Term.text (ascii "/text()=") 8 refl emit_text root_text (λ w. refl) (λ w. ap (λ j. Term.text (j, length w.bytes)) k) (λ w. refl) c
      (λ u z. go u (rest_view_at RestKind.ends z (rw (ne_eqb _ 91 n, eq-eqb _ 47 b, c))))
    where
      go : (u : Rest) → RestView RestKind.ends u → (w : Quoted) × (u ≡ Rest.ends w)
      go u (RestView.ends w) = (w, refl)

  pub rest_slash : (byte_at t s.at ≡ 91 → ⊥) → byte_at t s.at ≡ 47 → fronts (ascii "/text()=") (drop s.at t) ≡ false → fronts (ascii "//") (drop s.at t) ≡ false → (o : Option ℕ) → ReadsIn Form.steps t (moved s (s.at + 1)) r o → ReadsIn Form.rest t s r o
  unfolding write_question normal reach
  rest_slash n b c c' = way_same Form.rest Form.steps t s (moved s (s.at + 1)) r (Rest.onward Sign.slash) (record { back = λ p z. go p z (rest_view_at RestKind.slash z (rw (ne_eqb _ 91 n, eq-eqb _ 47 b, c, c'))) }) (λ n u x. after_byte 47 b (lit< tt) x)
      (λ g. record { onward = omega (arith, g); inside = g.inside; few = omega (arith, g); level = g.level; same = g.same })
    where
      go : (p : Rest) → StandsAt Form.rest t s.at p → RestView RestKind.slash p → (u : Steps) × (p ≡ Rest.onward Sign.slash u) × StandsAt Form.steps t (s.at + 1) u
      go p z (RestView.slash u) = (u, refl, record { after = z.after; text = rest_at t s.at (47 ∷ []) (write_steps u ++ z.after) z.text; follows = z.follows })
