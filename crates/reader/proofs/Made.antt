-- How what was read of the parts becomes what was read of the whole.
use Prim.Native.Nat.{ℕ, suc, ◌+◌, ◌<◌, max}
use native.Mathlib.Omega.{arith}
use mathlib.Core.Path.{◌≡◌, refl, sym, ap, ◌∙◌, subst₂}
use mathlib.Core.List.{[], ◌∷◌, ◌++◌, append_assoc, append_cancel_left}
use lib.ListN.{length, drop, length-append}
use Rattle.meaning.specs.Bytes.{Bytes}
use Rattle.meaning.specs.Term.{Term}
use Rattle.meaning.specs.Entry.{root}
use Rattle.question.specs.declared.List as L
use Rattle.reader.specs.declared.state.State.{State}
use Rattle.question.specs.Listed.{Place}
use Rattle.reader.specs.inner.Reading.{pushed, added, moved, deepened, closed, byte_at, emitted, Made}
use Rattle.reader.proofs.Text.{cons_at}
use Rattle.reader.proofs.Emit.{emitted_count, emit_self, emit_label}

module _ {t : Bytes} where
  -- what is left after a form that is followed by z
  pub left_over : {s r : State} {n : ℕ} {w : Bytes} {a : Term Place} {k : ℕ → ℕ} (z : Bytes) → Made t s r n w a k → drop s.at t ≡ w ++ z → drop r.at t ≡ z
  left_over {s} {r} {w = w} z m e = append_cancel_left w (drop r.at t) z (sym m.text ∙ e)

  -- bytes before a form
  pub after : {s r : State} {n : ℕ} {w : Bytes} {a : Term Place} {k : ℕ → ℕ} (p : Bytes) (j : ℕ) → length p ≡ j → drop s.at t ≡ p ++ drop (s.at + j) t → Made t (moved s (s.at + j)) r n w a k → Made t s r n (p ++ w) a k
  after {s} {r} {w = w} p j h e m = record {
    text = e ∙ ap (λ x. p ++ x) m.text ∙ sym (append_assoc p w (drop r.at t));
    place = omega (arith, m.place, length-append p w);
    list = m.list;
    top = m.top;
    deepest = m.deepest;
  }

  pub after_byte : {s r : State} {n : ℕ} {w : Bytes} {a : Term Place} {k : ℕ → ℕ} (b : ℕ) → byte_at t s.at ≡ b → 0 < b → Made t (moved s (s.at + 1)) r n w a k → Made t s r n (b ∷ w) a k
  after_byte {s} b e pos m = after (b ∷ []) 1 refl (cons_at t s.at b e pos) m

  -- an opening bracket before a form
  pub after_open : {s r : State} {n : ℕ} {w : Bytes} {a : Term Place} {k : ℕ → ℕ} (b : ℕ) → byte_at t s.at ≡ b → 0 < b → Made t (deepened s (s.at + 1)) r n w a k → Made t s r n (b ∷ w) a (λ x. k (max x (s.depth + 1)))
  after_open {s} {r} {w = w} b e pos m = record {
    text = cons_at t s.at b e pos ∙ ap (λ x. b ∷ x) m.text;
    place = omega (arith, m.place);
    list = m.list;
    top = m.top;
    deepest = m.deepest;
  }

  -- a closing bracket after a form
  pub before_shut : {s r : State} {n : ℕ} {w : Bytes} {a : Term Place} {k : ℕ → ℕ} (b : ℕ) → byte_at t r.at ≡ b → 0 < b → Made t s r n w a k → Made t s (closed r) n (w ++ (b ∷ [])) a k
  before_shut {s} {r} {w = w} b e pos m = record {
    text = m.text ∙ ap (λ x. w ++ x) (cons_at t r.at b e pos) ∙ sym (append_assoc w (b ∷ []) (drop (r.at + 1) t));
    place = omega (arith, m.place, length-append w (b ∷ []));
    list = m.list;
    top = m.top;
    deepest = m.deepest;
  }

  -- an entry over a form, and over two
  pub over_one : (kind : ℕ) (c : Term Place → Term Place) → ((l : L.List) (a : Term Place) → emitted (c a) l ≡ pushed (emitted a l) kind (root l.count a) 0) → ((n : ℕ) (a : Term Place) → root n (c a) ≡ suc (root n a))
      → {s r : State} {n : ℕ} {w : Bytes} {a : Term Place} {k : ℕ → ℕ} → Made t s r n w a k → Made t s (added r kind n 0) r.list.count w (c a) k
  over_one kind c emits roots {s} {r} {a = a} m = record {
    text = m.text;
    place = m.place;
    list = rw (m.list, m.top) (sym (emits s.list a));
    top = ap (λ l. l.count) m.list ∙ emitted_count a s.list ∙ sym (roots s.list.count a);
    deepest = m.deepest;
  }

  pub over_two : (kind : ℕ) (c : Term Place → Term Place → Term Place)
      → ((l : L.List) (a b : Term Place) → emitted (c a b) l ≡ pushed (emitted b (emitted a l)) kind (root l.count a) (root (suc (root l.count a)) b)) → ((n : ℕ) (a b : Term Place) → root n (c a b) ≡ suc (root (suc (root n a)) b))
      → {s m r : State} {n o : ℕ} {w v : Bytes} {a b : Term Place} {k j : ℕ → ℕ} → Made t s m n w a k → Made t m r o v b j → Made t s (added r kind n o) r.list.count (w ++ v) (c a b) (λ x. j (k x))
  over_two kind c emits roots {s} {m} {r} {n} {o} {w} {v} {a} {b} {k} {j} x y = record {
    text = x.text ∙ ap (λ z. w ++ z) y.text ∙ sym (append_assoc w v (drop r.at t));
    place = omega (arith, x.place, y.place, length-append w v);
    list = rw (second_top, x.top, second_list) (sym (emits s.list a b));
    top = ap (λ l. l.count) second_list ∙ emitted_count b (emitted a s.list) ∙ ap (λ n. suc (root n b)) first_count ∙ sym (roots s.list.count a b);
    deepest = y.deepest ∙ ap j x.deepest;
  }
    where
      first_count : (emitted a s.list).count ≡ suc (root s.list.count a)
      first_count = emitted_count a s.list

      second_list : r.list ≡ emitted b (emitted a s.list)
      second_list = y.list ∙ ap (emitted b) x.list

      second_top : o ≡ root (suc (root s.list.count a)) b
      second_top = y.top ∙ ap (λ l. root l.count b) x.list ∙ ap (λ n. root n b) first_count

  pub recast : {s r : State} {n : ℕ} {w v : Bytes} {a b : Term Place} {k : ℕ → ℕ} → w ≡ v → a ≡ b → Made t s r n w a k → Made t s r n v b k
  recast {s} {r} {n} {k = k} e f m = subst₂ (λ w a. Made t s r n w a k) e f m

  pub nothing_made : {s : State} → Made t s (added s 0 0 0) s.list.count [] Term.self (λ x. x)
  unfolding root
  nothing_made {s} = record { text = refl; place = omega arith; list = sym (emit_self s.list); top = refl; deepest = refl }

  -- a word and its label entry
  pub label_made : {s : State} (w : Bytes) → drop s.at t ≡ w ++ drop (s.at + length w) t → Made t s (added (moved s (s.at + length w)) 1 s.at (length w)) s.list.count w (Term.label (s.at, length w)) (λ x. x)
  unfolding root
  label_made {s} w e = record { text = e; place = refl; list = sym (emit_label s.list s.at (length w)); top = refl; deepest = refl }
