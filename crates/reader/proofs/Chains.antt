-- Chains of `|` and of `&`, read from left to right; the tree groups to the left.
use Prim.Native.Nat.{ℕ, ◌+◌, ◌<◌}
use native.Mathlib.Omega.{arith}
use mathlib.Core.Path.{◌≡◌, refl, sym, ap, ◌∙◌, subst}
use mathlib.Core.List.{List, [], ◌∷◌, ◌++◌, append_assoc, append-nil}
use lib.ListN.{length, get_or, drop}
use lib.Dec.{lit<}
use borrow.Author.Tests.{eqb-false}
use Rattle.meaning.specs.Bytes.{Bytes}
use Rattle.meaning.specs.Question.{Question, Conj, write_question, write_conj, write_unit}
use Rattle.meaning.specs.Term.{Term, normal, normal_conj, normal_unit}
use Rattle.meaning.specs.Entry.{root}
use Rattle.reader.specs.declared.state.State.{State}
use Rattle.reader.specs.declared.grammar.Chain.{Chain}
use Rattle.question.specs.inner.Kind.{code}
use Rattle.reader.specs.Packed.{word_place}
use Rattle.reader.specs.inner.Reading.{added, moved, byte_at, reach, reach_conj, reach_unit, TreeOf, text_of, Follows, Made, MadeOf, StandsAt, Nowhere, Goes, slack, Found, whole_chain, chain_part, sign, kind_of}
use Rattle.reader.proofs.Text.{head_at, cons_at}
use Rattle.reader.proofs.Emit.{emit_or, emit_and}
use Rattle.reader.proofs.Made.{left_over, after_byte, over_two, recast}

abbrev pub single : (c : Chain) → TreeOf (chain_part c) → TreeOf (whole_chain c)
single Chain.Ors i = Question.conj i
single Chain.Ands i = Conj.unit i

abbrev pub joined : (c : Chain) → TreeOf (whole_chain c) → TreeOf (chain_part c) → TreeOf (whole_chain c)
joined Chain.Ors q i = Question.either q i
joined Chain.Ands q i = Conj.both q i

unfoldable pub grown : (c : Chain) → TreeOf (whole_chain c) → List (TreeOf (chain_part c)) → TreeOf (whole_chain c)
grown c q [] = q
grown c q (i ∷ is) = grown c (joined c q i) is

unfoldable pub write_chain : (c : Chain) → List (TreeOf (chain_part c)) → Bytes
write_chain c [] = []
write_chain c (i ∷ is) = sign c ∷ (text_of (chain_part c) i ++ write_chain c is)

sign_some : (c : Chain) → 0 < sign c
sign_some Chain.Ors = lit< tt
sign_some Chain.Ands = lit< tt

item_slack : (c : Chain) → slack (chain_part c) ≡ 0
item_slack Chain.Ors = refl
item_slack Chain.Ands = refl

whole_slack : (c : Chain) → slack (whole_chain c) ≡ 0
whole_slack Chain.Ors = refl
whole_slack Chain.Ands = refl

-- what may follow an item
pub heads : (c : Chain) (is : List (TreeOf (chain_part c))) (z : Bytes) → Follows (whole_chain c) (get_or z 0 0) → Follows (chain_part c) (get_or (write_chain c is ++ z) 0 0)
unfolding write_chain
heads Chain.Ors [] z f = f.conj
heads Chain.Ors (i ∷ is) z f = record { path = record { bracket = eqb-false 124 91 refl; slash = eqb-false 124 47 refl; paren = eqb-false 124 40 refl; name = refl }; sign = eqb-false 124 38 refl }
heads Chain.Ands [] z f = f.path
heads Chain.Ands (i ∷ is) z f = record { bracket = eqb-false 38 91 refl; slash = eqb-false 38 47 refl; paren = eqb-false 38 40 refl; name = refl }

-- one item more
joined_made : (c : Chain) {t : Bytes} (o s m : State) {n k : ℕ} (q : TreeOf (whole_chain c)) (i : TreeOf (chain_part c)) → o.depth ≡ s.depth → byte_at t s.at ≡ sign c → MadeOf (whole_chain c) t o s n q → MadeOf (chain_part c) t (moved s (s.at + 1)) m k i
    → MadeOf (whole_chain c) t o (added m (code (kind_of c)) n k) m.list.count (joined c q i)
unfolding write_question normal reach root
joined_made Chain.Ors {t} o s m {n} {k} q i d b x y =
    let j : s.at + 1 ≡ o.at + length (write_question q) + 1 = omega (arith, x.place) in
    recast refl (ap (λ k. Term.or (normal word_place o.at q) (normal_conj word_place k i)) j)
    (subst (λ d. Made t o (added m 6 n k) m.list.count (write_question q ++ (124 ∷ write_conj i)) (Term.or (normal word_place o.at q) (normal_conj word_place (s.at + 1) i)) (λ z. reach_conj d i (reach o.depth q z))) (sym d)
    (over_two 6 Term.or emit_or (λ n a b. refl) x (after_byte 124 b (lit< tt) y)))
joined_made Chain.Ands {t} o s m {n} {k} q i d b x y =
    let j : s.at + 1 ≡ o.at + length (write_conj q) + 1 = omega (arith, x.place) in
    recast refl (ap (λ k. Term.and (normal_conj word_place o.at q) (normal_unit word_place k i)) j)
    (subst (λ d. Made t o (added m 7 n k) m.list.count (write_conj q ++ (38 ∷ write_unit i)) (Term.and (normal_conj word_place o.at q) (normal_unit word_place (s.at + 1) i)) (λ z. reach_unit d i (reach_conj o.depth q z))) (sym d)
    (over_two 7 Term.and emit_and (λ n a b. refl) x (after_byte 38 b (lit< tt) y)))

-- THE SPINE of a tree that groups to the left: its first item, and the others
pub record Spine (c : Chain) (q : TreeOf (whole_chain c)) : Type 0 where
  pub first : TreeOf (chain_part c)
  pub more : List (TreeOf (chain_part c))
  pub is : q ≡ grown c (single c first) more

pub grown_last : (c : Chain) (q : TreeOf (whole_chain c)) (is : List (TreeOf (chain_part c))) (i : TreeOf (chain_part c)) → grown c q (is ++ (i ∷ [])) ≡ joined c (grown c q is) i
unfolding grown
grown_last c q [] i = refl
grown_last c q (j ∷ is) i = grown_last c (joined c q j) is i

unfoldable pub next : (c : Chain) (q : TreeOf (whole_chain c)) (i : TreeOf (chain_part c)) → Spine c q → Spine c (joined c q i)
next c q i s = record { first = s.first; more = s.more ++ (i ∷ []); is = ap (λ x. joined c x i) s.is ∙ sym (grown_last c (single c s.first) s.more i) }

pub spine_question : (q : Question) → Spine Chain.Ors q
unfolding grown
spine_question (Question.conj i) = record { first = i; more = []; is = refl }
spine_question (Question.either q i) = next Chain.Ors q i (spine_question q)

pub spine_conj : (q : Conj) → Spine Chain.Ands q
unfolding grown
spine_conj (Conj.unit i) = record { first = i; more = []; is = refl }
spine_conj (Conj.both q i) = next Chain.Ands q i (spine_conj q)

spine : (c : Chain) (q : TreeOf (whole_chain c)) → Spine c q
spine Chain.Ors q = spine_question q
spine Chain.Ands q = spine_conj q

joined_text : (c : Chain) (q : TreeOf (whole_chain c)) (i : TreeOf (chain_part c)) → text_of (whole_chain c) (joined c q i) ≡ text_of (whole_chain c) q ++ (sign c ∷ text_of (chain_part c) i)
unfolding write_question
joined_text Chain.Ors q i = refl
joined_text Chain.Ands q i = refl

pub single_text : (c : Chain) (i : TreeOf (chain_part c)) → text_of (whole_chain c) (single c i) ≡ text_of (chain_part c) i
unfolding write_question
single_text Chain.Ors i = refl
single_text Chain.Ands i = refl

pub grown_text : (c : Chain) (q : TreeOf (whole_chain c)) (is : List (TreeOf (chain_part c))) → text_of (whole_chain c) (grown c q is) ≡ text_of (whole_chain c) q ++ write_chain c is
unfolding grown write_chain
grown_text c q [] = sym (append-nil (text_of (whole_chain c) q))
grown_text c q (i ∷ is) = grown_text c (joined c q i) is ∙ ap (λ x. x ++ write_chain c is) (joined_text c q i) ∙ append_assoc (text_of (whole_chain c) q) (sign c ∷ text_of (chain_part c) i) (write_chain c is)

-- what is left of the tree q: its first part p was read, and the items is are to be read
pub record Left (c : Chain) (t : Bytes) (o s : State) (n : ℕ) (q : TreeOf (whole_chain c)) : Type 0 where
  pub part : TreeOf (whole_chain c)
  pub items : List (TreeOf (chain_part c))
  pub is : q ≡ grown c part items
  pub made : MadeOf (whole_chain c) t o s n part
  pub after : Bytes
  pub text : drop s.at t ≡ write_chain c items ++ after
  pub follows : Follows (whole_chain c) (get_or after 0 0)

-- A CHAIN READ AS FAR AS HERE: what was read is a tree, and of each tree that stands there a first part, whose other items stand here
pub record Linked (c : Chain) (t : Bytes) (o s : State) (n : ℕ) : Type 0 where
  pub goes : Goes t o s 0
  pub sound : (q : TreeOf (whole_chain c)) × MadeOf (whole_chain c) t o s n q
  pub complete : (q : TreeOf (whole_chain c)) → StandsAt (whole_chain c) t o.at q → Left c t o s n q

module _ (c : Chain) {t : Bytes} where
  single_made : (c : Chain) {s m : State} {n : ℕ} (i : TreeOf (chain_part c)) → MadeOf (chain_part c) t s m n i → MadeOf (whole_chain c) t s m n (single c i)
  unfolding write_question normal reach
  single_made Chain.Ors i m = m
  single_made Chain.Ands i m = m

  -- a tree's first item stands where the tree does
  first_item : {a : ℕ} (q : TreeOf (whole_chain c)) → (z : StandsAt (whole_chain c) t a q) → (p : Spine c q) → StandsAt (chain_part c) t a p.first
  first_item q z p = record {
    after = write_chain c p.more ++ z.after;
    text = z.text ∙ ap (λ x. text_of (whole_chain c) x ++ z.after) p.is ∙ ap (λ x. x ++ z.after) (grown_text c (single c p.first) p.more ∙ ap (λ x. x ++ write_chain c p.more) (single_text c p.first)) ∙ append_assoc (text_of (chain_part c) p.first) (write_chain c p.more) z.after;
    follows = heads c p.more z.after z.follows;
  }

  pub chain_nowhere : {a : ℕ} → Nowhere (chain_part c) t a → Nowhere (whole_chain c) t a
  chain_nowhere f = record { none = λ q z. let p = spine c q in f.none p.first (first_item q z p) }

  pub chain_begins : {o s : State} {n : ℕ} → Found (chain_part c) t o s n → Linked c t o s n
  unfolding first_item
  chain_begins {o} {s} {n} f = record {
    goes = record { onward = f.goes.onward; inside = f.goes.inside; few = omega (arith, f.goes, item_slack c); level = f.goes.level; same = f.goes.same };
    sound = (single c f.sound.0, single_made c f.sound.0 f.sound.1);
    complete = λ q z.
        let p = spine c q in
        let i = first_item q z p in
        let m = f.complete p.first i in
        record { part = single c p.first; items = p.more; is = p.is; made = single_made c p.first m; after = z.after; text = left_over i.after m i.text; follows = z.follows };
  }

  -- where the sign does not stand the chain ends
  pub chain_ends : {o s : State} {n : ℕ} → Linked c t o s n → (byte_at t s.at ≡ sign c → ⊥) → Found (whole_chain c) t o s n
  unfolding grown write_chain
  chain_ends {o} {s} {n} l x = record {
    goes = record { onward = l.goes.onward; inside = l.goes.inside; few = omega (arith, l.goes, whole_slack c); level = l.goes.level; same = l.goes.same };
    sound = l.sound;
    complete = λ q z. let y = l.complete q z in go q y.part y.items y.is y.made y.after y.text;
  }
    where
      go : (q p : TreeOf (whole_chain c)) (is : List (TreeOf (chain_part c))) → q ≡ grown c p is → MadeOf (whole_chain c) t o s n p → (z : Bytes) → drop s.at t ≡ write_chain c is ++ z → MadeOf (whole_chain c) t o s n q
      go q p [] e m z i = subst (MadeOf (whole_chain c) t o s n) (sym e) m
      go q p (u ∷ is) e m z i = absurd (x (head_at t s.at _ i))

  -- where it stands an item follows
  module _ (o s : State) {n : ℕ} (l : Linked c t o s n) (b : byte_at t s.at ≡ sign c) where
    next_item : (q : TreeOf (whole_chain c)) (y : Left c t o s n q) → (i : TreeOf (chain_part c)) × (is : List (TreeOf (chain_part c))) × (y.items ≡ i ∷ is) × (z : StandsAt (chain_part c) t (s.at + 1) i) × (z.after ≡ write_chain c is ++ y.after)
    unfolding write_chain
    next_item q y = go y.items y.text
      where
        ends : (c : Chain) → Follows (whole_chain c) (sign c) → ⊥
        ends Chain.Ors g = g.sign refl
        ends Chain.Ands g = g.sign refl

        go : (is : List (TreeOf (chain_part c))) → drop s.at t ≡ write_chain c is ++ y.after → (i : TreeOf (chain_part c)) × (js : List (TreeOf (chain_part c))) × (is ≡ i ∷ js) × (z : StandsAt (chain_part c) t (s.at + 1) i) × (z.after ≡ write_chain c js ++ y.after)
        go [] e = absurd (ends c (subst (Follows (whole_chain c)) (sym (head_at t s.at y.after e) ∙ b) y.follows))
        go (i ∷ is) e = (
          i,
          is,
          refl,
          record {
            after = write_chain c is ++ y.after;
            text = ap (drop 1) (sym (cons_at t s.at (sign c) b (sign_some c)) ∙ e) ∙ append_assoc (text_of (chain_part c) i) (write_chain c is) y.after;
            follows = heads c is y.after y.follows;
          },
          refl,
        )

    pub chain_breaks : Nowhere (chain_part c) t (s.at + 1) → Nowhere (whole_chain c) t o.at
    chain_breaks f = record { none = λ q z. let w = next_item q (l.complete q z) in f.none w.0 w.3 }

    pub chain_more : {m : State} {k : ℕ} → Found (chain_part c) t (moved s (s.at + 1)) m k → Linked c t o (added m (code (kind_of c)) n k) m.list.count
    unfolding grown
    chain_more {m} {k} f = record {
      goes = record { onward = omega (arith, f.goes, l.goes); inside = f.goes.inside; few = omega (arith, f.goes, l.goes, item_slack c); level = f.goes.level ∙ l.goes.level; same = f.goes.same ∙ l.goes.same };
      sound = (joined c l.sound.0 f.sound.0, joined_made c o s m l.sound.0 f.sound.0 (sym l.goes.level) b l.sound.1 f.sound.1);
      complete = λ q z.
          let y = l.complete q z in
          let w = next_item q y in
          let d = f.complete w.0 w.3 in
          record { part = joined c y.part w.0; items = w.1; is = y.is ∙ ap (grown c y.part) w.2; made = joined_made c o s m y.part w.0 (sym l.goes.level) b y.made d; after = y.after; text = left_over w.3.after d w.3.text ∙ w.4; follows = y.follows };
    }
