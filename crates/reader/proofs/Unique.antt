-- NO TEXT IS WRITTEN BY TWO TREES.
use Prim.Native.Nat.{ℕ}
use mathlib.Core.Path.{◌≡◌, refl, sym, ap, ap₂, ◌∙◌, subst}
use mathlib.Core.Bool.{Bool, true, false}
use mathlib.Core.List.{List, [], ◌∷◌, ◌++◌, append_assoc, append-nil, append_cancel_left}
use lib.ListN.{length, get_or, drop, take}
use lib.Seq.{take-append_seam}
use lib.Dec.{T, T_prop}
use borrow.Author.Tests.{eqb-false}
use Rattle.std.specs.List.{prefix_len}
use Rattle.meaning.specs.Bytes.{Bytes, ascii}
use Rattle.meaning.specs.Question.{Question, Conj, OneUnit, Steps, Rest, Begin, Sign, Move, Name, Quoted, is_name_byte, is_quotable, is_name, is_quoted, all, write_quoted}
use Rattle.meaning.specs.Question.{write_question, write_unit, write_steps, write_rest}
use Rattle.reader.specs.inner.Reading.{fronts, Path, write_path, Form, TreeOf, text_of, PathEnds, QuestionEnds, Follows, whole_chain, chain_part, sign}
use Rattle.reader.specs.declared.grammar.Chain.{Chain}
use Rattle.reader.specs.Promise.{WriteOnce}
use Rattle.reader.proofs.Heads.{span_all, name_all, rest_head, step_class, StepKind, StepView, step_view, PathView, path_view, UnitKind, unit_class_of, UnitView, unit_view, RestKind, rest_class_of, RestView, rest_view, class_of_view, view_class, begin_class, move_class}
use Rattle.reader.proofs.Chains.{single, joined, grown, write_chain, Spine, spine_question, spine_conj, next, heads, grown_text, single_text}
use Rattle.reader.proofs.Words.{quoted_all}
use Rattle.reader.proofs.Units.{by_paren, by_bracket}

-- WORDS that are followed by a byte which does not go on with them are one
same_word : (p : ℕ → Bool) (w v x y : Bytes) → T (all p w) → T (all p v) → p (get_or x 0 0) ≡ false → p (get_or y 0 0) ≡ false → w ++ x ≡ v ++ y → (w ≡ v) × (x ≡ y)
same_word p w v x y i j f g e =
    let n : length w ≡ length v = sym (span_all p w x i f) ∙ ap (prefix_len p) e ∙ span_all p v y j g in
    let h : w ≡ v = sym (take-append_seam w x) ∙ ap (λ k. take k (w ++ x)) n ∙ ap (take (length v)) e ∙ take-append_seam v y in
    (h, append_cancel_left w x y (e ∙ ap (λ l. l ++ y) (sym h)))

same_name : (n m : Name) → n.bytes ≡ m.bytes → n ≡ m
same_name n m e = subst (λ u. (k : T (is_name u)) → n ≡ record { bytes = u; well_named = k }) e (λ k. ap (λ a. record { bytes = n.bytes; well_named = a }) (T_prop (is_name n.bytes) n.well_named k)) m.well_named

same_quoted : (n m : Quoted) → n.bytes ≡ m.bytes → n ≡ m
same_quoted n m e = subst (λ u. (k : T (is_quoted u)) → n ≡ record { bytes = u; well_quoted = k }) e (λ k. ap (λ a. record { bytes = n.bytes; well_quoted = a }) (T_prop (is_quoted n.bytes) n.well_quoted k)) m.well_quoted

same_quote : (w v : Quoted) (z y : Bytes) → write_quoted w ++ z ≡ write_quoted v ++ y → (w ≡ v) × (z ≡ y)
same_quote w v z y e =
    let k : w.bytes ++ (34 ∷ z) ≡ v.bytes ++ (34 ∷ y) = sym (append_assoc w.bytes (34 ∷ []) z) ∙ ap (drop 1) e ∙ append_assoc v.bytes (34 ∷ []) y in
    let h = same_word is_quotable w.bytes v.bytes (34 ∷ z) (34 ∷ y) (quoted_all w.bytes w.well_quoted) (quoted_all v.bytes v.well_quoted) refl refl k in
    (same_quoted w v h.0, ap (drop 1) h.1)

-- what is to be shown of a tree: no other writes the same, whatever follows
abbrev Same : (g : Form) → TreeOf g → Type 0
Same g c = (d : TreeOf g) (z y : Bytes) → Follows g (get_or z 0 0) → Follows g (get_or y 0 0) → text_of g c ++ z ≡ text_of g d ++ y → (c ≡ d) × (z ≡ y)

-- CHAINS, by their items
abbrev AllSame : (c : Chain) → List (TreeOf (chain_part c)) → Type 0
AllSame c [] = Unit {0}
AllSame c (i ∷ is) = Same (chain_part c) i × AllSame c is

all_snoc : (c : Chain) (is : List (TreeOf (chain_part c))) (i : TreeOf (chain_part c)) → AllSame c is → Same (chain_part c) i → AllSame c (is ++ (i ∷ []))
all_snoc c [] i a s = (s, tt)
all_snoc c (j ∷ is) i a s = (a.0, all_snoc c is i a.1 s)

record Items (c : Chain) (q : TreeOf (whole_chain c)) : Type 0 where
  spine : Spine c q
  first : Same (chain_part c) spine.first
  more : AllSame c spine.more

-- a byte that the whole may be followed by is no sign
ends : (c : Chain) (b : ℕ) → Follows (whole_chain c) b → b ≡ sign c → ⊥
ends Chain.Ors b f e = f.sign e
ends Chain.Ands b f e = f.sign e

same_more : (c : Chain) (is js : List (TreeOf (chain_part c))) → AllSame c is → (z y : Bytes) → Follows (whole_chain c) (get_or z 0 0) → Follows (whole_chain c) (get_or y 0 0) → write_chain c is ++ z ≡ write_chain c js ++ y → (is ≡ js) × (z ≡ y)
unfolding write_chain
same_more c [] [] a z y f g e = (refl, e)
same_more c [] (j ∷ js) a z y f g e = absurd (ends c (get_or z 0 0) f (ap (λ l. get_or l 0 0) e))
same_more c (i ∷ is) [] a z y f g e = absurd (ends c (get_or y 0 0) g (ap (λ l. get_or l 0 0) (sym e)))
same_more c (i ∷ is) (j ∷ js) a z y f g e =
    let k : text_of (chain_part c) i ++ (write_chain c is ++ z) ≡ text_of (chain_part c) j ++ (write_chain c js ++ y) = sym (append_assoc (text_of (chain_part c) i) (write_chain c is) z) ∙ ap (drop 1) e ∙ append_assoc (text_of (chain_part c) j) (write_chain c js) y in
    let h = a.0 j (write_chain c is ++ z) (write_chain c js ++ y) (heads c is z f) (heads c js y g) k in
    let r = same_more c is js a.1 z y f g h.1 in
    (ap₂ (λ x l. x ∷ l) h.0 r.0, r.1)

-- the text of a whole, by its spine
split : (c : Chain) (q : TreeOf (whole_chain c)) (s : Spine c q) (z : Bytes) → text_of (whole_chain c) q ++ z ≡ text_of (chain_part c) s.first ++ (write_chain c s.more ++ z)
split c q s z = ap (λ x. text_of (whole_chain c) x ++ z) s.is ∙ ap (λ x. x ++ z) (grown_text c (single c s.first) s.more ∙ ap (λ x. x ++ write_chain c s.more) (single_text c s.first)) ∙ append_assoc (text_of (chain_part c) s.first) (write_chain c s.more) z

same_whole : (c : Chain) (q : TreeOf (whole_chain c)) → Items c q → (other : (d : TreeOf (whole_chain c)) → Spine c d) → Same (whole_chain c) q
same_whole c q a other d z y f g e =
    let s = a.spine in
    let o = other d in
    let h = a.first o.first (write_chain c s.more ++ z) (write_chain c o.more ++ y) (heads c s.more z f) (heads c o.more y g) (sym (split c q s z) ∙ e ∙ split c d o y) in
    let r = same_more c s.more o.more a.more z y f g h.1 in
    (s.is ∙ ap₂ (λ x l. grown c (single c x) l) h.0 r.0 ∙ sym o.is, r.1)

-- one item more
more_items : (c : Chain) (q : TreeOf (whole_chain c)) (i : TreeOf (chain_part c)) → Items c q → Same (chain_part c) i → Items c (joined c q i)
unfolding next
more_items c q i a s = record { spine = next c q i a.spine; first = a.first; more = all_snoc c a.spine.more i a.more s }

-- THE FORMS. The other tree has the same first bytes, so it has the same form
other_unit : (d : OneUnit) (x y : Bytes) (k : UnitKind) → PathEnds (get_or y 0 0) → x ≡ write_unit d ++ y → unit_class_of x ≡ k → UnitView k d
other_unit d x y k g e c = subst (λ k. UnitView k d) (ap unit_class_of (sym e) ∙ c) (unit_view d y g)

other_path : (d : Path) (x y : Bytes) (k : Bool) → x ≡ write_path d ++ y → fronts (ascii "//") x ≡ k → PathView k d
other_path d x y k e c = subst (λ k. PathView k d) (ap (fronts (ascii "//")) (sym e) ∙ c) (path_view d y)

other_steps : (d : Steps) (x y : Bytes) (k : StepKind) → x ≡ write_steps d ++ y → step_class (get_or x 0 0) ≡ k → StepView k d
other_steps d x y k e c = subst (λ k. StepView k d) (ap (λ l. step_class (get_or l 0 0)) (sym e) ∙ c) (step_view d y)

other_rest : (d : Rest) (x y : Bytes) (k : RestKind) → PathEnds (get_or y 0 0) → x ≡ write_rest d ++ y → rest_class_of x ≡ k → RestView k d
other_rest d x y k g e c = subst (λ k. RestView k d) (ap rest_class_of (sym e) ∙ c) (rest_view d y g)

module _ (z y : Bytes) (f : PathEnds (get_or z 0 0)) (g : PathEnds (get_or y 0 0)) where
  deny_same : (u : OneUnit) → Same Form.unit u → (d : OneUnit) → UnitView UnitKind.deny d → write_unit (OneUnit.deny u) ++ z ≡ write_unit d ++ y → (OneUnit.deny u ≡ d) × (z ≡ y)
  unfolding write_question
  deny_same u ih d (UnitView.deny v) e = let h = ih v z y f g (ap (drop 1) e) in (ap OneUnit.deny h.0, h.1)

  group_same : (u : Question) → Same Form.question u → (d : OneUnit) → UnitView UnitKind.group d → write_unit (OneUnit.group u) ++ z ≡ write_unit d ++ y → (OneUnit.group u ≡ d) × (z ≡ y)
  unfolding write_question
  group_same u ih d (UnitView.group v) e =
      let h = ih v (41 ∷ z) (41 ∷ y) by_paren by_paren (sym (append_assoc (write_question u) (41 ∷ []) z) ∙ ap (drop 1) e ∙ append_assoc (write_question v) (41 ∷ []) y) in
      (ap OneUnit.group h.0, ap (drop 1) h.1)

  label_same : (w : Quoted) (d : OneUnit) → UnitView UnitKind.label d → write_unit (OneUnit.label w) ++ z ≡ write_unit d ++ y → (OneUnit.label w ≡ d) × (z ≡ y)
  unfolding write_question
  label_same w d (UnitView.label v) e = let h = same_quote w v z y (ap (drop 8) e) in (ap OneUnit.label h.0, h.1)

  text_same : (w : Quoted) (d : OneUnit) → UnitView UnitKind.text d → write_unit (OneUnit.text w) ++ z ≡ write_unit d ++ y → (OneUnit.text w ≡ d) × (z ≡ y)
  unfolding write_question
  text_same w d (UnitView.text v) e = let h = same_quote w v z y (ap (drop 7) e) in (ap OneUnit.text h.0, h.1)

  path_same : (b : Begin) (u : Steps) → Same Form.path (b, u) → (d : OneUnit) → UnitView UnitKind.path d → write_unit (OneUnit.path b u) ++ z ≡ write_unit d ++ y → (OneUnit.path b u ≡ d) × (z ≡ y)
  unfolding write_question
  path_same b u ih d (UnitView.path c v) e = let h = ih (c, v) z y f g e in (ap (λ p. OneUnit.path p.0 p.1) h.0, h.1)

  deep_same : (u : Steps) → Same Form.steps u → (d : Path) → PathView true d → write_path (Begin.deep, u) ++ z ≡ write_path d ++ y → ((Begin.deep, u) ≡ d) × (z ≡ y)
  unfolding write_question
  deep_same u ih d (PathView.deep v) e = let h = ih v z y f g (ap (drop 2) e) in (ap (λ x. (Begin.deep, x)) h.0, h.1)

  plain_same : (u : Steps) → Same Form.steps u → (d : Path) → PathView false d → write_path (Begin.plain, u) ++ z ≡ write_path d ++ y → ((Begin.plain, u) ≡ d) × (z ≡ y)
  unfolding write_question
  plain_same u ih d (PathView.plain v) e = let h = ih v z y f g e in (ap (λ x. (Begin.plain, x)) h.0, h.1)

  dot_same : (u : Rest) → Same Form.rest u → (d : Steps) → StepView StepKind.dot d → write_steps (Steps.step Move.dot u) ++ z ≡ write_steps d ++ y → (Steps.step Move.dot u ≡ d) × (z ≡ y)
  unfolding write_question
  dot_same u ih d (StepView.dot v) e = let h = ih v z y f g (ap (drop 1) e) in (ap (Steps.step Move.dot) h.0, h.1)

  star_same : (u : Rest) → Same Form.rest u → (d : Steps) → StepView StepKind.star d → write_steps (Steps.step Move.star u) ++ z ≡ write_steps d ++ y → (Steps.step Move.star u ≡ d) × (z ≡ y)
  unfolding write_question
  star_same u ih d (StepView.star v) e = let h = ih v z y f g (ap (drop 1) e) in (ap (Steps.step Move.star) h.0, h.1)

  name_same : (n : Name) (u : Rest) → Same Form.rest u → (d : Steps) → StepView StepKind.name d → write_steps (Steps.step (Move.name n) u) ++ z ≡ write_steps d ++ y → (Steps.step (Move.name n) u ≡ d) × (z ≡ y)
  unfolding write_question
  name_same n u ih d (StepView.name m v) e =
      let w = same_word is_name_byte n.bytes m.bytes (write_rest u ++ z) (write_rest v ++ y) (name_all n.bytes n.well_named) (name_all m.bytes m.well_named) (rest_head u z f).0 (rest_head v y g).0
      (sym (append_assoc n.bytes (write_rest u) z) ∙ e ∙ append_assoc m.bytes (write_rest v) y) in
      let h = ih v z y f g w.1 in
      (ap₂ (λ a b. Steps.step (Move.name a) b) (same_name n m w.0) h.0, h.1)

  end_same : (d : Rest) → RestView RestKind.end d → write_rest Rest.end ++ z ≡ write_rest d ++ y → (Rest.end ≡ d) × (z ≡ y)
  unfolding write_question
  end_same d RestView.end e = (refl, e)

  ends_same : (w : Quoted) (d : Rest) → RestView RestKind.ends d → write_rest (Rest.ends w) ++ z ≡ write_rest d ++ y → (Rest.ends w ≡ d) × (z ≡ y)
  unfolding write_question
  ends_same w d (RestView.ends v) e = let h = same_quote w v z y (ap (drop 8) e) in (ap Rest.ends h.0, h.1)

  bracket_same : (q : Question) (u : Rest) → Same Form.question q → Same Form.rest u → (d : Rest) → RestView RestKind.bracket d → write_rest (Rest.bracket q u) ++ z ≡ write_rest d ++ y → (Rest.bracket q u ≡ d) × (z ≡ y)
  unfolding write_question
  bracket_same q u ih ih' d (RestView.bracket p v) e =
      let h = ih p (93 ∷ (write_rest u ++ z)) (93 ∷ (write_rest v ++ y)) by_bracket by_bracket (sym (append_assoc (write_question q) (93 ∷ write_rest u) z) ∙ ap (drop 1) e ∙ append_assoc (write_question p) (93 ∷ write_rest v) y) in
      let k = ih' v z y f g (ap (drop 1) h.1) in
      (ap₂ Rest.bracket h.0 k.0, k.1)

  slash_same : (u : Steps) → Same Form.steps u → (d : Rest) → RestView RestKind.slash d → write_rest (Rest.onward Sign.slash u) ++ z ≡ write_rest d ++ y → (Rest.onward Sign.slash u ≡ d) × (z ≡ y)
  unfolding write_question
  slash_same u ih d (RestView.slash v) e = let h = ih v z y f g (ap (drop 1) e) in (ap (Rest.onward Sign.slash) h.0, h.1)

  slashes_same : (u : Steps) → Same Form.steps u → (d : Rest) → RestView RestKind.slashes d → write_rest (Rest.onward Sign.slashes u) ++ z ≡ write_rest d ++ y → (Rest.onward Sign.slashes u ≡ d) × (z ≡ y)
  unfolding write_question
  slashes_same u ih d (RestView.slashes v) e = let h = ih v z y f g (ap (drop 2) e) in (ap (Rest.onward Sign.slashes) h.0, h.1)

-- by the first tree's own form
by_begin : (b : Begin) (s : Steps) (z y : Bytes) → PathEnds (get_or z 0 0) → PathEnds (get_or y 0 0) → Same Form.steps s → (d : Path) → write_path (b, s) ++ z ≡ write_path d ++ y → ((b, s) ≡ d) × (z ≡ y)
by_begin Begin.deep s z y f g ih d e = deep_same z y f g s ih d (other_path d _ y true e (begin_class Begin.deep s z)) e
by_begin Begin.plain s z y f g ih d e = plain_same z y f g s ih d (other_path d _ y false e (begin_class Begin.plain s z)) e

by_move : (m : Move) (r : Rest) (z y : Bytes) → PathEnds (get_or z 0 0) → PathEnds (get_or y 0 0) → Same Form.rest r → (d : Steps) → write_steps (Steps.step m r) ++ z ≡ write_steps d ++ y → (Steps.step m r ≡ d) × (z ≡ y)
by_move Move.dot r z y f g ih d e = dot_same z y f g r ih d (other_steps d _ y StepKind.dot e (move_class Move.dot r z)) e
by_move Move.star r z y f g ih d e = star_same z y f g r ih d (other_steps d _ y StepKind.star e (move_class Move.star r z)) e
by_move (Move.name n) r z y f g ih d e = name_same z y f g n r ih d (other_steps d _ y StepKind.name e (move_class (Move.name n) r z)) e

by_sign : (g : Sign) (s : Steps) (z y : Bytes) → PathEnds (get_or z 0 0) → PathEnds (get_or y 0 0) → Same Form.steps s → (d : Rest) → write_rest (Rest.onward g s) ++ z ≡ write_rest d ++ y → (Rest.onward g s ≡ d) × (z ≡ y)
by_sign Sign.slash s z y f g ih d e = slash_same z y f g s ih d (other_rest d _ y RestKind.slash g e (view_class (Rest.onward Sign.slash s) z f RestKind.slash (RestView.slash s))) e
by_sign Sign.slashes s z y f g ih d e = slashes_same z y f g s ih d (other_rest d _ y RestKind.slashes g e (view_class (Rest.onward Sign.slashes s) z f RestKind.slashes (RestView.slashes s))) e

mutual
  unfolding grown

  items_question : (q : Question) → Items Chain.Ors q
  items_question (Question.conj i) = record { spine = record { first = i; more = []; is = refl }; first = same_whole Chain.Ands i (items_conj i) spine_conj; more = tt }
  items_question (Question.either q i) = more_items Chain.Ors q i (items_question q) (same_whole Chain.Ands i (items_conj i) spine_conj)

  items_conj : (q : Conj) → Items Chain.Ands q
  items_conj (Conj.unit i) = record { spine = record { first = i; more = []; is = refl }; first = λ d z y f g e. same_unit i d z y f g e; more = tt }
  items_conj (Conj.both q i) = more_items Chain.Ands q i (items_conj q) (λ d z y f g e. same_unit i d z y f g e)

  same_unit : (p : OneUnit) → Same Form.unit p
  same_unit (OneUnit.deny u) d z y f g e = deny_same z y f g u (λ d z y f g e. same_unit u d z y f g e) d (other_unit d _ y UnitKind.deny g e (class_of_view (OneUnit.deny u) z f UnitKind.deny (UnitView.deny u))) e
  same_unit (OneUnit.group q) d z y f g e = group_same z y f g q (same_whole Chain.Ors q (items_question q) spine_question) d (other_unit d _ y UnitKind.group g e (class_of_view (OneUnit.group q) z f UnitKind.group (UnitView.group q))) e
  same_unit (OneUnit.label w) d z y f g e = label_same z y f g w d (other_unit d _ y UnitKind.label g e (class_of_view (OneUnit.label w) z f UnitKind.label (UnitView.label w))) e
  same_unit (OneUnit.text w) d z y f g e = text_same z y f g w d (other_unit d _ y UnitKind.text g e (class_of_view (OneUnit.text w) z f UnitKind.text (UnitView.text w))) e
  same_unit (OneUnit.path b s) d z y f g e = path_same z y f g b s (λ d z y f g e. by_begin b s z y f g (λ d z y f g e. same_steps s d z y f g e) d e) d (other_unit d _ y UnitKind.path g e (class_of_view (OneUnit.path b s) z f UnitKind.path (UnitView.path b s))) e

  same_steps : (s : Steps) → Same Form.steps s
  same_steps (Steps.step m r) d z y f g e = by_move m r z y f g (λ d z y f g e. same_rest r d z y f g e) d e

  same_rest : (r : Rest) → Same Form.rest r
  same_rest Rest.end d z y f g e = end_same z y f g d (other_rest d _ y RestKind.end g e (view_class Rest.end z f RestKind.end RestView.end)) e
  same_rest (Rest.ends w) d z y f g e = ends_same z y f g w d (other_rest d _ y RestKind.ends g e (view_class (Rest.ends w) z f RestKind.ends (RestView.ends w))) e
  same_rest (Rest.bracket q r) d z y f g e = bracket_same z y f g q r (same_whole Chain.Ors q (items_question q) spine_question) (λ d z y f g e. same_rest r d z y f g e) d (other_rest d _ y RestKind.bracket g e (view_class (Rest.bracket q r) z f RestKind.bracket (RestView.bracket q r))) e
  same_rest (Rest.onward s u) d z y f g e = by_sign s u z y f g (λ d z y f g e. same_steps u d z y f g e) d e

pub same_question : (q : Question) → Same Form.question q
same_question q = same_whole Chain.Ors q (items_question q) spine_question

pub by_nothing : QuestionEnds 0
by_nothing = record { conj = record { path = record { bracket = eqb-false 0 91 refl; slash = eqb-false 0 47 refl; paren = eqb-false 0 40 refl; name = refl }; sign = eqb-false 0 38 refl }; sign = eqb-false 0 124 refl }

-- WRITING IS INJECTIVE
pub write_once : WriteOnce
write_once q d e = (same_question q d [] [] by_nothing by_nothing (append-nil (write_question q) ∙ e ∙ sym (append-nil (write_question d)))).0
