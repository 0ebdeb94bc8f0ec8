-- The first bytes of a text tell which form a tree that writes it has.
use Prim.Native.Nat.{ℕ, suc}
use mathlib.Core.Path.{◌≡◌, refl, sym, ap, ◌∙◌, subst}
use mathlib.Core.Bool.{Bool, true, false, cond, ◌&&◌, true≢false}
use mathlib.Core.List.{[], ◌∷◌, ◌++◌, append_assoc}
use lib.ListN.{length, get_or, drop}
use lib.Seq.{get_or-append-add}
use native.Mathlib.Nat.{add-zero}
use native.Mathlib.Numerals.{one-add}
use Rattle.std.specs.List.{prefix_len}
use lib.Dec.{T, eqb, leb}
use borrow.Author.Tests.{ne_eqb, eqb-false}
use Rattle.meaning.specs.Bytes.{Bytes, ascii}
use Rattle.meaning.specs.Question.{Question, OneUnit, Steps, Rest, Begin, Sign, Move, Name, Quoted, is_letter, is_name_byte, is_name, all, write_begin}
use Rattle.meaning.specs.Question.{write_question, write_unit, write_steps, write_rest}
use Rattle.reader.specs.inner.Reading.{fronts, Path, write_path, PathEnds}
use Rattle.reader.proofs.Text.{fronts_split}

-- WORDS
pub both : (a b : Bool) → T (a && b) → T a × T b
both true b h = (tt, h)
both false b h = absurd h

pub holds : (b : Bool) → T b → b ≡ true
holds true h = refl
holds false h = absurd h

-- all bytes of a word pass, and the byte after it does not
pub span_all : (p : ℕ → Bool) (w x : Bytes) → T (all p w) → p (get_or x 0 0) ≡ false → prefix_len p (w ++ x) ≡ length w
unfolding all
span_all p [] [] h e = refl
span_all p [] (b ∷ x) h e = rw e
span_all p (b ∷ w) x h e =
    let i = both (p b) (all p w) h in
    rw (holds (p b) i.0, one-add) (ap suc (span_all p w x i.1 e))

letter_name : (b : ℕ) → is_letter b ≡ true → is_name_byte b ≡ true
letter_name b e = rw e

pub name_head : (w x : Bytes) → T (is_name w) → is_letter (get_or (w ++ x) 0 0) ≡ true
unfolding is_name
name_head [] x h = absurd h
name_head (b ∷ w) x h = holds (is_letter b) (both (is_letter b) (all is_name_byte w) (both (is_letter b && all is_name_byte w) (leb (suc (length w)) 64) h).0).0

pub name_all : (w : Bytes) → T (is_name w) → T (all is_name_byte w)
unfolding is_name all
name_all [] h = tt
name_all (b ∷ w) h =
    let i = both (is_letter b) (all is_name_byte w) (both (is_letter b && all is_name_byte w) (leb (suc (length w)) 64) h).0 in
    subst T (sym (ap (λ c. c && all is_name_byte w) (letter_name b (holds (is_letter b) i.0)))) i.1

pub not_letter : (b c : ℕ) → is_letter b ≡ true → is_letter c ≡ false → b ≡ c → ⊥
not_letter b c x y e = true≢false (sym x ∙ ap is_letter e ∙ y)

-- a name that no `(` follows is no test: f is `label()=` or `text()=`, with n letters before its `(`
no_test : (f : Bytes) (n : ℕ) → ((y : Bytes) → prefix_len is_name_byte (f ++ y) ≡ n) → ((y : Bytes) → get_or (f ++ y) n 0 ≡ 40)
    → (w x : Bytes) → T (is_name w) → is_name_byte (get_or x 0 0) ≡ false → (get_or x 0 0 ≡ 40 → ⊥) → fronts f (w ++ x) ≡ false
no_test f n spans parens w x h e p = go (fronts f (w ++ x)) refl
  where
    go : (b : Bool) → fronts f (w ++ x) ≡ b → b ≡ false
    go false i = refl
    go true i = absurd (p (sym at_x ∙ ap (λ y. get_or y (length w) 0) split ∙ ap (λ k. get_or (f ++ drop (length f) (w ++ x)) k 0) size ∙ parens (drop (length f) (w ++ x))))
      where
        split : w ++ x ≡ f ++ drop (length f) (w ++ x)
        split = fronts_split f (w ++ x) i

        size : length w ≡ n
        size = sym (span_all is_name_byte w x (name_all w h) e) ∙ ap (prefix_len is_name_byte) split ∙ spans (drop (length f) (w ++ x))

        at_x : get_or (w ++ x) (length w) 0 ≡ get_or x 0 0
        at_x = ap (λ k. get_or (w ++ x) k 0) (sym (add-zero (length w))) ∙ get_or-append-add w x 0 0

no_label : (w x : Bytes) → T (is_name w) → is_name_byte (get_or x 0 0) ≡ false → (get_or x 0 0 ≡ 40 → ⊥) → fronts (ascii "label()=") (w ++ x) ≡ false
no_label = no_test (ascii "label()=") 5 (λ y. refl) (λ y. refl)

no_text : (w x : Bytes) → T (is_name w) → is_name_byte (get_or x 0 0) ≡ false → (get_or x 0 0 ≡ 40 → ⊥) → fronts (ascii "text()=") (w ++ x) ≡ false
no_text = no_test (ascii "text()=") 4 (λ y. refl) (λ y. refl)

no_fronts : (b : ℕ) (f x : Bytes) → (get_or x 0 0 ≡ b → ⊥) → fronts (b ∷ f) x ≡ false
no_fronts b f [] n = refl
no_fronts b f (y ∷ x) n = rw (ne_eqb b y (λ e. n (sym e)))

-- what follows a name
pub rest_head : (r : Rest) (z : Bytes) → PathEnds (get_or z 0 0) → (is_name_byte (get_or (write_rest r ++ z) 0 0) ≡ false) × (get_or (write_rest r ++ z) 0 0 ≡ 40 → ⊥)
unfolding write_question
rest_head Rest.end z f = (f.name, f.paren)
rest_head (Rest.ends w) z f = (refl, eqb-false 47 40 refl)
rest_head (Rest.bracket q r) z f = (refl, eqb-false 91 40 refl)
rest_head (Rest.onward Sign.slash s) z f = (refl, eqb-false 47 40 refl)
rest_head (Rest.onward Sign.slashes s) z f = (refl, eqb-false 47 40 refl)

-- STEPS
pub data StepKind : Type 0 where
  dot star name wrong : StepKind

abbrev pub step_class : ℕ → StepKind
step_class b = cond (eqb b 46) StepKind.dot (cond (eqb b 42) StepKind.star (cond (is_letter b) StepKind.name StepKind.wrong))

pub data StepView : StepKind → Steps → Type 0 where
  dot : (r : Rest) → StepView StepKind.dot (Steps.step Move.dot r)
  star : (r : Rest) → StepView StepKind.star (Steps.step Move.star r)
  name : (n : Name) (r : Rest) → StepView StepKind.name (Steps.step (Move.name n) r)

letter_class : (b : ℕ) → is_letter b ≡ true → step_class b ≡ StepKind.name
letter_class b e = rw (ne_eqb b 46 (not_letter b 46 e refl), ne_eqb b 42 (not_letter b 42 e refl), e)

abbrev pub move_kind : Move → StepKind
move_kind Move.dot = StepKind.dot
move_kind Move.star = StepKind.star
move_kind (Move.name n) = StepKind.name

pub move_class : (m : Move) (r : Rest) (z : Bytes) → step_class (get_or (write_steps (Steps.step m r) ++ z) 0 0) ≡ move_kind m
unfolding write_question
move_class Move.dot r z = refl
move_class Move.star r z = refl
move_class (Move.name n) r z = letter_class (get_or ((n.bytes ++ write_rest r) ++ z) 0 0) (rw append_assoc (name_head n.bytes (write_rest r ++ z) n.well_named))

move_view : (m : Move) (r : Rest) → StepView (move_kind m) (Steps.step m r)
move_view Move.dot r = StepView.dot r
move_view Move.star r = StepView.star r
move_view (Move.name n) r = StepView.name n r

pub step_view : (s : Steps) (z : Bytes) → StepView (step_class (get_or (write_steps s ++ z) 0 0)) s
step_view (Steps.step m r) z = subst (λ k. StepView k (Steps.step m r)) (sym (move_class m r z)) (move_view m r)

-- a step's first byte is not b, and no test begins there
steps_not : (s : Steps) (z : Bytes) (b : ℕ) → (b ≡ 46 → ⊥) → (b ≡ 42 → ⊥) → is_letter b ≡ false → get_or (write_steps s ++ z) 0 0 ≡ b → ⊥
unfolding write_question
steps_not (Steps.step Move.dot r) z b x y l e = x (sym e)
steps_not (Steps.step Move.star r) z b x y l e = y (sym e)
steps_not (Steps.step (Move.name n) r) z b x y l e = not_letter _ b (name_head n.bytes (write_rest r ++ z) n.well_named) l (rw append_assoc at e)

steps_no_test : (s : Steps) (z : Bytes) → PathEnds (get_or z 0 0) → (fronts (ascii "label()=") (write_steps s ++ z) ≡ false) × (fronts (ascii "text()=") (write_steps s ++ z) ≡ false)
unfolding write_question
steps_no_test (Steps.step Move.dot r) z f = (refl, refl)
steps_no_test (Steps.step Move.star r) z f = (refl, refl)
steps_no_test (Steps.step (Move.name n) r) z f =
    let h = rest_head r z f in
    rw (append_assoc n.bytes (write_rest r) z) (no_label n.bytes (write_rest r ++ z) n.well_named h.0 h.1, no_text n.bytes (write_rest r ++ z) n.well_named h.0 h.1)

-- PATHS
pub data PathView : Bool → Path → Type 0 where
  deep : (s : Steps) → PathView true (Begin.deep, s)
  plain : (s : Steps) → PathView false (Begin.plain, s)

abbrev pub is_deep : Begin → Bool
is_deep Begin.plain = false
is_deep Begin.deep = true

pub begin_class : (b : Begin) (s : Steps) (z : Bytes) → fronts (ascii "//") ((write_begin b ++ write_steps s) ++ z) ≡ is_deep b
begin_class Begin.deep s z = refl
begin_class Begin.plain s z = no_fronts 47 (47 ∷ []) (write_steps s ++ z) (steps_not s z 47 (eqb-false 47 46 refl) (eqb-false 47 42 refl) refl)

begin_view : (b : Begin) (s : Steps) → PathView (is_deep b) (b, s)
begin_view Begin.deep s = PathView.deep s
begin_view Begin.plain s = PathView.plain s

pub path_view : (p : Path) (z : Bytes) → PathView (fronts (ascii "//") (write_path p ++ z)) p
path_view p z = subst (λ k. PathView k p) (sym (begin_class p.0 p.1 z)) (begin_view p.0 p.1)

-- UNITS
pub data UnitKind : Type 0 where
  deny group label text path : UnitKind

abbrev pub unit_class : ℕ → Bool → Bool → UnitKind
unit_class b isLabel isText = cond (eqb b 33) UnitKind.deny (cond (eqb b 40) UnitKind.group (cond isLabel UnitKind.label (cond isText UnitKind.text UnitKind.path)))

abbrev pub unit_class_of : Bytes → UnitKind
unit_class_of x = unit_class (get_or x 0 0) (fronts (ascii "label()=") x) (fronts (ascii "text()=") x)

pub data UnitView : UnitKind → OneUnit → Type 0 where
  deny : (p : OneUnit) → UnitView UnitKind.deny (OneUnit.deny p)
  group : (q : Question) → UnitView UnitKind.group (OneUnit.group q)
  label : (w : Quoted) → UnitView UnitKind.label (OneUnit.label w)
  text : (w : Quoted) → UnitView UnitKind.text (OneUnit.text w)
  path : (b : Begin) (s : Steps) → UnitView UnitKind.path (OneUnit.path b s)

pub path_class : (b : Begin) (s : Steps) (z : Bytes) → PathEnds (get_or z 0 0) → unit_class_of ((write_begin b ++ write_steps s) ++ z) ≡ UnitKind.path
unfolding write_question
path_class Begin.deep s z f = refl
path_class Begin.plain s z f =
    let h = steps_no_test s z f in
    rw (ne_eqb _ 33 (steps_not s z 33 (eqb-false 33 46 refl) (eqb-false 33 42 refl) refl), ne_eqb _ 40 (steps_not s z 40 (eqb-false 40 46 refl) (eqb-false 40 42 refl) refl), h.0, h.1)

abbrev unit_kind : OneUnit → UnitKind
unit_kind (OneUnit.deny p) = UnitKind.deny
unit_kind (OneUnit.group q) = UnitKind.group
unit_kind (OneUnit.label w) = UnitKind.label
unit_kind (OneUnit.text w) = UnitKind.text
unit_kind (OneUnit.path b s) = UnitKind.path

unit_class_lem : (p : OneUnit) (z : Bytes) → PathEnds (get_or z 0 0) → unit_class_of (write_unit p ++ z) ≡ unit_kind p
unfolding write_question
unit_class_lem (OneUnit.deny p) z f = refl
unit_class_lem (OneUnit.group q) z f = refl
unit_class_lem (OneUnit.label w) z f = refl
unit_class_lem (OneUnit.text w) z f = refl
unit_class_lem (OneUnit.path b s) z f = path_class b s z f

own_view : (p : OneUnit) → UnitView (unit_kind p) p
own_view (OneUnit.deny p) = UnitView.deny p
own_view (OneUnit.group q) = UnitView.group q
own_view (OneUnit.label w) = UnitView.label w
own_view (OneUnit.text w) = UnitView.text w
own_view (OneUnit.path b s) = UnitView.path b s

pub unit_view : (p : OneUnit) (z : Bytes) → PathEnds (get_or z 0 0) → UnitView (unit_class_of (write_unit p ++ z)) p
unit_view p z f = subst (λ k. UnitView k p) (sym (unit_class_lem p z f)) (own_view p)

-- a unit of a form is classed by it
pub class_of_view : (p : OneUnit) (z : Bytes) → PathEnds (get_or z 0 0) → (k : UnitKind) → UnitView k p → unit_class_of (write_unit p ++ z) ≡ k
class_of_view p z f k (UnitView.deny u) = unit_class_lem (OneUnit.deny u) z f
class_of_view p z f k (UnitView.group q) = unit_class_lem (OneUnit.group q) z f
class_of_view p z f k (UnitView.label w) = unit_class_lem (OneUnit.label w) z f
class_of_view p z f k (UnitView.text w) = unit_class_lem (OneUnit.text w) z f
class_of_view p z f k (UnitView.path b s) = unit_class_lem (OneUnit.path b s) z f

-- RESTS
pub data RestKind : Type 0 where
  end ends bracket slash slashes : RestKind

abbrev pub rest_class : ℕ → Bool → Bool → RestKind
rest_class b isText is_deep = cond (eqb b 91) RestKind.bracket (cond (eqb b 47) (cond isText RestKind.ends (cond is_deep RestKind.slashes RestKind.slash)) RestKind.end)

abbrev pub rest_class_of : Bytes → RestKind
rest_class_of x = rest_class (get_or x 0 0) (fronts (ascii "/text()=") x) (fronts (ascii "//") x)

pub data RestView : RestKind → Rest → Type 0 where
  end : RestView RestKind.end Rest.end
  ends : (w : Quoted) → RestView RestKind.ends (Rest.ends w)
  bracket : (q : Question) (r : Rest) → RestView RestKind.bracket (Rest.bracket q r)
  slash : (s : Steps) → RestView RestKind.slash (Rest.onward Sign.slash s)
  slashes : (s : Steps) → RestView RestKind.slashes (Rest.onward Sign.slashes s)

-- what follows is classed by its form
pub view_class : (r : Rest) (z : Bytes) → PathEnds (get_or z 0 0) → (k : RestKind) → RestView k r → rest_class_of (write_rest r ++ z) ≡ k
unfolding write_question
view_class r z f k RestView.end = rw (ne_eqb _ 91 f.bracket, ne_eqb _ 47 f.slash)
view_class r z f k (RestView.ends w) = refl
view_class r z f k (RestView.bracket q u) = refl
view_class r z f k (RestView.slash s) = rw ((steps_no_test s z f).1, no_fronts 47 [] (write_steps s ++ z) (steps_not s z 47 (eqb-false 47 46 refl) (eqb-false 47 42 refl) refl))
view_class r z f k (RestView.slashes s) = refl

pub rest_view : (r : Rest) (z : Bytes) → PathEnds (get_or z 0 0) → RestView (rest_class_of (write_rest r ++ z)) r
rest_view Rest.end z f = subst (λ k. RestView k Rest.end) (sym (view_class Rest.end z f RestKind.end RestView.end)) RestView.end
rest_view (Rest.ends w) z f = subst (λ k. RestView k (Rest.ends w)) (sym (view_class (Rest.ends w) z f RestKind.ends (RestView.ends w))) (RestView.ends w)
rest_view (Rest.bracket q r) z f = subst (λ k. RestView k (Rest.bracket q r)) (sym (view_class (Rest.bracket q r) z f RestKind.bracket (RestView.bracket q r))) (RestView.bracket q r)
rest_view (Rest.onward Sign.slash s) z f = subst (λ k. RestView k (Rest.onward Sign.slash s)) (sym (view_class (Rest.onward Sign.slash s) z f RestKind.slash (RestView.slash s))) (RestView.slash s)
rest_view (Rest.onward Sign.slashes s) z f = subst (λ k. RestView k (Rest.onward Sign.slashes s)) (sym (view_class (Rest.onward Sign.slashes s) z f RestKind.slashes (RestView.slashes s))) (RestView.slashes s)
