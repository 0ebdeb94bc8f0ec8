-- What the functions of the reader promise each other: a form is read soundly (what is read is a tree of the form) and completely
-- (a tree that stands there, followed by what may follow it, is read).
use Rattle.std.specs.Prelude.{ℕ, ◌+◌, ◌-◌, ◌*◌, ◌%◌, ◌≤◌, max, ◌≡◌}
use Rattle.std.specs.Prelude.{Bool, false, cond, List, [], ◌∷◌, ◌++◌, length, get_or, drop, set, ltb, eqb, Option, MatchOption}
use Rattle.std.specs.List.{starts_with}
use Rattle.meaning.specs.Bytes.{Bytes}
use Rattle.meaning.specs.Question.{Question, Conj, OneUnit, Begin, Steps, Rest, Quoted, is_name_byte, is_quotable, write_quoted}
use Rattle.meaning.specs.Question.{write_question, write_conj, write_unit, write_begin, write_steps, write_rest}
use Rattle.meaning.specs.Term.{Term, beginning, normal, normal_conj, normal_unit, normal_steps, normal_rest}
use Rattle.meaning.specs.Entry.{Entry, root, flat}
use Rattle.question.specs.declared.List as L
use Rattle.reader.specs.declared.state.State.{State}
use Rattle.question.specs.declared.kind.Kind.{Kind}
use Rattle.reader.specs.declared.grammar.Chain.{Chain}
use Rattle.reader.specs.declared.word.Word.{Word}
use Rattle.question.specs.Listed.{Place}
use Rattle.reader.specs.Packed.{word_place, coded}

-- THE STATE'S STEPS. An entry more: counted, and kept where there is room
abbrev pub stored : List ℕ → ℕ → ℕ → List ℕ
stored xs n v = cond (ltb n 32) (set xs n v) xs

abbrev pub pushed : L.List → ℕ → ℕ → ℕ → L.List
pushed l kind a b = record {
  count = l.count + 1;
  kinds = stored l.kinds l.count kind;
  left = stored l.left l.count (a % 256);
  right = stored l.right l.count (b % 256);
}

abbrev pub added : State → ℕ → ℕ → ℕ → State
added s kind a b = record { text = s.text; at = s.at; depth = s.depth; deepest = s.deepest; list = pushed s.list kind a b }

abbrev pub moved : State → ℕ → State
moved s at = record { text = s.text; at = at; depth = s.depth; deepest = s.deepest; list = s.list }

-- past an opening bracket, and past a closing one
abbrev pub deepened : State → ℕ → State
deepened s at = record { text = s.text; at = at; depth = s.depth + 1; deepest = max s.deepest (s.depth + 1); list = s.list }

abbrev pub closed : State → State
closed s = record { text = s.text; at = s.at + 1; depth = s.depth - 1; deepest = s.deepest; list = s.list }

abbrev pub byte_at : Bytes → ℕ → ℕ
byte_at t at = get_or t at 0

-- whether the bytes b stand at the front of x
abbrev pub fronts : Bytes → Bytes → Bool
fronts b x = starts_with eqb x b

-- the bytes of a name, and of a quoted word
abbrev pub passes : Word → ℕ → Bool
passes Word.Name b = is_name_byte b
passes Word.Quoted b = is_quotable b

-- an entry's kind and operands
abbrev pub kind_code : Entry Place → ℕ
kind_code e = (coded e).0

abbrev pub left_of : Entry Place → ℕ
left_of e = (coded e).1

abbrev pub right_of : Entry Place → ℕ
right_of e = (coded e).2

-- entries put behind a list
unfoldable pub kept : List (Entry Place) → L.List → L.List
kept [] l = l
kept (e ∷ es) l = kept es (pushed l (kind_code e) (left_of e) (right_of e))

unfoldable pub emitted : Term Place → L.List → L.List
emitted a l = kept (flat l.count a) l

-- THE GREATEST NUMBER OPEN, where o are open around the tree and m is the greatest so far
unfoldable mutual
  pub reach : ℕ → Question → ℕ → ℕ
  reach o (Question.conj c) m = reach_conj o c m
  reach o (Question.either q c) m = reach_conj o c (reach o q m)

  pub reach_conj : ℕ → Conj → ℕ → ℕ
  reach_conj o (Conj.unit p) m = reach_unit o p m
  reach_conj o (Conj.both c p) m = reach_unit o p (reach_conj o c m)

  pub reach_unit : ℕ → OneUnit → ℕ → ℕ
  reach_unit o (OneUnit.deny p) m = reach_unit o p m
  reach_unit o (OneUnit.group q) m = reach (o + 1) q (max m (o + 1))
  reach_unit o (OneUnit.label w) m = m
  reach_unit o (OneUnit.text w) m = m
  reach_unit o (OneUnit.path b s) m = reach_steps o s m

  pub reach_steps : ℕ → Steps → ℕ → ℕ
  reach_steps o (Steps.step x r) m = reach_rest o r m

  pub reach_rest : ℕ → Rest → ℕ → ℕ
  reach_rest o Rest.end m = m
  reach_rest o (Rest.ends w) m = m
  reach_rest o (Rest.bracket q r) m = reach_rest o r (reach (o + 1) q (max m (o + 1)))
  reach_rest o (Rest.onward g s) m = reach_steps o s m

-- a path has no type of its own: it is how it begins, and its steps
abbrev pub Path : Type 0
Path = Begin × Steps

abbrev pub write_path : Path → Bytes
write_path p = write_begin p.0 ++ write_steps p.1

abbrev pub normal_path : ℕ → Path → Term Place
normal_path a p = beginning word_place p.0 (normal_steps word_place (a + length (write_begin p.0)) p.1)

-- THE FORMS, with their trees, texts, terms and numbers open
pub data Form : Type 0 where
  question conj unit path steps rest : Form

abbrev pub TreeOf : Form → Type 0
TreeOf Form.question = Question
TreeOf Form.conj = Conj
TreeOf Form.unit = OneUnit
TreeOf Form.path = Path
TreeOf Form.steps = Steps
TreeOf Form.rest = Rest

abbrev pub text_of : (g : Form) → TreeOf g → Bytes
text_of Form.question c = write_question c
text_of Form.conj c = write_conj c
text_of Form.unit c = write_unit c
text_of Form.path c = write_path c
text_of Form.steps c = write_steps c
text_of Form.rest c = write_rest c

abbrev pub term_of : (g : Form) → ℕ → TreeOf g → Term Place
term_of Form.question a c = normal word_place a c
term_of Form.conj a c = normal_conj word_place a c
term_of Form.unit a c = normal_unit word_place a c
term_of Form.path a c = normal_path a c
term_of Form.steps a c = normal_steps word_place a c
term_of Form.rest a c = normal_rest word_place a c

abbrev pub reach_of : (g : Form) → ℕ → TreeOf g → ℕ → ℕ
reach_of Form.question o c m = reach o c m
reach_of Form.conj o c m = reach_conj o c m
reach_of Form.unit o c m = reach_unit o c m
reach_of Form.path o c m = reach_steps o c.1 m
reach_of Form.steps o c m = reach_steps o c m
reach_of Form.rest o c m = reach_rest o c m

-- a byte that goes on with no path; with no path and no `&`; with none of these and no `|`
pub record PathEnds (b : ℕ) : Type 0 where
  pub bracket : b ≡ 91 → ⊥
  pub slash : b ≡ 47 → ⊥
  pub paren : b ≡ 40 → ⊥
  pub name : is_name_byte b ≡ false

pub record ConjEnds (b : ℕ) : Type 0 where
  pub path : PathEnds b
  pub sign : b ≡ 38 → ⊥

pub record QuestionEnds (b : ℕ) : Type 0 where
  pub conj : ConjEnds b
  pub sign : b ≡ 124 → ⊥

abbrev pub Follows : Form → ℕ → Type 0
Follows Form.question b = QuestionEnds b
Follows Form.conj b = ConjEnds b
Follows Form.unit b = PathEnds b
Follows Form.path b = PathEnds b
Follows Form.steps b = PathEnds b
Follows Form.rest b = PathEnds b

-- from s to r the text is w, and the entries of the term a were added, the last of them number n
pub record Made (t : Bytes) (s r : State) (n : ℕ) (w : Bytes) (a : Term Place) (k : ℕ → ℕ) : Type 0 where
  pub text : drop s.at t ≡ w ++ drop r.at t
  pub place : r.at ≡ s.at + length w
  pub list : r.list ≡ emitted a s.list
  pub top : n ≡ root s.list.count a
  pub deepest : r.deepest ≡ k s.deepest

abbrev pub MadeOf : (g : Form) → Bytes → State → State → ℕ → TreeOf g → Type 0
MadeOf g t s r n c = Made t s r n (text_of g c) (term_of g s.at c) (reach_of g s.depth c)

-- a tree stands at a place, followed by what may follow it
pub record StandsAt (g : Form) (t : Bytes) (at : ℕ) (c : TreeOf g) : Type 0 where
  pub after : Bytes
  pub text : drop at t ≡ text_of g c ++ after
  pub follows : Follows g (get_or after 0 0)

-- a tail adds one entry though it may take no byte
abbrev pub slack : Form → ℕ
slack Form.question = 0
slack Form.conj = 0
slack Form.unit = 0
slack Form.path = 0
slack Form.steps = 0
slack Form.rest = 1

pub record ReadyIn (t : Bytes) (s : State) : Type 0 where
  pub small : length t ≤ 255
  pub inside : s.at ≤ length t
  pub few : s.list.count ≤ 4 * s.at
  pub level : s.depth ≤ s.at

abbrev pub Ready : State → Type 0
Ready s = ReadyIn s.text.now s

-- where reading goes: on, inside the text, as deep as before, with few entries
pub record Goes (t : Bytes) (s r : State) (extra : ℕ) : Type 0 where
  pub onward : s.at ≤ r.at
  pub inside : r.at ≤ length t
  pub few : r.list.count + 4 * s.at ≤ s.list.count + 4 * r.at + extra
  pub level : r.depth ≡ s.depth
  pub same : r.text ≡ s.text

-- THE FORM g IS READ from s to r, if it stands there; n is the number of the entry that was added last
-- no tree of the form g stands at a place
pub record Nowhere (g : Form) (t : Bytes) (at : ℕ) : Type 0 where
  pub none : (c : TreeOf g) → StandsAt g t at c → ⊥

-- one was read from s to r, n the number of the entry that was added last; and one that stands there is what was read
pub record Found (g : Form) (t : Bytes) (s r : State) (n : ℕ) : Type 0 where
  pub goes : Goes t s r (slack g)
  pub sound : (c : TreeOf g) × MadeOf g t s r n c
  pub complete : (c : TreeOf g) → StandsAt g t s.at c → MadeOf g t s r n c

-- THE FORM g IS READ, if it stands there
abbrev pub ReadsIn : (g : Form) → Bytes → State → State → Option ℕ → Type 0
ReadsIn g t s r o = MatchOption o (Nowhere g t s.at) (λ n. Found g t s r n)

abbrev pub Reads : Form → State → State → Option ℕ → Type 0
Reads g s r o = ReadsIn g s.text.now s r o

-- CHAINS: `|` joins conjunctions to a question, `&` units to a conjunction
abbrev pub whole_chain : Chain → Form
whole_chain Chain.Ors = Form.question
whole_chain Chain.Ands = Form.conj

abbrev pub chain_part : Chain → Form
chain_part Chain.Ors = Form.conj
chain_part Chain.Ands = Form.unit

abbrev pub sign : Chain → ℕ
sign Chain.Ors = 124
sign Chain.Ands = 38

abbrev pub kind_of : Chain → Kind
kind_of Chain.Ors = Kind.Or
kind_of Chain.Ands = Kind.And

-- past a quoted word, and its entry added
abbrev pub after_quoted : State → ℕ → Quoted → State
after_quoted s kind w = added (moved s (s.at + 1 + length w.bytes + 1)) kind (s.at + 1) (length w.bytes)

-- a quoted word was read, n the number of its entry
pub record Worded (t : Bytes) (s r : State) (kind n : ℕ) : Type 0 where
  pub goes : Goes t s r 0
  pub word : Quoted
  pub text : drop s.at t ≡ write_quoted word ++ drop r.at t
  pub is : r ≡ after_quoted s kind word
  pub top : n ≡ s.list.count
  pub alone : (w : Quoted) (z : Bytes) → drop s.at t ≡ write_quoted w ++ z → r ≡ after_quoted s kind w

-- A QUOTED WORD IS READ, if one stands there
abbrev pub QuotesIn : Bytes → State → State → ℕ → Option ℕ → Type 0
QuotesIn t s r kind o = MatchOption o ((w : Quoted) (z : Bytes) → drop s.at t ≡ write_quoted w ++ z → ⊥) (λ n. Worded t s r kind n)

abbrev pub Quotes : State → State → ℕ → Option ℕ → Type 0
Quotes s r kind o = QuotesIn s.text.now s r kind o
