-- The single table, by computing.
use Prim.Native.Nat.{ℕ, zero, suc, ◌*◌, ◌≤◌, ◌<◌}
use native.Mathlib.Omega.{arith}
use mathlib.Core.Path.{◌≡◌, refl, sym, ap, ◌∙◌, subst}
use mathlib.Core.Bool.{Bool, true, false}
use mathlib.Core.Option.{some}
use lib.ListN.{length}
use lib.Dec.{T, lit<, lit≤}
use Rattle.meaning.specs.Says.{Says}
use Rattle.meaning.specs.Bytes.{Bytes, ascii, same_bytes, label_is, text_is}
use Rattle.meaning.specs.Holds.{Holds}
use Rattle.meaning.specs.Question.{Question, Conj, OneUnit, Steps, Rest, Begin, Sign, Move, Quoted, is_name, is_quoted, all}
use Rattle.meaning.specs.Question.{write_question}
use Rattle.meaning.specs.Term.{normal}
use Rattle.meaning.specs.Entry.{entries, root, flat}
use Rattle.meaning.specs.Formula.{step_values}
use Rattle.meaning.specs.Bound.{count, step_bound}
use Rattle.meaning.specs.Run.{visit, push, row, deliver, sweep, run}
use Rattle.meaning.specs.Reply.{stand_ins, tabulated, laid_down}
use Rattle.meaning.specs.Register.{parts, rows_in, joined}
use Rattle.meaning.specs.Solve.{assign, solve, all_heard, outcome, Outcome, said, waiting}
use Rattle.meaning.proofs.Lawful.{desk_answer}
use Rattle.question.specs.Listed.{Keeps, listed}
use Rattle.reader.specs.Nesting.{nesting}
use Rattle.reader.specs.Packed.{placed_entries, packed}
use Rattle.reader.specs.Read.{Written, ReadRefusal, Read}
use Rattle.reader.proofs.Outcome.{read_taken, taken_list, read_keeps, read_listed}
use Rattle.question.proofs.Listed.{listed_length, keeps_earlier}
use Rattle.meaning.proofs.StepBound.{bounded, no_steps}
use Rattle.register.proofs.Laid.{reply_of, Asked, all_replied}
use Rattle.register.specs.Trial.{fragment, register, round, Case, Table}
use Rattle.register.proofs.Tried.{cut, is_open, tells, one_box, none_1, none_2}

-- ---- condition 3 applies: fragment 0 keeps the bound, the others make no step
module _ (text : Bytes) (taken : ReadRefusal text 0) (w : Written text) where
  reads : Read text (record { refusal = 0; list = packed (placed_entries w.tree) })
  reads = taken_list taken w

  keeps : Keeps (round text w).list text
  keeps = read_keeps text (round text w).list reads

  few : (f : ℕ) → f < 3 → length (reply_of (round text w) f).steps ≤ 4096
  unfolding count stand_ins
  few zero h =
      let es = listed (round text w).list text in
      let b : length (reply_of (round text w) 0).steps ≤ length es * 12 = bounded 1 0 (fragment 0) (cut.sound 0 (lit< tt)) es (keeps_earlier (round text w).list text keeps) is_open tells in
      omega (arith, b, listed_length (round text w).list text, keeps.most)
  few (suc zero) h = omega (arith, no_steps 1 (fragment 1) (cut.sound 1 (lit< tt)) none_1 (listed (round text w).list text) (keeps_earlier (round text w).list text keeps) 1)
  few (suc (suc zero)) h = omega (arith, no_steps 2 (fragment 2) (cut.sound 2 (lit< tt)) none_2 (listed (round text w).list text) (keeps_earlier (round text w).list text keeps) 1)
  few (suc (suc (suc f))) h = absurd (omega arith)

  asked : Asked (round text w)
  asked = record { cut = cut; keeps = keeps; some_number = lit< tt; number_fits = lit< tt; few_steps = few }

-- ---- a case, from its tree and the outcome computed
abbrev heard_all : Question → Outcome
heard_all q = outcome (length (entries q)) (parts register) (λ f. some (laid_down (rows_in register f) (entries q) 1 f))

abbrev is_yes : Outcome → Bool
is_yes waiting = false
is_yes (said b) = b

case : {text : Bytes} {answer : Bool} (q : Question) → write_question q ≡ text → 1 ≤ length text → length text ≤ 255 → nesting q ≤ 12 → length (placed_entries q) ≤ 32 → heard_all q ≡ said answer → Case text answer
case {text} {answer} q w a b c d e = record { taken = taken; written = written; replied = all_replied (round text written) (asked text taken written); right = subst (Says (Holds (joined register) q (0, 0))) (ap is_yes (sym (desk_answer register cut q 1).1 ∙ e)) (desk_answer register cut q 1).2 }
  where
    written : Written text
    written = record { tree = q; writes = w }

    taken : ReadRefusal text 0
    taken = read_taken written (a, b) c d

-- ---- the trees
abbrev name : (w : Bytes) → T (is_name w) → Move
name w h = Move.name (record { bytes = w; well_named = h })

abbrev quoted : (w : Bytes) → T (is_quoted w) → Quoted
quoted w h = record { bytes = w; well_quoted = h }

lift : Move
unfolding is_name all
lift = name (ascii "lift") tt

brake : Move
unfolding is_name all
brake = name (ascii "brake") tt

firm : Move
unfolding is_name all
firm = name (ascii "firm") tt

site : Move
unfolding is_name all
site = name (ascii "site") tt

mark : Move
unfolding is_name all
mark = name (ascii "mark") tt

b17 : Quoted
unfolding is_quoted all
b17 = quoted (ascii "B17") tt

b09 : Quoted
unfolding is_quoted all
b09 = quoted (ascii "B09") tt

firm_word : Quoted
unfolding is_quoted all
firm_word = quoted (ascii "firm") tt

nothing : Quoted
unfolding is_quoted all
nothing = quoted (ascii "") tt

abbrev one : OneUnit → Question
one p = Question.conj (Conj.unit p)

abbrev both : OneUnit → OneUnit → Question
both p q = Question.conj (Conj.both (Conj.unit p) q)

abbrev step : Move → Rest → Steps
step m r = Steps.step m r

abbrev path : Steps → OneUnit
path s = OneUnit.path Begin.plain s

abbrev deep : Steps → OneUnit
deep s = OneUnit.path Begin.deep s

-- a step after `/`
abbrev then : Move → Rest → Rest
then m r = Rest.onward Sign.slash (Steps.step m r)

-- ---- the cases
case_a : Case (ascii "//lift[brake/text()=\"B17\"]") true
unfolding write_question normal root flat nesting same_bytes label_is text_is step_values visit push row deliver sweep run stand_ins tabulated laid_down assign solve all_heard outcome lift brake b17
case_a = case (one (deep (step lift (Rest.bracket (one (path (step brake (Rest.ends b17)))) Rest.end)))) refl (lit≤ tt) (lit≤ tt) (lit≤ tt) (lit≤ tt) refl

case_b : Case (ascii "//lift[brake/text()=\"B09\"&!mark]") false
unfolding write_question normal root flat nesting same_bytes label_is text_is step_values visit push row deliver sweep run stand_ins tabulated laid_down assign solve all_heard outcome lift brake mark b09
case_b = case (one (deep (step lift (Rest.bracket (both (path (step brake (Rest.ends b09))) (OneUnit.deny (path (step mark Rest.end)))) Rest.end)))) refl (lit≤ tt) (lit≤ tt) (lit≤ tt) (lit≤ tt) refl

case_c : Case (ascii "//firm") false
unfolding write_question normal root flat nesting same_bytes label_is text_is step_values visit push row deliver sweep run stand_ins tabulated laid_down assign solve all_heard outcome firm
case_c = case (one (deep (step firm Rest.end))) refl (lit≤ tt) (lit≤ tt) (lit≤ tt) (lit≤ tt) refl

case_d : Case (ascii "//.[label()=\"firm\"]") true
unfolding write_question normal root flat nesting same_bytes label_is text_is step_values visit push row deliver sweep run stand_ins tabulated laid_down assign solve all_heard outcome firm_word
case_d = case (one (deep (step Move.dot (Rest.bracket (one (OneUnit.label firm_word)) Rest.end)))) refl (lit≤ tt) (lit≤ tt) (lit≤ tt) (lit≤ tt) refl

case_e : Case (ascii "lift") false
unfolding write_question normal root flat nesting same_bytes label_is text_is step_values visit push row deliver sweep run stand_ins tabulated laid_down assign solve all_heard outcome lift
case_e = case (one (path (step lift Rest.end))) refl (lit≤ tt) (lit≤ tt) (lit≤ tt) (lit≤ tt) refl

case_f : Case (ascii "site/lift") true
unfolding write_question normal root flat nesting same_bytes label_is text_is step_values visit push row deliver sweep run stand_ins tabulated laid_down assign solve all_heard outcome site lift
case_f = case (one (path (step site (then lift Rest.end)))) refl (lit≤ tt) (lit≤ tt) (lit≤ tt) (lit≤ tt) refl

case_g : Case (ascii "text()=\"\"") true
unfolding write_question normal root flat nesting same_bytes label_is text_is step_values visit push row deliver sweep run stand_ins tabulated laid_down assign solve all_heard outcome nothing
case_g = case (one (OneUnit.text nothing)) refl (lit≤ tt) (lit≤ tt) (lit≤ tt) (lit≤ tt) refl

case_h : Case (ascii "!.") false
unfolding write_question normal root flat nesting same_bytes label_is text_is step_values visit push row deliver sweep run stand_ins tabulated laid_down assign solve all_heard outcome
case_h = case (one (OneUnit.deny (path (step Move.dot Rest.end)))) refl (lit≤ tt) (lit≤ tt) (lit≤ tt) (lit≤ tt) refl

case_i : Case (ascii "*/*/*") true
unfolding write_question normal root flat nesting same_bytes label_is text_is step_values visit push row deliver sweep run stand_ins tabulated laid_down assign solve all_heard outcome
case_i = case (one (path (step Move.star (then Move.star (then Move.star Rest.end))))) refl (lit≤ tt) (lit≤ tt) (lit≤ tt) (lit≤ tt) refl

case_j : Case (ascii "*/*/*/*") false
unfolding write_question normal root flat nesting same_bytes label_is text_is step_values visit push row deliver sweep run stand_ins tabulated laid_down assign solve all_heard outcome
case_j = case (one (path (step Move.star (then Move.star (then Move.star (then Move.star Rest.end)))))) refl (lit≤ tt) (lit≤ tt) (lit≤ tt) (lit≤ tt) refl

case_k : Case (ascii "site[lift/mark]&site[lift/brake/text()=\"B17\"]") true
unfolding write_question normal root flat nesting same_bytes label_is text_is step_values visit push row deliver sweep run stand_ins tabulated laid_down assign solve all_heard outcome site lift mark brake b17
case_k = case (both (path (step site (Rest.bracket (one (path (step lift (then mark Rest.end)))) Rest.end))) (path (step site (Rest.bracket (one (path (step lift (then brake (Rest.ends b17))))) Rest.end)))) refl (lit≤ tt) (lit≤ tt) (lit≤ tt) (lit≤ tt) refl

case_l : Case (ascii "site[lift/mark&lift/brake/text()=\"B17\"]") false
unfolding write_question normal root flat nesting same_bytes label_is text_is step_values visit push row deliver sweep run stand_ins tabulated laid_down assign solve all_heard outcome site lift mark brake b17
case_l = case (one (path (step site (Rest.bracket (both (path (step lift (then mark Rest.end))) (path (step lift (then brake (Rest.ends b17))))) Rest.end)))) refl (lit≤ tt) (lit≤ tt) (lit≤ tt) (lit≤ tt) refl

-- ---- a's entries, and m
a_tree : case_a.written.tree ≡ one (deep (step lift (Rest.bracket (one (path (step brake (Rest.ends b17)))) Rest.end)))
unfolding case_a case
a_tree = refl

a_entries : length (placed_entries case_a.written.tree) ≡ 10
unfolding write_question normal root flat lift brake b17
a_entries = rw a_tree refl

steps_of : Question → ℕ
steps_of q = length (laid_down (rows_in register 0) (entries q) 1 0).steps

a_steps : steps_of (one (deep (step lift (Rest.bracket (one (path (step brake (Rest.ends b17)))) Rest.end)))) ≡ 21
unfolding steps_of write_question normal root flat same_bytes label_is text_is visit push row deliver sweep run stand_ins tabulated laid_down lift brake b17
a_steps = refl

m_steps : length (reply_of (round _ case_a.written) 0).steps ≡ 21
unfolding steps_of
m_steps = ap (λ es. length (laid_down (rows_in register 0) es 1 0).steps) (read_listed _ _ (reads _ case_a.taken case_a.written) case_a.written) ∙ ap steps_of a_tree ∙ a_steps

m_bound : step_bound 10 (rows_in register 0) is_open ≡ 120
unfolding count stand_ins
m_bound = refl

pub table : Table
table = record {
  a = case_a;
  b = case_b;
  c = case_c;
  d = case_d;
  e = case_e;
  f = case_f;
  g = case_g;
  h = case_h;
  i = case_i;
  j = case_j;
  k = case_k;
  l = case_l;
  a_entries = a_entries;
  m_steps = m_steps;
  is_open = is_open;
  tells = tells;
  m_bound = m_bound;
  cut = cut;
  one_box = one_box;
}
