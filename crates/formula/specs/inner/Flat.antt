-- WHAT THE INNER FUNCTIONS DO on the flat memory, each by an equation: V of every row and entry from 0 on, C from `size` on, D from
-- 2 × size on, the steps from 4 × size on; a row's references begin at `at`.
use Rattle.std.specs.Prelude.{ℕ, zero, suc, ◌+◌, ◌-◌, ◌*◌, Bool, cond, List, get_or, set, eqb, ltb}
use Rattle.meaning.specs.Bytes.{Bytes, word, label_is, text_is}
use Rattle.meaning.specs.Entry.{Entry}
use Rattle.meaning.specs.Fragment.{Fragment, rows_of}
use Rattle.meaning.specs.Bound.{count}
use Rattle.question.specs.declared.List as L
use Rattle.question.specs.Listed.{Place, entry_of, placed}

-- the memory and the count of steps, 4097 where one did not fit; the same and a reference
pub record St : Type 0 where
  pub mem : List ℕ
  pub steps : ℕ

abbrev pub st : List ℕ → ℕ → St
st m n = record { mem = m; steps = n }

pub record Got : Type 0 where
  pub mem : List ℕ
  pub steps : ℕ
  pub code : ℕ

abbrev pub got : List ℕ → ℕ → ℕ → Got
got m n c = record { mem = m; steps = n; code = c }

-- f at i, i + 1, .., n of them; f at k - 1, .. 0
unfoldable pub across : {A : Type 0} → (ℕ → A → A) → ℕ → ℕ → A → A
across f i zero s = s
across f i (suc n) s = across f (suc i) n (f i s)

unfoldable pub down_from : {A : Type 0} → (ℕ → A → A) → ℕ → A → A
down_from f zero s = s
down_from f (suc k) s = down_from f k (f k s)

-- STEPS
abbrev pub step_at : List ℕ → ℕ → ℕ → ℕ → ℕ → List ℕ
step_at m at op a b = set (set (set m at op) (at + 1) a) (at + 2) b

unfoldable pub add_f : ℕ → ℕ → ℕ → ℕ → List ℕ → ℕ → Got
add_f size op a b m n = cond (ltb n 4096) (got (step_at m (4 * size + 3 * n) op a b) (n + 1) (12288 + n)) (got m 4097 0)

-- by and (0), which false decides, or by or (1), which true decides
unfoldable pub join_f : ℕ → ℕ → ℕ → ℕ → List ℕ → ℕ → Got
join_f size op a b m n =
    cond (eqb a (op * 4096)) (got m n a)
    (cond (eqb a (4096 - op * 4096)) (got m n b)
    (cond (eqb b (op * 4096)) (got m n b)
    (cond (eqb b (4096 - op * 4096)) (got m n a)
    (add_f size op a b m n))))

unfoldable pub not_f : ℕ → ℕ → List ℕ → ℕ → Got
not_f size a m n = cond (eqb a 0) (got m n 4096) (cond (eqb a 4096) (got m n 0) (add_f size 2 a 0 m n))

-- ONE ENTRY
abbrev pub truth : Bool → ℕ
truth b = cond b 4096 0

-- what a label or a text entry says at row k
abbrev pub test_f : Fragment → ℕ → Entry Bytes → ℕ
test_f F k Entry.self = 4096
test_f F k (Entry.label w) = truth (label_is w ((rows_of F).label k))
test_f F k (Entry.text w) = truth (text_is w ((rows_of F).text k))
test_f F k (Entry.child i) = 4096
test_f F k (Entry.at i j) = 4096
test_f F k (Entry.lower i) = 4096
test_f F k (Entry.or i j) = 4096
test_f F k (Entry.and i j) = 4096
test_f F k (Entry.not i) = 4096

abbrev pub value_f : ℕ → ℕ → Entry Place → ℕ → List ℕ → ℕ → Got
value_f size at Entry.self t m n = got m n t
value_f size at (Entry.label w) t m n = got m n t
value_f size at (Entry.text w) t m n = got m n t
value_f size at (Entry.child i) t m n = got m n (get_or m (size + at + i) 0)
value_f size at (Entry.at i j) t m n = join_f size 0 (get_or m (at + i) 0) (get_or m (at + j) 0) m n
value_f size at (Entry.lower i) t m n = got m n (get_or m (2 * size + at + i) 0)
value_f size at (Entry.or i j) t m n = join_f size 1 (get_or m (at + i) 0) (get_or m (at + j) 0) m n
value_f size at (Entry.and i j) t m n = join_f size 0 (get_or m (at + i) 0) (get_or m (at + j) 0) m n
value_f size at (Entry.not i) t m n = not_f size (get_or m (at + i) 0) m n

-- V of entry e becomes v, and D the reference of g
abbrev pub put_vd : ℕ → ℕ → ℕ → ℕ → Got → St
put_vd size at e v g = st (set (set g.mem (at + e) v) (2 * size + at + e) g.code) g.steps

abbrev pub then_d : ℕ → ℕ → ℕ → Got → St
then_d size at e v = put_vd size at e v.code (join_f size 1 v.code (get_or v.mem (2 * size + at + e) 0) v.mem v.steps)

unfoldable pub enter_f : ℕ → ℕ → ℕ → Entry Place → ℕ → St → St
enter_f size at e x t s = then_d size at e (value_f size at x t s.mem s.steps)

-- ONE ROW
unfoldable pub entry_f : L.List → Bytes → Fragment → ℕ → ℕ → ℕ → ℕ → St → St
entry_f l t F size at k e s =
    enter_f size at e (placed (get_or l.kinds e 0) (get_or l.left e 0) (get_or l.right e 0))
    (test_f F k (entry_of (word t) (get_or l.kinds e 0) (get_or l.left e 0) (get_or l.right e 0))) s

abbrev pub visit_f : L.List → Bytes → Fragment → ℕ → ℕ → ℕ → St → St
visit_f l t F size at k s = across (entry_f l t F size at k) 0 l.count s

-- a stand-in's variables
abbrev pub var_f : ℕ → ℕ → ℕ → ℕ → ℕ → List ℕ → List ℕ
var_f size at n first e m = set (set m (at + e) (8192 + (first + e))) (2 * size + at + e) (8192 + (first + (n + e)))

abbrev pub stand_f : ℕ → ℕ → ℕ → ℕ → List ℕ → List ℕ
stand_f size at n first m = across (var_f size at n first) 0 n m

abbrev pub stands : List ℕ → ℕ → Bool
stands rows k = eqb (get_or rows (k * 6 + 1) 0) 1

unfoldable pub row_f : L.List → Bytes → Fragment → ℕ → ℕ → ℕ → St → St
row_f l t F size k place s =
    cond (stands F.rows k) (st (stand_f size (k * l.count) l.count (place * (2 * l.count)) s.mem) s.steps)
    (visit_f l t F size (k * l.count) k s)

-- TO THE PARENT
abbrev pub put_at : ℕ → Got → St
put_at i g = st (set g.mem i g.code) g.steps

unfoldable pub or_into : ℕ → ℕ → ℕ → St → St
or_into size i j s = put_at i (join_f size 1 (get_or s.mem i 0) (get_or s.mem j 0) s.mem s.steps)

unfoldable pub lift_f : ℕ → ℕ → ℕ → ℕ → St → St
lift_f size at up e s = or_into size (2 * size + up + e) (2 * size + at + e) (or_into size (size + up + e) (at + e) s)

abbrev pub push_f : ℕ → ℕ → ℕ → ℕ → St → St
push_f size at up n s = across (lift_f size at up) 0 n s

unfoldable pub deliver_f : L.List → Bytes → Fragment → ℕ → ℕ → ℕ → St → St
deliver_f l t F size k place s =
    cond (eqb k 0) (row_f l t F size k place s)
    (push_f size (k * l.count) (get_or F.rows (k * 6) 0 * l.count) l.count (row_f l t F size k place s))

-- ALL ROWS
abbrev pub sweep_f : L.List → Bytes → Fragment → ℕ → ℕ → St → St
sweep_f l t F size k s = down_from (λ j. deliver_f l t F size j (count (stands F.rows) j)) k s
