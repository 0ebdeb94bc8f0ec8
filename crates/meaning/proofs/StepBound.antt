-- THE STEP BOUND. A row with no stand-in at or below it has constants only and makes no step.
use Prim.Native.Nat.{ℕ, zero, suc, ◌+◌, ◌*◌, ◌≤◌, ◌<◌}
use native.Mathlib.Omega.{arith}
use native.Mathlib.Decide.{ℕ_discrete}
use native.Mathlib.Nat.{add-zero, zero-add, suc-add, add-suc}
use mathlib.Core.Path.{◌≡◌, refl, sym, ap, ◌∙◌, subst}
use mathlib.Core.Bool.{Bool, true, false, not, ◌&&◌, ◌||◌, cond, true≢false}
use mathlib.Core.List.{List, [], ◌∷◌, ◌++◌}
use lib.ListN.{length}
use lib.Dec.{eqb}
use Rattle.meaning.specs.Says.{Says, aye, nay}
use Rattle.meaning.specs.Bytes.{Bytes, label_is, text_is}
use Rattle.meaning.specs.Entry.{Entry, Earlier}
use Rattle.meaning.specs.Formula.{Ref, Step, formula}
use Rattle.meaning.specs.Fragment.{Fragment, Sound, Rows, row_count, rows_of, alone, NoStandIn}
use Rattle.meaning.specs.Tree.{Below, here, down}
use Rattle.meaning.specs.Run.{upd, Vectors, Delivered, Tables, visit, push, row, deliver, sweep, run}
use Rattle.meaning.specs.Reply.{stand_ins, var_v, var_d, laid_down}
use Rattle.meaning.specs.Bound.{Open, count, step_bound}
use Rattle.meaning.specs.Promise.{StepBound}
use Rattle.meaning.proofs.Says.{says_and, says_self, says_same}
use Rattle.meaning.proofs.Says as Lists
use Rattle.meaning.proofs.Tree.{Finite, deep, deep_step, deep_says}
use Rattle.meaning.proofs.Entry.{length_snoc}
use Rattle.std.proofs.lemmas.Bool.{eq-eqb}
use Rattle.meaning.proofs.Numbers.{upd_same, upd_other}
use Rattle.meaning.proofs.Placed.{ups, kids_later}
use Rattle.meaning.proofs.Fragment.{Upright, row_inside, sound_upright, alone_finite, alone_placed}
use Rattle.meaning.proofs.Steps.{Cold, ColdOut, low_const, visit_size, visit_cold, push_size, push_free, push_cold}

-- SUMS over the rows k to k + m - 1
sum : ℕ → ℕ → (ℕ → ℕ) → ℕ
sum zero k g = 0
sum (suc m) k g = sum m (suc k) g + g k

or_none : (a b : Bool) → a || b ≡ false → (a ≡ false) × (b ≡ false)
or_none true b e = absurd (true≢false e)
or_none false b e = (refl, e)

counts : (p q : ℕ → Bool) (m k : ℕ) → sum m k (λ i. 4 * cond (p i) 1 0 + 2 * cond (q i) 1 0) + 4 * count p k + 2 * count q k ≡ 4 * count p (m + k) + 2 * count q (m + k)
unfolding sum count
counts p q zero k = rw (zero-add k) (omega arith)
counts p q (suc m) k = let e : suc m + k ≡ m + suc k = omega arith in rw e (omega (arith, counts p q m (suc k)))

pub count_stand_ins : (R : Rows) (k : ℕ) → count R.stands k ≡ length (stand_ins R k)
unfolding count stand_ins
count_stand_ins R zero = refl
count_stand_ins R (suc k) = go (R.stands k) (count_stand_ins R k)
  where
    go : (b : Bool) → count R.stands k ≡ length (stand_ins R k) → count R.stands k + cond b 1 0 ≡ length (cond b (stand_ins R k ++ (R.goes k ∷ [])) (stand_ins R k))
    go true e = rw length_snoc (omega arith)
    go false e = omega arith

-- A TEST OF OPEN ROWS: real, and with a stand-in below
module _ (R : Rows) (up : Upright R) where
  abbrev open_test : ℕ → Bool
  open_test k = not (R.stands k) && deep (alone_finite R up) R.stands k

  open_told : (k : ℕ) → Says (Open R k) (open_test k)
  open_told k = says_and (real (R.stands k)) (deep_says (alone_finite R up) R.stands (λ s. R.stands s ≡ true) (λ s. says_self (R.stands s)) k)
    where
      real : (b : Bool) → Says (b ≡ false) (not b)
      real true = nay true≢false
      real false = aye refl

-- ALL ROWS
module _ (R : Rows) (up : Upright R) (es : List (Entry Bytes)) (w : Earlier 0 es) (vV vD : ℕ → ℕ → Ref) (is_open : ℕ → Bool) (tells : (k : ℕ) → k ≤ R.last → Says (Open R k) (is_open k)) where
  abbrev fin : Finite (alone R)
  fin = alone_finite R up

  abbrev n : ℕ
  n = length es

  -- a stand-in, or a row with one below
  abbrev warm : ℕ → Bool
  warm = deep fin R.stands

  open_is : (k : ℕ) → k ≤ R.last → is_open k ≡ open_test R up k
  open_is k h = says_same (tells k h) (open_told R up k)

  -- a row that is not warm is real, and has no warm child
  cold_row : (k : ℕ) → warm k ≡ false → (R.stands k ≡ false) × (Lists.some warm (fin.kids k) ≡ false)
  cold_row k e = or_none (R.stands k) (Lists.some warm (fin.kids k)) (sym (deep_step fin R.stands k) ∙ e)

  -- steps for an entry
  weight : ℕ → ℕ
  weight k = 4 * cond (is_open k) 1 0 + 2 * cond (R.stands k) 1 0

  warm_kid : ℕ → ℕ → ℕ → Bool
  warm_kid m k r = ups m k (λ c. eqb (R.parent c) r && warm c)

  -- rows k + 1 to k + m are done
  record Cheap (m k : ℕ) (S : Tables formula) : Type 0 where
    rows : m + k ≡ R.last
    size : length S.st ≤ n * sum m (suc k) weight
    cold : (r : ℕ) → r ≤ k → warm_kid m (suc k) r ≡ false → Cold n (S.c r) × Cold n (S.d r)

  -- what visiting row k costs: 2 for each entry if it is open, nothing if nothing is warm
  record Cost (k : ℕ) (s : List Step) (o : Vectors formula) : Type 0 where
    size : length o.st ≤ length s + n * (2 * cond (is_open k) 1 0)
    cold : warm k ≡ false → (length o.st ≤ length s) × Cold n o.v × Cold n o.d

  row_cost : (m k : ℕ) (S : Tables formula) → Cheap m k S → Cost k S.st (row formula R es vV vD k S)
  unfolding row warm_kid
  row_cost m k S I = go (R.stands k) refl
    where
      inside : k ≤ R.last
      inside = omega (arith, I.rows)

      lab : Bytes → Bool
      lab x = label_is x (R.label k)

      txt : Bytes → Bool
      txt x = text_is x (R.text k)

      out : Vectors formula
      out = visit formula lab txt (S.c k) es 0 S.st (λ e. Ref.low) (S.d k)

      quiet : R.stands k ≡ false → warm k ≡ false → ColdOut n S.st out
      quiet e f =
          let c = I.cold k (omega arith) (kids_later fin R (λ k. k) (alone_placed R up) m k I.rows e warm ∙ (cold_row k f).1) in
          visit_cold lab txt n 0 es (add-zero n) w (S.c k) S.st (λ e. Ref.low) (S.d k) c.0 (record { each = λ e b. absurd (omega arith) }) c.1

      loud : (b : Bool) → R.stands k ≡ false → warm k ≡ b → length out.st ≤ length S.st + n * (2 * cond b 1 0)
      loud true e f = omega (arith, visit_size lab txt (S.c k) es 0 S.st (λ e. Ref.low) (S.d k))
      loud false e f = omega (arith, (quiet e f).size)

      go : (b : Bool) → R.stands k ≡ b → Cost k S.st (cond b (record { st = S.st; v = vV k; d = vD k }) out)
      go true e = record { size = omega arith; cold = λ f. absurd (true≢false (sym e ∙ (cold_row k f).0)) }
      go false e = record {
        size = subst (λ b. length out.st ≤ length S.st + n * (2 * cond b 1 0)) (sym (open_is k inside ∙ ap (λ b. not b && warm k) e)) (loud (warm k) e refl);
        cold = λ f. let q = quiet e f in (q.size, q.v, q.d);
      }

  deliver_cost : (m k : ℕ) (S : Tables formula) → Cheap m (suc k) S → Cheap (suc m) k (deliver formula R es vV vD (suc k) S)
  unfolding deliver sum weight warm_kid
  deliver_cost m k S I = record { rows = omega (arith, I.rows); size = total (R.stands (suc k)) refl (warm (suc k)) refl; cold = cold' }
    where
      par : ℕ
      par = R.parent (suc k)

      inside : suc k ≤ R.last
      inside = omega (arith, I.rows)

      early : par ≤ suc k
      early = omega (arith, up.parents (suc k) (omega arith) inside)

      o : Vectors formula
      o = row formula R es vV vD (suc k) S

      c : Cost (suc k) S.st o
      c = row_cost m (suc k) S I

      p : Delivered formula
      p = push formula o.v o.d n 0 o.st (S.c par) (S.d par)

      all : length p.st ≤ length o.st + 2 * n
      all = push_size o.v o.d n 0 o.st (S.c par) (S.d par)

      free : warm (suc k) ≡ false → length p.st ≤ length S.st
      free e = omega (arith, (c.cold e).0, push_free o.v o.d n n 0 (add-zero n) o.st (S.c par) (S.d par) (c.cold e).1 (c.cold e).2)

      total : (a : Bool) → R.stands (suc k) ≡ a → (b : Bool) → warm (suc k) ≡ b → length p.st ≤ n * (sum m (suc (suc k)) weight + (4 * cond (is_open (suc k)) 1 0 + 2 * cond (R.stands (suc k)) 1 0))
      total true x b y = rw (x, open_is (suc k) inside, x) (omega (arith, I.size, subst (λ z. length o.st ≤ length S.st + n * (2 * cond z 1 0)) (open_is (suc k) inside ∙ ap (λ z. not z && warm (suc k)) x) c.size, all))
      total false x true y = rw (x, open_is (suc k) inside, x, y) (omega (arith, I.size, subst (λ z. length o.st ≤ length S.st + n * (2 * cond z 1 0)) (open_is (suc k) inside ∙ ap (λ z. not z && warm (suc k)) x ∙ y) c.size, all))
      total false x false y = omega (arith, I.size, free y)

      cold' : (r : ℕ) → r ≤ k → warm_kid (suc m) (suc k) r ≡ false → Cold n (upd S.c par p.c r) × Cold n (upd S.d par p.d r)
      cold' r x e = by (ℕ_discrete r par)
        where
          both : (warm_kid m (suc (suc k)) r ≡ false) × ((eqb par r && warm (suc k)) ≡ false)
          both = or_none (warm_kid m (suc (suc k)) r) (eqb par r && warm (suc k)) e

          by : Dec (r ≡ par) → Cold n (upd S.c par p.c r) × Cold n (upd S.d par p.d r)
          by (yes z) =
              let y : warm (suc k) ≡ false = subst (λ b. (b && warm (suc k)) ≡ false) (subst (λ u. eqb par u ≡ true) (sym z) (eq-eqb par par refl)) both.1 in
              let old = I.cold par early (subst (λ u. warm_kid m (suc (suc k)) u ≡ false) z both.0) in
              let new = push_cold o.v o.d n n 0 (add-zero n) o.st (S.c par) (S.d par) (c.cold y).1 (c.cold y).2 old.0 old.1 in
              (subst (Cold n) (sym (ap (upd S.c par p.c) z ∙ upd_same S.c par p.c)) new.0, subst (Cold n) (sym (ap (upd S.d par p.d) z ∙ upd_same S.d par p.d)) new.1)
          by (no z) =
              let old = I.cold r (omega arith) both.0 in
              (subst (Cold n) (sym (upd_other S.c par p.c r z)) old.0, subst (Cold n) (sym (upd_other S.d par p.d r z)) old.1)

  sweep_cost : (k m : ℕ) (S : Tables formula) → Cheap m k S → Cheap (k + m) 0 (sweep formula R es vV vD k S)
  unfolding sweep
  sweep_cost zero m S I = rw zero-add I
  sweep_cost (suc k) m S I = rw (suc-add, ← add-suc) (sweep_cost k (suc m) (deliver formula R es vV vD (suc k) S) (deliver_cost m k S I))

  pub run_steps : length (run formula R es vV vD []).st ≤ step_bound n R is_open
  unfolding run sum weight count
  run_steps = subst (λ z. length (run formula R es vV vD []).st ≤ n * z) bound (omega (arith, I.size, c.size))
    where
      S₀ : Tables formula
      S₀ = record { st = []; c = λ r e. Ref.low; d = λ r e. Ref.low }

      I₀ : Cheap 0 R.last S₀
      I₀ = record { rows = zero-add R.last; size = omega arith; cold = λ r x y. (record { each = λ e b. low_const }, record { each = λ e b. low_const }) }

      S : Tables formula
      S = sweep formula R es vV vD R.last S₀

      I : Cheap (R.last + 0) 0 S
      I = sweep_cost R.last 0 S₀ I₀

      c : Cost 0 S.st (row formula R es vV vD 0 S)
      c = row_cost (R.last + 0) 0 S I

      size : R.last + 0 + 1 ≡ suc R.last
      size = omega arith

      -- row 0 and the rows after it
      bound : sum (R.last + 0) 1 weight + weight 0 ≡ 4 * count is_open (suc R.last) + 2 * length (stand_ins R (suc R.last))
      bound = omega (arith, subst (λ z. sum (R.last + 0) 1 weight + 4 * count is_open 1 + 2 * count R.stands 1 ≡ 4 * count is_open z + 2 * count R.stands z) size (counts is_open R.stands (R.last + 0) 1), count_stand_ins R (suc R.last))

-- whatever test tells the open rows
pub bounded : (number part : ℕ) (F : Fragment) → Sound part F → (es : List (Entry Bytes)) → Earlier 0 es → (is_open : ℕ → Bool)
    → ((k : ℕ) → k < row_count F → Says (Open (rows_of F) k) (is_open k)) → length (laid_down (rows_of F) es number part).steps ≤ step_bound (length es) (rows_of F) is_open
unfolding laid_down
bounded number part F s es w is_open tells = run_steps (rows_of F) (sound_upright part F s) es w (var_v (rows_of F) es) (var_d (rows_of F) es) is_open (λ k h. tells k (row_inside part F s k h))

-- and there is one
pub step_bound_lem : StepBound
step_bound_lem number part F s es w =
    let up = sound_upright part F s in
    (open_test (rows_of F) up, λ k h. open_told (rows_of F) up k, bounded number part F s es w (open_test (rows_of F) up) (λ k h. open_told (rows_of F) up k))

-- WITHOUT STAND-INS there is no step
module _ (part : ℕ) (F : Fragment) (s : Sound part F) (none : NoStandIn F) where
  no_ins : (k : ℕ) → k ≤ row_count F → stand_ins (rows_of F) k ≡ []
  unfolding stand_ins
  no_ins zero h = refl
  no_ins (suc k) h = ap (λ b. cond b (stand_ins (rows_of F) k ++ ((rows_of F).goes k ∷ [])) (stand_ins (rows_of F) k)) (none k h) ∙ no_ins k (omega arith)

  inside : {k v : ℕ} → k ≤ (rows_of F).last → Below (alone (rows_of F)) k v → v ≤ (rows_of F).last
  inside h here = h
  inside h (down c b) = inside c.inside b

  no_open : (k : ℕ) → k < row_count F → Says (Open (rows_of F) k) false
  no_open k h = nay (λ o. true≢false (sym o.1.2 ∙ none o.1.0 (row_inside part F s o.1.0 (inside (omega arith) o.1.1))))

  no_count : (k : ℕ) → count (λ i. false) k ≡ 0
  unfolding count
  no_count zero = refl
  no_count (suc k) = rw (no_count k)

  pub no_steps : (es : List (Entry Bytes)) → Earlier 0 es → (number : ℕ) → length (laid_down (rows_of F) es number part).steps ≡ 0
  no_steps es w number = omega (arith, rw (no_count, no_ins (suc (rows_of F).last) (omega (arith, s.some_row))) at (bounded number part F s es w (λ i. false) no_open))
