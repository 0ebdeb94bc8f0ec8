-- What solving all fragments has shown, on plain values: flat lists that agree with the values solved give the same answer.
use Prim.Native.Nat.{ℕ, zero, suc, ◌+◌, ◌-◌, ◌*◌, ◌≤◌, ◌<◌}
use native.Mathlib.Omega.{arith}
use native.Mathlib.Decide.{dec_lt, ℕ_discrete}
use mathlib.Core.Path.{◌≡◌, refl, sym, ap, ◌∙◌, subst, fun_ext}
use mathlib.Core.Bool.{Bool, false}
use mathlib.Core.Logic.{◌⊎◌, inl, inr}
use mathlib.Core.Option.{some}
use mathlib.Core.List.{List, [], ◌∷◌}
use lib.ListN.{get_or, take, drop, replicate}
use Rattle.std.proofs.lemmas.Bool.{lt-ltb, le-ltb}
use Rattle.meaning.specs.Bytes.{Bytes}
use Rattle.meaning.specs.Algebra.{bool}
use Rattle.meaning.specs.Formula.{Ref, ref_value, step_values, value}
use Rattle.meaning.specs.Reply.{Reply}
use Rattle.meaning.specs.Run.{upd}
use Rattle.meaning.specs.Solve.{Values, assign, here_of, lower_of, solved, solve, no_values}
use Rattle.meaning.proofs.Numbers.{upd_same, upd_other}
use Rattle.reply.specs.inner.Decode.{ref_at, entries_of, ins_of, steps_of, decoded}
use Rattle.reply.specs.inner.Checked.{Checked, vars_of}
use Rattle.reply.proofs.Round.{is_the, checked_of}
use Rattle.whole.specs.Whole.{Heard, start_of, size_of, part_of, Opened}
use Rattle.solving.specs.inner.Values.{truth_in, values_in, variable_of, Put, Agree, kept, answer_of}
use Rattle.whole.specs.declared.Question.{Question}
use Rattle.whole.proofs.Pieces.{part_is, own_reply}
use Rattle.reply.proofs.Judge.{unmarked}
use Rattle.solving.proofs.Replies.{small, here_is, lower_is}

-- ---- values that agree give the same answers
module _ (n : ℕ) (S T : Values Bool) (h : Agree n S T) where
  assign_same : (l : List ℕ) (x : ℕ) → assign bool n l S x ≡ assign bool n l T x
  unfolding assign
  assign_same [] x = refl
  assign_same (g ∷ l) x = go (assign_same l (x - 2 * n)) (dec_lt x n) (dec_lt x (2 * n))
    where
      go : assign bool n l S (x - 2 * n) ≡ assign bool n l T (x - 2 * n) → Dec (x < n) → Dec (x < 2 * n) → assign bool n (g ∷ l) S x ≡ assign bool n (g ∷ l) T x
      go ih (yes a) b = rw (lt-ltb x n a) (h.v_same g x a)
      go ih (no a) (yes b) = rw (le-ltb x n (omega arith), lt-ltb x (2 * n) b) (h.d_same g (x - n) (omega arith))
      go ih (no a) (no b) = rw (le-ltb x n (omega arith), le-ltb x (2 * n) (omega arith)) ih

  assigns_same : (l : List ℕ) → assign bool n l S ≡ assign bool n l T
  assigns_same l = fun_ext (assign_same l)

  here_same : (r : Reply) (e : ℕ) → here_of bool n r S e ≡ here_of bool n r T e
  here_same r e = ap (λ (α : ℕ → Bool). value bool α r.steps (get_or r.v e Ref.low)) (assigns_same r.ins)

  lower_same : (r : Reply) (e : ℕ) → lower_of bool n r S e ≡ lower_of bool n r T e
  lower_same r e = ap (λ (α : ℕ → Bool). value bool α r.steps (get_or r.d e Ref.low)) (assigns_same r.ins)

upd_agree : (f g e : ℕ) (A B : ℕ → ℕ → Bool) (a b : ℕ → Bool) → A g e ≡ B g e → a e ≡ b e → upd A f a g e ≡ upd B f b g e
upd_agree f g e A B a b p q = go (ℕ_discrete g f)
  where
    go : Dec (g ≡ f) → upd A f a g e ≡ upd B f b g e
    go (yes z) = rw z (ap (λ (k : ℕ → Bool). k e) (upd_same A f a) ∙ q ∙ sym (ap (λ (k : ℕ → Bool). k e) (upd_same B f b)))
    go (no z) = ap (λ (k : ℕ → Bool). k e) (upd_other A f a g z) ∙ p ∙ sym (ap (λ (k : ℕ → Bool). k e) (upd_other B f b g z))

-- solving one reply keeps values in agreement
solved_agree : (n : ℕ) (S T : Values Bool) → Agree n S T → (r : Reply) (f : ℕ) → Agree n (solved bool n (some r) f S) (solved bool n (some r) f T)
solved_agree n S T h r f = record {
  v_same = λ g e l. upd_agree f g e S.v T.v (here_of bool n r S) (here_of bool n r T) (h.v_same g e l) (here_same n S T h r e);
  d_same = λ g e l. upd_agree f g e S.d T.d (lower_of bool n r S) (lower_of bool n r T) (h.d_same g e l) (lower_same n S T h r e);
}

agree_trans : {n : ℕ} {S T U : Values Bool} → Agree n S T → Agree n T U → Agree n S U
agree_trans a b = record { v_same = λ g e l. a.v_same g e l ∙ b.v_same g e l; d_same = λ g e l. a.d_same g e l ∙ b.d_same g e l }

solve_agree : (n : ℕ) (got : ℕ → Reply) (k : ℕ) (S T : Values Bool) → Agree n S T → Agree n (solve bool n (λ f. some (got f)) k S) (solve bool n (λ f. some (got f)) k T)
unfolding solve
solve_agree n got zero S T h = h
solve_agree n got (suc k) S T h = solve_agree n got k (solved bool n (some (got k)) k S) (solved bool n (some (got k)) k T) (solved_agree n S T h (got k) k)

-- ---- putting a row is the update
module _ (n : ℕ) (few : n ≤ 32) (rows : List Bool) (f : ℕ) (a : ℕ → Bool) (out : List Bool) (p : Put rows (64 * f) (2 * n) a out) where
  -- `at` is an entry's place in a row
  row_upd : (at : ℕ → ℕ) → ((e : ℕ) → e < n → at e < 2 * n) → (b : ℕ → Bool) → ((e : ℕ) → e < n → a (at e) ≡ b e) → (g e : ℕ) → e < n → truth_in out (64 * g + at e) ≡ upd (λ g e. truth_in rows (64 * g + at e)) f b g e
  row_upd at low b same g e l = go (ℕ_discrete g f)
    where
      side : (g ≡ f → ⊥) → Dec (g < f) → (64 * g + at e < 64 * f) ⊎ (64 * f + 2 * n ≤ 64 * g + at e)
      side z (yes k) = inl (omega (arith, low e l))
      side z (no k) = inr (omega arith)

      go : Dec (g ≡ f) → truth_in out (64 * g + at e) ≡ upd (λ g e. truth_in rows (64 * g + at e)) f b g e
      go (yes z) = rw z (p.here (at e) (low e l) ∙ same e l ∙ sym (ap (λ (k : ℕ → Bool). k e) (upd_same (λ g e. truth_in rows (64 * g + at e)) f b)))
      go (no z) = p.other (64 * g + at e) (side z (dec_lt g f)) ∙ sym (ap (λ (k : ℕ → Bool). k e) (upd_other (λ g e. truth_in rows (64 * g + at e)) f b g z))

pub solves_row : (s : List ℕ) → Checked 12 s → (rows vars vs out : List Bool) (f : ℕ)
    → ((x : ℕ) → x < vars_of s → truth_in vars x ≡ variable_of s rows x)
    → take (steps_of s) vs ≡ step_values bool (truth_in vars) [] (decoded 12 s).steps
    → Put rows (64 * f) (2 * entries_of s) (λ e. ref_value bool (truth_in vars) vs (ref_at 12 s (60 + 5 * ins_of s + 30 * steps_of s + 14 * e))) out
    → Agree (entries_of s) (values_in (entries_of s) out) (solved bool (entries_of s) (some (decoded 12 s)) f (values_in (entries_of s) rows))
solves_row s h rows vars vs out f reads all p = record {
  v_same = row_upd (entries_of s) (small s h).few_entries rows f _ out p (λ e. e) (λ e l. omega arith) (here_of bool (entries_of s) (decoded 12 s) (values_in (entries_of s) rows)) (here_is s h rows vars vs reads all);
  d_same = row_upd (entries_of s) (small s h).few_entries rows f _ out p (λ e. entries_of s + e) (λ e l. omega arith) (lower_of bool (entries_of s) (decoded 12 s) (values_in (entries_of s) rows)) (lower_is s h rows vars vs reads all);
}

-- ---- the replies held
module _ (q : Question) (used : ℕ) (store : Bytes) (o : Opened q used store) where
  pub part_sound : (f : ℕ) → Heard q f → Checked 12 (part_of q store f)
  part_sound f h = let w = own_reply (o.laid.replies f h) in checked_of 12 (part_of q store f) w.reply w.free.is

  entries_are : (f : ℕ) → Heard q f → entries_of (part_of q store f) ≡ q.entries
  unfolding decoded
  entries_are f h = let w = own_reply (o.laid.replies f h) in ap (λ (z : Reply). z.entries) (sym (is_the 12 (part_of q store f) w.reply w.free.is)) ∙ w.free.shaped.entries_same

  module _ (f : ℕ) (h : Heard q f) where
    -- the part, as the slice of the store that is solved
    abbrev held : List ℕ
    held = take (start_of q f + size_of q f - start_of q f) (drop (start_of q f) store)

    is_part : held ≡ part_of q store f
    is_part = part_is q store f (start_of q f) (size_of q f) refl refl

    pub sound_here : Checked 12 held
    sound_here = rw is_part (part_sound f h)

    pub part_agree : (rows rows' : List Bool)
        → Agree (entries_of held) (values_in (entries_of held) rows') (solved bool (entries_of held) (some (decoded 12 held)) f (values_in (entries_of held) rows))
        → Agree q.entries (values_in q.entries rows') (solved bool q.entries (kept q store f) f (values_in q.entries rows))
    part_agree rows rows' a = rw (is_part, entries_are f h) at a

-- ---- what is still to be solved gives the answer
abbrev pub Left : Question → Bytes → ℕ → List Bool → Type 0
Left q store f rows = Agree q.entries (solve bool q.entries (kept q store) f (values_in q.entries rows)) (solve bool q.entries (kept q store) q.parts (no_values bool q.entries))

module _ (q : Question) (store : Bytes) where
  pub left_start : (n : ℕ) → Left q store q.parts (replicate n false)
  left_start n =
      solve_agree q.entries (λ f. decoded 12 (part_of q store f)) q.parts (values_in q.entries (replicate n false)) (no_values bool q.entries)
      (record { v_same = λ g e l. unmarked n (64 * g + e); d_same = λ g e l. unmarked n (64 * g + (q.entries + e)) })

  left_suc : (f : ℕ) (rows rows' : List Bool) → Left q store (suc f) rows → Agree q.entries (values_in q.entries rows') (solved bool q.entries (kept q store f) f (values_in q.entries rows)) → Left q store f rows'
  unfolding solve
  left_suc f rows rows' l a = agree_trans (solve_agree q.entries (λ f. decoded 12 (part_of q store f)) f (values_in q.entries rows') (solved bool q.entries (kept q store f) f (values_in q.entries rows)) a) l

  pub left_step : (f : ℕ) (rows rows' : List Bool) → 0 < f → Left q store f rows → Agree q.entries (values_in q.entries rows') (solved bool q.entries (kept q store (f - 1)) (f - 1) (values_in q.entries rows)) → Left q store (f - 1) rows'
  left_step f rows rows' z l a =
      let g : f ≡ suc (f - 1) = omega arith in
      left_suc (f - 1) rows rows' (subst (λ k. Left q store k rows) g l) a

  pub left_end : (f k : ℕ) (rows : List Bool) → f ≡ 0 → k < q.entries → k ≡ q.entries - 1 → Left q store f rows → truth_in rows k ≡ answer_of q store
  unfolding solve answer_of
  left_end f k rows z b g l =
      let l' = subst (λ j. Left q store j rows) z l in
      let w : 64 * 0 + k ≡ k = omega arith in
      (rw w at (l'.v_same 0 k b)) ∙ rw g refl
