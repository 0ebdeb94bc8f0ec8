-- What the functions that solve one reply have shown, on plain values.
use borrow.Rule.Slice.PartMut.{put_mid, same_len_mid}
use Prim.Native.Nat.{ℕ, zero, suc, ◌+◌, ◌-◌, ◌*◌, ◌/◌, ◌%◌, ◌≤◌, ◌<◌}
use native.Mathlib.Nat.{div-add-mod', div-lt_iff_lt-mul, mod-lt, mul_comm, mul-le-mul, le_refl}
use native.Mathlib.Decide.{dec_lt, ℕ_discrete}
use native.Mathlib.Omega.{arith}
use mathlib.Core.Path.{◌≡◌, sym, ap, ◌∙◌, subst}
use mathlib.Core.Bool.{Bool, false}
use mathlib.Core.Logic.{◌⊎◌, inl, inr, ⊎_elim}
use mathlib.Core.List.{List, [], ◌++◌}
use lib.ListN.{length, set, take, drop, get_or-append, length-drop, length-set}
use lib.Seq.{length-take-le, get_or-append-add, get_or-append_right, get_or-drop, get_or-set_same, get_or-set_other, get_or-take}
use Rattle.bits.proofs.Laws.{field_lt}
use Rattle.meaning.specs.Algebra.{bool}
use Rattle.meaning.specs.Formula.{Ref, Step, ref_value, step_values, value}
use Rattle.meaning.specs.Reply.{tabulated}
use Rattle.meaning.specs.Solve.{assign, here_of, lower_of}
use Rattle.meaning.proofs.Solve.{assign_v, assign_d}
use Rattle.reply.specs.WellFormed.{vars, Operands}
use Rattle.reply.specs.inner.Decode.{ref_at, step_at, entries_of, ins_of, steps_of, in_at, decoded}
use Rattle.reply.specs.inner.Checked.{Checked, RefOk, StepOk, RefGood, vars_of}
use Rattle.reply.proofs.Lists.{up_to_suc, tab_at, tab_length}
use Rattle.reply.proofs.Fields.{ref_in, step_in}
use Rattle.solving.specs.inner.Values.{truth_in, values_in, variable_of, Put}
use Rattle.solving.proofs.Formulas.{value_is, value_same}

pub record Small (s : List ℕ) : Type 0 where
  pub few_ins : ins_of s < 32
  pub some_entry : 0 < entries_of s
  pub few_entries : entries_of s ≤ 32
  pub few_steps : steps_of s ≤ 4096
  pub ins_room : 60 + 5 * ins_of s ≤ 8 * length s
  pub steps_room : 60 + 5 * ins_of s + 30 * steps_of s ≤ 8 * length s
  pub all_room : 60 + 5 * ins_of s + 30 * steps_of s + 14 * entries_of s + 14 * entries_of s ≤ 8 * length s
  pub short : 8 * length s < 200000

pub small : (s : List ℕ) → Checked 12 s → Small s
small s h =
    let a = field_lt s 42 5 (omega (arith, h.head)) in
    let b = field_lt s 37 5 (omega (arith, h.head)) in
    record {
      few_ins = a;
      some_entry = omega arith;
      few_entries = omega arith;
      few_steps = h.few;
      ins_room = omega (arith, h.room);
      steps_room = omega (arith, h.room);
      all_room = h.room;
      short = omega (arith, h.close, h.few);
    }

pub few_vars : (s : List ℕ) → Checked 12 s → vars_of s ≤ 1984
unfolding vars
few_vars s h =
    let m = small s h in
    let a : 2 * entries_of s ≤ 64 = omega (arith, m.few_entries) in
    let b : ins_of s ≤ 31 = omega (arith, m.few_ins) in
    mul-le-mul a b

-- ---- truth values put into a list, one after another
pub put_more : (l out : List Bool) (base e : ℕ) (f : ℕ → Bool) (x : Bool) → base + e < length out → x ≡ f e → Put l base e f out → Put l base (e + 1) f (set out (base + e) x)
put_more l out base e f x b q P = record {
  here = λ j h. up_to_suc (λ j. truth_in (set out (base + e) x) (base + j) ≡ f j) e (λ k a. get_or-set_other out (base + e) (base + k) x false (omega arith) ∙ P.here k a) (get_or-set_same out (base + e) x false b ∙ q) j (omega arith);
  other = λ i h. get_or-set_other out (base + e) i x false (λ z. ⊎_elim (λ a. omega arith) (λ a. omega arith) h) ∙ P.other i (⊎_elim (λ a. inl a) (λ a. inr (omega arith)) h);
  long = length-set out (base + e) x ∙ P.long;
}

-- a part of a list copied at once
module _ (l part : List Bool) (to k : ℕ) (room : to + k ≤ length l) (long : length part ≡ k) where
  front : length (take to l) ≡ to
  front = length-take-le to l (omega arith)

  at_part : (e : ℕ) → e < k → truth_in (put_mid to k l part) (to + e) ≡ truth_in part e
  at_part e h =
      ap (λ n. truth_in (put_mid to k l part) (n + e)) (sym front)
      ∙ get_or-append-add (take to l) (part ++ drop k (drop to l)) e false
      ∙ get_or-append part (drop k (drop to l)) false e (omega arith)

  off_part : (i : ℕ) → (i < to) ⊎ (to + k ≤ i) → truth_in (put_mid to k l part) i ≡ truth_in l i
  off_part i (inl h) = get_or-append (take to l) (part ++ drop k (drop to l)) false i (omega (arith, front)) ∙ get_or-take to l i false h
  off_part i (inr h) =
      get_or-append_right (take to l) (part ++ drop k (drop to l)) i false (omega (arith, front))
      ∙ get_or-append_right part (drop k (drop to l)) (i - length (take to l)) false (omega (arith, front))
      ∙ get_or-drop k (drop to l) (i - length (take to l) - length part) false
      ∙ get_or-drop to l (k + (i - length (take to l) - length part)) false
      ∙ ap (truth_in l) (omega (arith, front))

  pub put_part : (f : ℕ → Bool) → ((e : ℕ) → e < k → truth_in part e ≡ f e) → Put l to k f (put_mid to k l part)
  put_part f same = record {
    here = λ e h. at_part e h ∙ same e h;
    other = off_part;
    long = same_len_mid to k l part (long ∙ sym (length-take-le k (drop to l) (omega (arith, length-drop to l))));
  }

-- ---- the variables
-- each stand-in's, by its place, where w are copied for each
pub record Gathered (s : List ℕ) (rows vars : List Bool) (w k : ℕ) : Type 0 where
  pub each : (j e : ℕ) → j < k → e < w → truth_in vars (w * j + e) ≡ truth_in rows (64 * in_at s j + e)

pub row_room : (w n p : ℕ) → w ≡ 2 * n → n ≤ 32 → p < 31 → w * p + w ≤ 1984
row_room w n p e b a =
    let x : w ≤ 64 = omega arith in
    let y : suc p ≤ 31 = omega arith in
    let z : w * suc p ≤ 64 * 31 = mul-le-mul x y in
    omega (arith, z)

module _ (s : List ℕ) (rows vars : List Bool) (w p : ℕ) where
  -- one stand-in more: its row is copied
  pub gather_more : (g k j : ℕ) (part : List Bool) → g ≡ in_at s p → k ≡ w → j ≡ w → w * p + w ≤ length vars → 64 * g + w ≤ length rows
      → part ≡ take j (drop (64 * g) rows) → Gathered s rows vars w p → Gathered s rows (put_mid (w * p) k vars part) w (p + 1)
  gather_more g k j part eg ek ej room within is G = record { each = λ x e. go x e (ℕ_discrete x p) }
    where
      P : Put vars (w * p) k (λ e. truth_in rows (64 * g + e)) (put_mid (w * p) k vars part)
      P =
          put_part vars part (w * p) k (omega arith) (ap length is ∙ length-take-le j (drop (64 * g) rows) (omega (arith, length-drop (64 * g) rows)) ∙ omega arith) (λ e. truth_in rows (64 * g + e))
          (λ e h. ap (λ l. truth_in l e) is ∙ get_or-take j (drop (64 * g) rows) e false (omega arith) ∙ get_or-drop (64 * g) rows e false)

      before : (x e : ℕ) → x < p → e < w → w * x + e < w * p
      before x e l h =
          let y : suc x ≤ p = omega arith in
          let z : w * suc x ≤ w * p = mul-le-mul (le_refl w) y in
          omega (arith, z)

      go : (x e : ℕ) → Dec (x ≡ p) → x < p + 1 → e < w → truth_in (put_mid (w * p) k vars part) (w * x + e) ≡ truth_in rows (64 * in_at s x + e)
      go x e (yes z) l h = rw z (P.here e (omega arith) ∙ ap (λ g. truth_in rows (64 * g + e)) eg)
      go x e (no z) l h =
          let y : x < p = omega arith in
          P.other (w * x + e) (inl (before x e y h)) ∙ G.each x e y h

module _ (s : List ℕ) (h : Checked 12 s) (rows vars : List Bool) (G : Gathered s rows vars (2 * entries_of s) (ins_of s)) (x : ℕ) (l : x < vars_of s) where
  abbrev w : ℕ
  w = 2 * entries_of s

  pos : 0 < w
  pos = omega (arith, (small s h).some_entry)

  place : x / w < ins_of s
  unfolding vars
  place = let b : x < ins_of s * w = rw (mul_comm (ins_of s) w) l in (div-lt_iff_lt-mul pos).1 b

  rest : x % w < w
  rest = mod-lt x pos

  split : x / w * w + x % w ≡ x
  split = div-add-mod' x w

  place_is : w * (x / w) + x % w ≡ x
  place_is = ap (λ z. z + x % w) (mul_comm w (x / w)) ∙ split

  found : truth_in vars x ≡ truth_in rows (64 * in_at s (x / w) + x % w)
  found = rw place_is at (G.each (x / w) (x % w) place rest)

  pub variable_is : truth_in vars x ≡ variable_of s rows x
  unfolding variable_of
  variable_is = found ∙ go (dec_lt (x % w) (entries_of s))
    where
      go : Dec (x % w < entries_of s) → truth_in rows (64 * in_at s (x / w) + x % w) ≡ assign bool (entries_of s) (tabulated (ins_of s) 0 (in_at s)) (values_in (entries_of s) rows) x
      go (yes k) =
          let a = assign_v bool (entries_of s) (tabulated (ins_of s) 0 (in_at s)) (values_in (entries_of s) rows) (x / w) (x % w) (rw tab_length place) k in
          sym (rw (split, tab_at (ins_of s) (x / w) (in_at s) 0 place) at a)
      go (no k) =
          let r = rest in
          let f : entries_of s + (x % w - entries_of s) ≡ x % w = omega arith in
          let a = assign_d bool (entries_of s) (tabulated (ins_of s) 0 (in_at s)) (values_in (entries_of s) rows) (x / w) (x % w - entries_of s) (rw tab_length place) (omega arith) in
          sym (rw (f, split, tab_at (ins_of s) (x / w) (in_at s) 0 place) at a)

-- ---- a reference
pub ref_wider : (n m n' m' k x : ℕ) → n ≤ n' → m ≤ m' → RefOk n m k x → RefOk n' m' k x
unfolding RefOk
ref_wider n m n' m' zero x a b h = h
ref_wider n m n' m' (suc zero) x a b h = h
ref_wider n m n' m' (suc (suc zero)) x a b h = omega arith
ref_wider n m n' m' (suc (suc (suc zero))) x a b h = omega arith
ref_wider n m n' m' (suc (suc (suc (suc k)))) x a b h = h

-- ---- a step
pub step_wider : (n m n' m' k ka xa kb xb : ℕ) → n ≤ n' → m ≤ m' → StepOk n m k ka xa kb xb → StepOk n' m' k ka xa kb xb
unfolding StepOk
step_wider n m n' m' zero ka xa kb xb a b h = ((h.0.0, ref_wider n m n' m' ka xa a b h.0.1), (h.1.0, ref_wider n m n' m' kb xb a b h.1.1))
step_wider n m n' m' (suc zero) ka xa kb xb a b h = ((h.0.0, ref_wider n m n' m' ka xa a b h.0.1), (h.1.0, ref_wider n m n' m' kb xb a b h.1.1))
step_wider n m n' m' (suc (suc zero)) ka xa kb xb a b h = ((h.0.0, ref_wider n m n' m' ka xa a b h.0.1), h.1, h.2)
step_wider n m n' m' (suc (suc (suc k))) ka xa kb xb a b h = h

-- ---- the loop over the steps
abbrev pub steps_from : List ℕ → ℕ → ℕ → Step
steps_from s at i = step_at 12 s (at + 30 * i)

pub operands_at : (s : List ℕ) → Checked 12 s → (i : ℕ) → i < steps_of s → Operands (vars_of s) i (steps_from s (60 + 5 * ins_of s) i)
operands_at s h i l = (step_in 12 (vars_of s) i s (60 + 5 * ins_of s + 30 * i) (omega (arith, (small s h).steps_room)) (h.steps_good i l)).1

-- ---- the whole reply
-- V and D are one run of references
pub results_good : (s : List ℕ) → Checked 12 s → (e : ℕ) → e < 2 * entries_of s → RefGood 12 s (vars_of s) (steps_of s) (60 + 5 * ins_of s + 30 * steps_of s + 14 * e)
results_good s h e l = go (dec_lt e (entries_of s))
  where
    go : Dec (e < entries_of s) → RefGood 12 s (vars_of s) (steps_of s) (60 + 5 * ins_of s + 30 * steps_of s + 14 * e)
    go (yes k) = h.v_good e k
    go (no k) =
        let z : 60 + 5 * ins_of s + 30 * steps_of s + 14 * entries_of s + 14 * (e - entries_of s) ≡ 60 + 5 * ins_of s + 30 * steps_of s + 14 * e = omega arith in
        subst (λ p. RefGood 12 s (vars_of s) (steps_of s) p) z (h.d_good (e - entries_of s) (omega arith))

module _ (s : List ℕ) (h : Checked 12 s) (rows vars vs : List Bool)
    (reads : (x : ℕ) → x < vars_of s → truth_in vars x ≡ variable_of s rows x)
    (all : take (steps_of s) vs ≡ step_values bool (truth_in vars) [] (decoded 12 s).steps) where
  result_is : (p : ℕ) → p + 14 ≤ 8 * length s → RefGood 12 s (vars_of s) (steps_of s) p
      → ref_value bool (truth_in vars) vs (ref_at 12 s p) ≡ value bool (variable_of s rows) (decoded 12 s).steps (ref_at 12 s p)
  unfolding decoded
  result_is p room good =
      let r = (ref_in 12 (vars_of s) (steps_of s) s p room good).1 in
      value_is bool (truth_in vars) (vars_of s) (steps_of s) (decoded 12 s).steps vs (ref_at 12 s p) all r
      ∙ value_same bool (vars_of s) (truth_in vars) (variable_of s rows) reads (steps_of s) (steps_from s (60 + 5 * ins_of s)) (ref_at 12 s p) (operands_at s h) r

  pub here_is : (e : ℕ) → e < entries_of s → ref_value bool (truth_in vars) vs (ref_at 12 s (60 + 5 * ins_of s + 30 * steps_of s + 14 * e)) ≡ here_of bool (entries_of s) (decoded 12 s) (values_in (entries_of s) rows) e
  unfolding decoded variable_of
  here_is e l =
      result_is (60 + 5 * ins_of s + 30 * steps_of s + 14 * e) (omega (arith, (small s h).all_room)) (h.v_good e l)
      ∙ ap (value bool (variable_of s rows) (decoded 12 s).steps) (sym (tab_at (entries_of s) e (λ e. ref_at 12 s (60 + 5 * ins_of s + 30 * steps_of s + 14 * e)) Ref.low l))

  pub lower_is : (e : ℕ) → e < entries_of s → ref_value bool (truth_in vars) vs (ref_at 12 s (60 + 5 * ins_of s + 30 * steps_of s + 14 * (entries_of s + e))) ≡ lower_of bool (entries_of s) (decoded 12 s) (values_in (entries_of s) rows) e
  unfolding decoded variable_of
  lower_is e l =
      let z : 60 + 5 * ins_of s + 30 * steps_of s + 14 * (entries_of s + e) ≡ 60 + 5 * ins_of s + 30 * steps_of s + 14 * entries_of s + 14 * e = omega arith in
      ap (λ p. ref_value bool (truth_in vars) vs (ref_at 12 s p)) z
      ∙ result_is (60 + 5 * ins_of s + 30 * steps_of s + 14 * entries_of s + 14 * e) (omega (arith, (small s h).all_room)) (h.d_good e l)
      ∙ ap (value bool (variable_of s rows) (decoded 12 s).steps) (sym (tab_at (entries_of s) e (λ e. ref_at 12 s (60 + 5 * ins_of s + 30 * steps_of s + 14 * entries_of s + 14 * e)) Ref.low l))
