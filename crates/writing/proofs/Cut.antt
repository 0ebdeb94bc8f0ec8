-- Steps, V and D cut from a depot's memory are what `reply_write` asks for, and write the reply that the memory holds.
use Prim.Native.Nat.{ℕ, ◌+◌, ◌-◌, ◌*◌, ◌/◌, ◌≤◌, ◌<◌}
use native.Mathlib.Nat.{zero-add}
use native.Mathlib.Omega.{arith}
use mathlib.Core.Path.{◌≡◌, refl, sym, ap, ◌∙◌}
use mathlib.Core.List.{List}
use lib.ListN.{length, get_or, take, drop, length-drop}
use Rattle.std.proofs.lemmas.List.{get_or-take, get_or-drop, length-take-le}
use Rattle.meaning.specs.Formula.{Ref, Step}
use Rattle.reply.proofs.Lists.{tab_same}
use Rattle.reply.proofs.Parts.{reply_same}
use Rattle.writing.specs.inner.Promise.{CutHeld}
use Rattle.writing.specs.inner.Codes.{cut, ref_of, step_of, refs_at, steps_at, RefCode, StepCode, reply_in, reply_held}

-- a part of the memory, m numbers from a place on, holds what the memory holds there
module _ (work : List ℕ) (from m : ℕ) where
  part_at : (i : ℕ) → i < m → get_or (cut work from m) i 0 ≡ get_or work (from + i) 0
  part_at i h = get_or-take (from + m - from) (drop from work) i 0 (omega arith) ∙ get_or-drop from work i 0

  part_long : from + m ≤ length work → length (cut work from m) ≡ m
  part_long h = let e : from + m - from ≡ m = omega arith in rw e (length-take-le m (drop from work) (omega (arith, length-drop from work)))

  refs_part : from + m ≤ length work → refs_at (cut work from m) 0 (length (cut work from m)) ≡ refs_at work from m
  unfolding refs_at
  refs_part h = rw (part_long h) (tab_same m _ _ Ref.low (λ i g. rw zero-add (ap ref_of (part_at i g))))

module _ (work : List ℕ) (from n i : ℕ) (h : i < n) where
  op_part : get_or (cut work from (3 * n)) (3 * i) 0 ≡ get_or work (from + 3 * i) 0
  op_part = part_at work from (3 * n) (3 * i) (omega arith)

  ref_of_part : (j : ℕ) → j < 3 → get_or (cut work from (3 * n)) (3 * i + j) 0 ≡ get_or work (from + 3 * i + j) 0
  ref_of_part j l = let there : from + (3 * i + j) ≡ from + 3 * i + j = omega arith in part_at work from (3 * n) (3 * i + j) (omega arith) ∙ ap (λ p. get_or work p 0) there

module _ (work : List ℕ) (from n : ℕ) (h : from + 3 * n ≤ length work) where
  steps_long : length (cut work from (3 * n)) / 3 ≡ n
  steps_long = omega (arith, part_long work from (3 * n) h)

  steps_part : steps_at (cut work from (3 * n)) 0 (length (cut work from (3 * n)) / 3) ≡ steps_at work from n
  unfolding steps_at step_of
  steps_part = rw steps_long (tab_same n _ _ (Step.not Ref.low) (λ i g. rw (zero-add, op_part work from n i g, ref_of_part work from n i g 1 (omega arith), ref_of_part work from n i g 2 (omega arith)) refl))

  step_part : (w : ℕ) → ((i : ℕ) → i < n → StepCode w work (from + 3 * i)) → (i : ℕ) → i < length (cut work from (3 * n)) / 3 → StepCode w (cut work from (3 * n)) (i * 3)
  step_part w good i g =
      let b : i < n = omega (arith, steps_long) in
      let there : i * 3 ≡ 3 * i = omega arith in
      let s = good i b in
      let op = op_part work from n i b in
      let left = ref_of_part work from n i b 1 (omega arith) in
      let right = ref_of_part work from n i b 2 (omega arith) in
      rw there (record { op = rw op s.op; left = rw left s.left; right = rw right s.right; single = rw (op, right) s.single })

-- as much from the start on
pub cut_front : (work : List ℕ) (n : ℕ) → cut work 0 n ≡ take n work
cut_front work n = let e : 0 + n - 0 ≡ n = omega arith in rw e refl

ref_good : (w : ℕ) (work : List ℕ) (from m : ℕ) → from + m ≤ length work → ((e : ℕ) → e < m → RefCode w (get_or work (from + e) 0))
    → (e : ℕ) → e < length (cut work from m) → RefCode w (get_or (cut work from m) e 0)
ref_good w work from m h good e l = let b : e < m = omega (arith, l, part_long work from m h) in rw (part_at work from m e b) (good e b)

pub cut_held : CutHeld
unfolding reply_held reply_in
cut_held w number fragment entries rows work at steps v d f = record {
  held = record {
    same = part_long work d entries f.d_inside ∙ sym (part_long work v entries f.v_inside);
    steps_good = step_part work at steps f.steps_inside w f.steps_good;
    v_good = ref_good w work v entries f.v_inside f.v_good;
    d_good = ref_good w work d entries f.d_inside f.d_good;
  };
  count = steps_long work at steps f.steps_inside;
  long = part_long work v entries f.v_inside;
  reply =
      reply_same (reply_held number fragment rows (cut work at (3 * steps)) (cut work v entries) (cut work d entries)) (reply_in number fragment entries rows work at steps v d)
      refl refl (part_long work v entries f.v_inside) refl (steps_part work at steps f.steps_inside) (refs_part work v entries f.v_inside) (refs_part work d entries f.d_inside);
}
