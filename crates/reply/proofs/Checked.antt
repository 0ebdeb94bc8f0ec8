-- Bytes that pass what the check tests are a well-formed reply, the decoded one.
use Prim.Native.Nat.{ℕ, ◌+◌, ◌-◌, ◌*◌, ◌≤◌, ◌<◌}
use native.Mathlib.Omega.{arith}
use mathlib.Core.Path.{◌≡◌, refl}
use mathlib.Core.Bool.{false}
use mathlib.Core.List.{List, ◌++◌}
use lib.ListN.{length, replicate}
use Rattle.bits.specs.Bits.{digits}
use Rattle.bits.specs.Fields.{bits_of, field_at}
use Rattle.bits.specs.inner.Stand.{BitsStand}
use Rattle.bits.proofs.Laws.{field_stand, field_lt, stand_append, stand_whole, one_more}
use Rattle.meaning.specs.Formula.{Ref, Step}
use Rattle.meaning.specs.Reply.{Reply, tabulated}
use Rattle.reply.specs.Write.{ref_bits, step_bits, head_bits, reply_bits}
use Rattle.reply.specs.WellFormed.{Result, Operands, WellFormed}
use Rattle.reply.specs.inner.Decode.{ref_width, step_width, ref_at, step_at, ins_to, steps_to, v_to, end_of, in_at, ins_of, steps_of, entries_of, decoded}
use Rattle.reply.specs.inner.Checked.{RefGood, vars_of, Checked}
use Rattle.reply.proofs.Lists.{tab_length, tab_at, at_each}
use Rattle.reply.proofs.Fields.{ref_in, step_in}

-- the bits of s are the reply's, and fewer than 8 zero bits
pub record Writes (w : ℕ) (r : Reply) (s : List ℕ) : Type 0 where
  pub filling : ℕ
  pub less : filling < 8
  pub bits : bits_of s ≡ reply_bits w r ++ replicate filling false

-- one place more is inside
inside : (W a i n e : ℕ) → i < n → a + W * n ≤ e → a + W * i + W ≤ e
inside W a i n e h r = omega (arith, one_more W i n h)

-- the parts end one after another
pub ends : (w k m n e : ℕ) → end_of w k m n ≤ e → (ins_to k ≤ e) × (steps_to w k m ≤ e) × (v_to w k m n ≤ e)
ends w k m n e h = go (step_width w * m) (ref_width w * n) h
  where
    go : (a b : ℕ) → ins_to k + a + b + b ≤ e → (ins_to k ≤ e) × (ins_to k + a ≤ e) × (ins_to k + a + b ≤ e)
    go a b r = (omega arith, omega arith, omega arith)

-- the steps, V and D as they are read
module _ (w : ℕ) (s : List ℕ) where
  abbrev pub step_g : ℕ → Step
  step_g i = step_at w s (ins_to (ins_of s) + step_width w * i)

  abbrev pub v_g : ℕ → Ref
  v_g e = ref_at w s (steps_to w (ins_of s) (steps_of s) + ref_width w * e)

  abbrev pub d_g : ℕ → Ref
  d_g e = ref_at w s (v_to w (ins_of s) (steps_of s) (entries_of s) + ref_width w * e)

module _ (w : ℕ) (s : List ℕ) (h : Checked w s) where
  room : (ins_to (ins_of s) ≤ 8 * length s) × (steps_to w (ins_of s) (steps_of s) ≤ 8 * length s) × (v_to w (ins_of s) (steps_of s) (entries_of s) ≤ 8 * length s)
  room = ends w (ins_of s) (steps_of s) (entries_of s) (8 * length s) h.room

  step_here : (i : ℕ) → i < steps_of s
      → BitsStand s (ins_to (ins_of s) + step_width w * i) (ins_to (ins_of s) + step_width w * i + step_width w) (step_bits w (step_g w s i)) × Operands (vars_of s) i (step_g w s i)
  step_here i l = step_in w (vars_of s) i s (ins_to (ins_of s) + step_width w * i) (inside (step_width w) (ins_to (ins_of s)) i (steps_of s) (8 * length s) l room.1) (h.steps_good i l)

  ref_here : (a e : ℕ) → e < entries_of s → a + ref_width w * entries_of s ≤ 8 * length s → RefGood w s (vars_of s) (steps_of s) (a + ref_width w * e)
      → BitsStand s (a + ref_width w * e) (a + ref_width w * e + ref_width w) (ref_bits w (ref_at w s (a + ref_width w * e)))
      × Result (vars_of s) (steps_of s) (ref_at w s (a + ref_width w * e))
  ref_here a e l r g = ref_in w (vars_of s) (steps_of s) s (a + ref_width w * e) (inside (ref_width w) a e (entries_of s) (8 * length s) l r) g

  pub checked_formed : WellFormed (decoded w s)
  unfolding decoded
  checked_formed =
      let li : length (tabulated (ins_of s) 0 (in_at s)) ≡ ins_of s = tab_length (ins_of s) 0 (in_at s) in
      let ls : length (tabulated (steps_of s) 0 (step_g w s)) ≡ steps_of s = tab_length (steps_of s) 0 (step_g w s) in
      record {
        asked = h.asked;
        number_fits = field_lt s 0 32 (omega (arith, h.head));
        fragment_fits = field_lt s 32 5 (omega (arith, h.head));
        some_entry = omega arith;
        few_entries = omega (arith, field_lt s 37 5 (omega (arith, h.head)));
        v_all = tab_length (entries_of s) 0 (v_g w s);
        d_all = tab_length (entries_of s) 0 (d_g w s);
        few_ins = rw li (field_lt s 42 5 (omega (arith, h.head)));
        ins_fit = λ i l.
            let b : i < ins_of s = rw li at l in
            rw (tab_at (ins_of s) i (in_at s) 0 b) ((h.ins_good i b).above, field_lt s (60 + 5 * i) 5 (omega (arith, room.0)));
        ins_differ = λ i l j d.
            let b : i < ins_of s = rw li at l in
            rw (tab_at (ins_of s) i (in_at s) 0 b, tab_at (ins_of s) j (in_at s) 0 (omega arith)) ((h.ins_good i b).fresh j d);
        few_steps = rw ls h.few;
        operands = λ i l.
            let b : i < steps_of s = rw ls at l in
            rw (li, tab_at (steps_of s) i (step_g w s) (Step.not Ref.low) b) (step_here i b).1;
        v_good = λ e l. rw (li, ls, tab_at (entries_of s) e (v_g w s) Ref.low l) (ref_here (steps_to w (ins_of s) (steps_of s)) e l room.2 (h.v_good e l)).1;
        d_good = λ e l. rw (li, ls, tab_at (entries_of s) e (d_g w s) Ref.low l) (ref_here (v_to w (ins_of s) (steps_of s) (entries_of s)) e l h.room (h.d_good e l)).1;
      }

  head_here : BitsStand s 0 60 (head_bits (field_at s 0 32) (field_at s 32 5) (entries_of s) (ins_of s) (steps_of s))
  unfolding head_bits
  head_here =
      let e1 : entries_of s - 1 ≡ field_at s 37 5 = omega arith in
      let f1 : BitsStand s 0 32 (digits 32 (field_at s 0 32)) = field_stand s 0 32 (omega (arith, h.head)) in
      let f2 : BitsStand s 32 37 (digits 5 (field_at s 32 5)) = field_stand s 32 5 (omega (arith, h.head)) in
      let f3 : BitsStand s 37 42 (digits 5 (field_at s 37 5)) = field_stand s 37 5 (omega (arith, h.head)) in
      let f4 : BitsStand s 42 47 (digits 5 (field_at s 42 5)) = field_stand s 42 5 (omega (arith, h.head)) in
      let f5 : BitsStand s 47 60 (digits 13 (field_at s 47 13)) = field_stand s 47 13 h.head in
      rw e1 (stand_append f1 (stand_append f2 (stand_append f3 (stand_append f4 f5))))

  pub checked_writes : Writes w (decoded w s) s
  unfolding decoded reply_bits
  checked_writes = record {
    filling = 8 * length s - end_of w (ins_of s) (steps_of s) (entries_of s);
    less = omega (arith, h.room, h.close);
    bits =
        let p1 = at_each 5 (digits 5) s (in_at s) (ins_of s) 60 room.0 (λ i l. field_stand s (60 + 5 * i) 5 (omega (arith, room.0))) in
        let p2 = at_each (step_width w) (step_bits w) s (step_g w s) (steps_of s) (ins_to (ins_of s)) room.1 (λ i l. (step_here i l).0) in
        let p3 = at_each (ref_width w) (ref_bits w) s (v_g w s) (entries_of s) (steps_to w (ins_of s) (steps_of s)) room.2 (λ e l. (ref_here (steps_to w (ins_of s) (steps_of s)) e l room.2 (h.v_good e l)).0) in
        let p4 = at_each (ref_width w) (ref_bits w) s (d_g w s) (entries_of s) (v_to w (ins_of s) (steps_of s) (entries_of s)) h.room (λ e l. (ref_here (v_to w (ins_of s) (steps_of s) (entries_of s)) e l h.room (h.d_good e l)).0) in
        rw (tab_length (ins_of s) 0 (in_at s), tab_length (steps_of s) 0 (step_g w s))
        (stand_whole (stand_append (stand_append head_here (stand_append p1 (stand_append p2 (stand_append p3 p4)))) h.filled) refl);
  }
