-- A reply that bytes are is the decoded one, and passes what the check tests.
use Prim.Native.Nat.{ℕ, ◌+◌, ◌-◌, ◌*◌, ◌<◌}
use native.Mathlib.Omega.{arith}
use mathlib.Core.Path.{◌≡◌, refl, sym, ◌∙◌}
use mathlib.Core.Bool.{false}
use mathlib.Core.List.{List, ◌++◌}
use lib.ListN.{length, get_or, replicate, length-append, length-replicate}
use Rattle.bits.specs.Bits.{digits}
use Rattle.bits.specs.inner.Stand.{BitsStand}
use Rattle.bits.proofs.Digits.{digits_length}
use Rattle.bits.proofs.Laws.{stand_field, stand_split, whole_stand}
use Rattle.meaning.specs.Formula.{Ref, Step}
use Rattle.meaning.specs.Reply.{Reply}
use Rattle.reply.specs.Write.{ref_bits, step_bits, each, head_bits, reply_bits}
use Rattle.reply.specs.WellFormed.{vars, Result, WellFormed, Fits}
use Rattle.reply.specs.inner.Decode.{ref_width, step_width, ref_at, step_at, ins_to, steps_to, v_to, end_of, in_at, ins_of, steps_of, entries_of, fragment_of, number_of, decoded}
use Rattle.reply.specs.inner.Checked.{RefGood, StepGood, Checked}
use Rattle.reply.proofs.Lists.{tab_is, each_length, each_at}
use Rattle.reply.proofs.Fields.{ref_length, ref_out, step_length, step_out}
use Rattle.reply.proofs.Checked.{Writes}

pub record Parts (w : ℕ) (s : List ℕ) (r : Reply) : Type 0 where
  pub number_at : BitsStand s 0 32 (digits 32 r.number)
  pub fragment_at : BitsStand s 32 37 (digits 5 r.fragment)
  pub entries_at : BitsStand s 37 42 (digits 5 (r.entries - 1))
  pub ins_count : BitsStand s 42 47 (digits 5 (length r.ins))
  pub steps_count : BitsStand s 47 60 (digits 13 (length r.steps))
  pub ins_at : BitsStand s 60 (ins_to (length r.ins)) (each (digits 5) r.ins)
  pub steps_at : BitsStand s (ins_to (length r.ins)) (steps_to w (length r.ins) (length r.steps)) (each (step_bits w) r.steps)
  pub v_at : BitsStand s (steps_to w (length r.ins) (length r.steps)) (v_to w (length r.ins) (length r.steps) r.entries) (each (ref_bits w) r.v)
  pub d_at : BitsStand s (v_to w (length r.ins) (length r.steps) r.entries) (end_of w (length r.ins) (length r.steps) r.entries) (each (ref_bits w) r.d)
  pub rest : BitsStand s (end_of w (length r.ins) (length r.steps) r.entries) (8 * length s) (replicate (8 * length s - end_of w (length r.ins) (length r.steps) r.entries) false)
  pub close : 8 * length s < end_of w (length r.ins) (length r.steps) r.entries + 8

pub head_length : (a b c d e : ℕ) → length (head_bits a b c d e) ≡ 60
unfolding head_bits
head_length a b c d e = simp (length-append, digits_length)

-- how many bits a reply has
module _ (w : ℕ) (r : Reply) (lv : length r.v ≡ r.entries) (ld : length r.d ≡ r.entries) where
  ins_length : length (each (digits 5) r.ins) ≡ 5 * length r.ins
  ins_length = each_length 5 (digits 5) (digits_length 5) r.ins

  steps_length : length (each (step_bits w) r.steps) ≡ step_width w * length r.steps
  steps_length = each_length (step_width w) (step_bits w) (step_length w) r.steps

  v_length : length (each (ref_bits w) r.v) ≡ ref_width w * r.entries
  v_length = each_length (ref_width w) (ref_bits w) (ref_length w) r.v ∙ rw lv refl

  d_length : length (each (ref_bits w) r.d) ≡ ref_width w * r.entries
  d_length = each_length (ref_width w) (ref_bits w) (ref_length w) r.d ∙ rw ld refl

  pub bits_length : length (reply_bits w r) ≡ end_of w (length r.ins) (length r.steps) r.entries
  unfolding reply_bits
  bits_length = simp (length-append, head_length, ins_length, steps_length, v_length, d_length) (omega arith)

pub to_parts : (w : ℕ) (s : List ℕ) (r : Reply) → WellFormed r → Writes w r s → Parts w s r
unfolding reply_bits head_bits
to_parts w s r g q =
    let k = length r.ins in
    let m = length r.steps in
    let n = r.entries in
    let b9 = each (ref_bits w) r.d in
    let b8 = each (ref_bits w) r.v ++ b9 in
    let b7 = each (step_bits w) r.steps ++ b8 in
    let b6 = each (digits 5) r.ins ++ b7 in
    let h = head_bits r.number r.fragment n k m in
    let c5 = digits 13 m in
    let c4 = digits 5 k ++ c5 in
    let c3 = digits 5 (n - 1) ++ c4 in
    let c2 = digits 5 r.fragment ++ c3 in
    let z : BitsStand s 0 (8 * length s) ((h ++ b6) ++ replicate q.filling false) = whole_stand q.bits in
    let total : end_of w k m n ≡ 0 + length (h ++ b6) = omega (arith, bits_length w r g.v_all g.d_all) in
    let head : 60 ≡ 0 + length h = omega (arith, head_length r.number r.fragment n k m) in
    let h0 = stand_split (end_of w k m n) (h ++ b6) (replicate q.filling false) total z in
    let h1 = stand_split 60 h b6 head h0.0 in
    let h2 = stand_split 32 (digits 32 r.number) c2 (rw digits_length refl) h1.0 in
    let h3 = stand_split 37 (digits 5 r.fragment) c3 (rw digits_length refl) h2.1 in
    let h4 = stand_split 42 (digits 5 (n - 1)) c4 (rw digits_length refl) h3.1 in
    let h5 = stand_split 47 (digits 5 k) c5 (rw digits_length refl) h4.1 in
    let h6 = stand_split (ins_to k) (each (digits 5) r.ins) b7 (rw (ins_length w r g.v_all g.d_all) refl) h1.1 in
    let h7 = stand_split (steps_to w k m) (each (step_bits w) r.steps) b8 (rw (steps_length w r g.v_all g.d_all) refl) h6.1 in
    let h8 = stand_split (v_to w k m n) (each (ref_bits w) r.v) b9 (rw (v_length w r g.v_all g.d_all) refl) h7.1 in
    let f : 8 * length s ≡ end_of w k m n + q.filling = h0.1.end ∙ rw length-replicate refl in
    let e : q.filling ≡ 8 * length s - end_of w k m n = omega arith in
    record {
      number_at = h2.0;
      fragment_at = h3.0;
      entries_at = h4.0;
      ins_count = h5.0;
      steps_count = h5.1;
      ins_at = h6.0;
      steps_at = h7.0;
      v_at = h8.0;
      d_at = h8.1;
      rest = rw (← e) h0.1;
      close = omega (arith, q.less);
    }

mk : ℕ → ℕ → ℕ → List ℕ → List Step → List Ref → List Ref → Reply
mk a b c d e f g = record { number = a; fragment = b; entries = c; ins = d; steps = e; v = f; d = g }

pub reply_same : (r t : Reply) → r.number ≡ t.number → r.fragment ≡ t.fragment → r.entries ≡ t.entries → r.ins ≡ t.ins → r.steps ≡ t.steps → r.v ≡ t.v → r.d ≡ t.d → r ≡ t
unfolding mk
reply_same r t a b c d e f g =
    let h : mk r.number r.fragment r.entries r.ins r.steps r.v r.d ≡ mk t.number t.fragment t.entries t.ins t.steps t.v t.d = rw (a, b, c, d, e, f, g) refl in h

module _ (w : ℕ) (s : List ℕ) (r : Reply) (g : WellFormed r) (x : Fits w r) (q : Writes w r s) where
  p : Parts w s r
  p = to_parts w s r g q

  pub number_read : number_of s ≡ r.number
  number_read = stand_field 32 r.number g.number_fits p.number_at

  pub fragment_read : fragment_of s ≡ r.fragment
  fragment_read = stand_field 5 r.fragment g.fragment_fits p.fragment_at

  pub entries_read : entries_of s ≡ r.entries
  entries_read = let e = stand_field 5 (r.entries - 1) (omega (arith, g.few_entries, g.some_entry)) p.entries_at in omega (arith, e, g.some_entry)

  pub ins_read : ins_of s ≡ length r.ins
  ins_read = stand_field 5 (length r.ins) g.few_ins p.ins_count

  pub steps_read : steps_of s ≡ length r.steps
  steps_read = stand_field 13 (length r.steps) (omega (arith, g.few_steps)) p.steps_count

  pub in_read : (i : ℕ) → i < length r.ins → in_at s i ≡ get_or r.ins i 0
  in_read i l = stand_field 5 (get_or r.ins i 0) (g.ins_fit i l).1 (each_at 5 (digits 5) (digits_length 5) s 0 r.ins 60 (ins_to (length r.ins)) p.ins_at i l)

  pub step_read : (i : ℕ) → i < length r.steps → StepGood w s (vars r.entries (length r.ins)) i (ins_to (length r.ins) + step_width w * i)
      × (step_at w s (ins_to (length r.ins) + step_width w * i) ≡ get_or r.steps i (Step.not Ref.low))
  step_read i l =
      let a = ins_to (length r.ins) in
      step_out w (vars r.entries (length r.ins)) i s (a + step_width w * i) (a + step_width w * i + step_width w) x.vars_fit (omega (arith, x.steps_fit)) (get_or r.steps i (Step.not Ref.low))
      (each_at (step_width w) (step_bits w) (step_length w) s (Step.not Ref.low) r.steps a (steps_to w (length r.ins) (length r.steps)) p.steps_at i l) (g.operands i l)

  ref_read : (a b : ℕ) (l : List Ref) → length l ≡ r.entries → BitsStand s a b (each (ref_bits w) l)
      → ((e : ℕ) → e < r.entries → Result (vars r.entries (length r.ins)) (length r.steps) (get_or l e Ref.low))
      → (e : ℕ) → e < r.entries → RefGood w s (vars r.entries (length r.ins)) (length r.steps) (a + ref_width w * e) × (ref_at w s (a + ref_width w * e) ≡ get_or l e Ref.low)
  ref_read a b l all h good e y =
      ref_out w (vars r.entries (length r.ins)) (length r.steps) s (a + ref_width w * e) (a + ref_width w * e + ref_width w) x.vars_fit x.steps_fit (get_or l e Ref.low)
      (each_at (ref_width w) (ref_bits w) (ref_length w) s Ref.low l a b h e (rw all y)) (good e y)

  pub v_read : (e : ℕ) → e < r.entries → RefGood w s (vars r.entries (length r.ins)) (length r.steps) (steps_to w (length r.ins) (length r.steps) + ref_width w * e)
      × (ref_at w s (steps_to w (length r.ins) (length r.steps) + ref_width w * e) ≡ get_or r.v e Ref.low)
  v_read = ref_read (steps_to w (length r.ins) (length r.steps)) (v_to w (length r.ins) (length r.steps) r.entries) r.v g.v_all p.v_at g.v_good

  pub d_read : (e : ℕ) → e < r.entries → RefGood w s (vars r.entries (length r.ins)) (length r.steps) (v_to w (length r.ins) (length r.steps) r.entries + ref_width w * e)
      × (ref_at w s (v_to w (length r.ins) (length r.steps) r.entries + ref_width w * e) ≡ get_or r.d e Ref.low)
  d_read = ref_read (v_to w (length r.ins) (length r.steps) r.entries) (end_of w (length r.ins) (length r.steps) r.entries) r.d g.d_all p.d_at g.d_good

  -- THE REPLY IS WHAT IS DECODED
  pub is_decoded : r ≡ decoded w s
  unfolding decoded
  is_decoded =
      reply_same r (decoded w s) (sym number_read) (sym fragment_read) (sym entries_read)
      (rw ins_read (tab_is (in_at s) 0 r.ins (length r.ins) refl (λ i l. sym (in_read i l))))
      (rw (ins_read, steps_read) (tab_is (λ i. step_at w s (ins_to (length r.ins) + step_width w * i)) (Step.not Ref.low) r.steps (length r.steps) refl (λ i l. sym (step_read i l).1)))
      (rw (ins_read, steps_read, entries_read) (tab_is (λ e. ref_at w s (steps_to w (length r.ins) (length r.steps) + ref_width w * e)) Ref.low r.v r.entries g.v_all (λ e l. sym (v_read e l).1)))
      (rw (ins_read, steps_read, entries_read) (tab_is (λ e. ref_at w s (v_to w (length r.ins) (length r.steps) r.entries + ref_width w * e)) Ref.low r.d r.entries g.d_all (λ e l. sym (d_read e l).1)))

  pub is_checked : Checked w s
  is_checked = record {
    head = p.steps_count.room;
    asked = rw number_read g.asked;
    few = rw steps_read g.few_steps;
    room = rw (ins_read, steps_read, entries_read) p.d_at.room;
    close = rw (ins_read, steps_read, entries_read) p.close;
    ins_good = λ i l.
        let b : i < length r.ins = rw ins_read at l in
        record {
          above = rw (fragment_read, in_read i b) (g.ins_fit i b).0;
          fresh = λ j d. rw (in_read i b, in_read j (omega arith)) (g.ins_differ i b j d);
        };
    steps_good = λ i l. rw (ins_read, entries_read) (step_read i (rw steps_read at l)).0;
    v_good = λ e l. rw (ins_read, steps_read, entries_read) (v_read e (rw entries_read at l)).0;
    d_good = λ e l. rw (ins_read, steps_read, entries_read) (d_read e (rw entries_read at l)).0;
    filled = rw (ins_read, steps_read, entries_read) p.rest;
  }
