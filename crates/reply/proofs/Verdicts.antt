-- What `reply_check` has shown at each of its answers, on plain values.
use Prim.Native.Nat.{ℕ, ◌+◌, ◌-◌, ◌*◌, ◌≤◌, ◌<◌}
use mathlib.Core.Path.{◌≡◌, refl}
use mathlib.Core.Bool.{false}
use mathlib.Core.List.{List}
use native.Mathlib.Nat.{mul-le-mul}
use native.Mathlib.Omega.{arith}
use native.Mathlib.Decide.{dec_lt}
use lib.ListN.{length, replicate}
use Rattle.bits.specs.Fields.{Octets}
use Rattle.bits.specs.inner.Stand.{BitsStand}
use Rattle.bits.proofs.Laws.{field_lt}
use Rattle.meaning.specs.Refused.{Unless, Granted}
use Rattle.reply.specs.WellFormed.{vars}
use Rattle.reply.specs.Read.{Checks}
use Rattle.reply.specs.inner.Decode.{end_of, v_to, ins_of, steps_of, entries_of, decoded}
use Rattle.reply.specs.inner.Checked.{StepGood, RefGood, InGood, SizesOk, Checked, vars_of}
use Rattle.reply.specs.inner.Fields.{HeadIs}
use Rattle.reply.specs.declared.Head.{Head}
use Rattle.reply.proofs.Round.{checked_of, checked_is}

pub bad : (s : List ℕ) → (Checked 12 s → ⊥) → Checks s 13
bad s h = Unless.refused (λ t. h (checked_of 12 s t.0 t.1))

pub good : (s : List ℕ) → Octets s → Checked 12 s → Checks s 0
good s o h = Unless.passed (decoded 12 s, checked_is s o h) Granted.granted

pub few_vars : (n k : ℕ) → n ≤ 32 → k < 32 → 2 * n * k ≤ 1984
few_vars n k hn hk =
    let a : 2 * n ≤ 64 = omega arith in
    let b : k ≤ 31 = omega arith in
    mul-le-mul a b

-- bytes that pass are at most 15,499
pub s_most : (s : List ℕ) → Checked 12 s → length s ≤ 15_499
s_most s q = omega (arith, q.few, q.close, field_lt s 37 5 (omega (arith, q.head)), field_lt s 42 5 (omega (arith, q.head)))

module _ (s : List ℕ) (h : Head) (H : HeadIs s h) where
  vars_are : vars_of s ≡ 2 * h.entries * h.ins
  unfolding vars
  vars_are = rw (H.entries_is, H.ins_is) refl

  s_ins : Checked 12 s → (i : ℕ) → i < h.ins → InGood s h.fragment i
  s_ins q i l = rw H.fragment_is (q.ins_good i (rw H.ins_is at l))

  s_steps : Checked 12 s → (i : ℕ) → i < h.steps → StepGood 12 s (2 * h.entries * h.ins) i (60 + 5 * h.ins + 30 * i)
  s_steps q i l = rw (← vars_are, H.ins_is) (q.steps_good i (rw H.steps_is at l))

  s_refs : Checked 12 s → (e : ℕ) → e < 2 * h.entries → RefGood 12 s (2 * h.entries * h.ins) h.steps (60 + 5 * h.ins + 30 * h.steps + 14 * e)
  s_refs q e l = go (dec_lt e (entries_of s))
    where
      go : Dec (e < entries_of s) → RefGood 12 s (2 * h.entries * h.ins) h.steps (60 + 5 * h.ins + 30 * h.steps + 14 * e)
      go (yes d) = rw (← vars_are, H.ins_is, H.steps_is) (q.v_good e d)
      go (no d) =
          let x : e - entries_of s < entries_of s = omega (arith, H.entries_is) in
          let z : 60 + 5 * h.ins + 30 * h.steps + 14 * e ≡ v_to 12 (ins_of s) (steps_of s) (entries_of s) + 14 * (e - entries_of s) = omega (arith, H.entries_is, H.ins_is, H.steps_is) in
          rw (z, ← vars_are, H.steps_is) (q.d_good (e - entries_of s) x)

  abbrev pub Ins : Type 0
  Ins = (i : ℕ) → i < h.ins → InGood s h.fragment i

  abbrev pub Steps : Type 0
  Steps = (i : ℕ) → i < h.steps → StepGood 12 s (2 * h.entries * h.ins) i (60 + 5 * h.ins + 30 * i)

  abbrev pub Results : Type 0
  Results = (e : ℕ) → e < 2 * h.entries → RefGood 12 s (2 * h.entries * h.ins) h.steps (60 + 5 * h.ins + 30 * h.steps + 14 * e)

  -- what is left to test of bytes that pass is their filling
  abbrev pub Filled : ℕ → ℕ → Type 0
  Filled end to = BitsStand s end to (replicate (to - end) false)

  end_is : end_of 12 h.ins h.steps h.entries ≡ end_of 12 (ins_of s) (steps_of s) (entries_of s)
  end_is = rw (H.ins_is, H.steps_is, H.entries_is) refl

  pub checked_parts : Checked 12 s → SizesOk h (length s) × Ins × Steps × Results
  checked_parts q = (record { asked = rw H.number_is q.asked; few = rw H.steps_is q.few; whole = omega (arith, q.room, q.close, end_is) }, s_ins q, s_steps q, s_refs q)

  pub checked_filled : (end to : ℕ) → end ≡ end_of 12 h.ins h.steps h.entries → to ≡ 8 * length s → Checked 12 s → Filled end to
  checked_filled end to e f q = rw (e, f, end_is) q.filled

  pub all_checked : (end to : ℕ) → end ≡ end_of 12 h.ins h.steps h.entries → to ≡ 8 * length s → 8 ≤ length s → SizesOk h (length s) × Ins × Steps × Results → Filled end to → Checked 12 s
  all_checked end to e f long t fill =
      let z = t.0 in
      record {
        head = omega arith;
        asked = rw H.number_is at z.asked;
        few = rw H.steps_is at z.few;
        room = omega (arith, z.whole, end_is);
        close = omega (arith, z.whole, end_is);
        ins_good = λ i l. rw H.fragment_is at (t.1 i (omega (arith, H.ins_is)));
        steps_good = λ i l. rw (← vars_are, H.ins_is) at (t.2 i (omega (arith, H.steps_is)));
        v_good = λ e l. rw (← vars_are, H.ins_is, H.steps_is) at (t.3 e (omega (arith, H.entries_is)));
        d_good = λ e l.
            let z : 60 + 5 * h.ins + 30 * h.steps + 14 * (h.entries + e) ≡ v_to 12 (ins_of s) (steps_of s) (entries_of s) + 14 * e = omega (arith, H.entries_is, H.ins_is, H.steps_is) in
            rw (z, ← vars_are, H.steps_is) at (t.3 (h.entries + e) (omega (arith, H.entries_is)));
        filled = rw (e, f, end_is) at fill;
      }
