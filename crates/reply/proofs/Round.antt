-- Writing and reading are each other's inverse: bytes are read as a reply exactly if they pass the check, and then it is the decoded one.
use Prim.Native.Nat.{ℕ, ◌+◌, ◌-◌, ◌*◌, ◌≤◌, ◌<◌}
use native.Mathlib.Nat.{mul-le-mul, mul_assoc}
use native.Mathlib.Omega.{arith}
use mathlib.Core.Path.{◌≡◌, refl, sym, ◌∙◌, subst}
use mathlib.Core.Bool.{Bool, ◌&&◌, cond}
use mathlib.Core.Option.{none, some}
use lib.ListN.{length, get_or}
use Rattle.bits.specs.Bits.{bytes_for}
use Rattle.bits.specs.Fields.{Octets}
use Rattle.bits.proofs.Packed.{bytes_of_length, bits_of_bytes_of, bytes_are}
use Rattle.meaning.specs.Says.{Says, aye, nay}
use Rattle.meaning.specs.Bytes.{Bytes, same_bytes}
use Rattle.meaning.specs.Formula.{Ref, Step}
use Rattle.meaning.specs.Reply.{Reply}
use Rattle.meaning.proofs.Says.{says_iff, says_and}
use Rattle.reply.specs.Write.{reply_bits, write}
use Rattle.reply.specs.WellFormed.{vars, WellFormed, Fits}
use Rattle.reply.specs.Read.{Is}
use Rattle.reply.specs.inner.Decode.{ref_width, step_width, ins_to, steps_to, v_to, number_of, fragment_of, entries_of, ins_of, in_at, ref_at, step_at, decoded, well_formed, fits, read}
use Rattle.reply.specs.inner.Checked.{Checked}
use Rattle.reply.specs.inner.Promise.{SizeIs}
use Rattle.reply.specs.Promise.{RoundTrip, OneReply, Fits12, MostBytes}
use Rattle.reply.proofs.Tests.{says_same_bytes}
use Rattle.reply.proofs.ReadTests.{says_formed, says_fits}
use Rattle.reply.proofs.Checked.{Writes, checked_formed, checked_writes}
use Rattle.reply.proofs.Parts.{bits_length, is_decoded, is_checked, number_read, fragment_read, entries_read, ins_read, in_read, step_read, v_read, d_read}

-- ---- bytes and bits
pub writes_bits : (w : ℕ) (r : Reply) (s : Bytes) → write w r ≡ s → Writes w r s
unfolding write
writes_bits w r s e = record {
  filling = 8 * bytes_for (length (reply_bits w r)) - length (reply_bits w r);
  less = omega arith;
  bits = rw (← e) (bits_of_bytes_of (reply_bits w r));
}

pub bits_write : (w : ℕ) (r : Reply) (s : Bytes) → Octets s → Writes w r s → write w r ≡ s
unfolding write
bits_write w r s o q = sym (bytes_are (reply_bits w r) s q.filling o q.less q.bits)

-- ---- what `read` tests
tested : (w : ℕ) (s : Bytes) → Says (Is w s (decoded w s)) (well_formed (decoded w s) && (fits w (decoded w s) && same_bytes (write w (decoded w s)) s))
tested w s =
    let r = decoded w s in
    says_iff (λ (h : WellFormed (decoded w s) × (Fits w (decoded w s) × (write w (decoded w s) ≡ s))). record { formed = h.0; fits = h.1.0; writes = h.1.1 }) (λ i. (i.formed, (i.fits, i.writes)))
    (says_and (says_formed r) (says_and (says_fits r w) (says_same_bytes (write w r) s)))

module _ (w : ℕ) (s : Bytes) where
  pub is_read : Is w s (decoded w s) → read w s ≡ some (decoded w s)
  unfolding read
  is_read i = go (tested w s)
    where
      go : {b : Bool} → Says (Is w s (decoded w s)) b → cond b (some (decoded w s)) none ≡ some (decoded w s)
      go (aye a) = refl
      go (nay n) = absurd (n i)

  pub read_is : (r : Reply) → read w s ≡ some r → Is w s r
  unfolding read
  read_is r e = go (tested w s) e
    where
      go : {b : Bool} → Says (Is w s (decoded w s)) b → cond b (some (decoded w s)) none ≡ some r → Is w s r
      go (aye a) q = let h : decoded w s ≡ r = cc in subst (Is w s) h a
      go (nay n) q = let z : ◌≡◌ {A = ℕ} 0 1 = cc in absurd (omega arith)

  -- what bytes are is what is decoded, and passes the check's tests
  pub is_the : (r : Reply) → Is w s r → r ≡ decoded w s
  is_the r i = is_decoded w s r i.formed i.fits (writes_bits w r s i.writes)

  pub checked_of : (r : Reply) → Is w s r → Checked w s
  checked_of r i = is_checked w s r i.formed i.fits (writes_bits w r s i.writes)

  pub some_is : (r : Reply) → Is w s r → read w s ≡ some r
  some_is r i = let e = is_the r i in rw e (is_read (subst (Is w s) e i))

-- what is read at each place of bytes that are the reply r
pub record Fields (w : ℕ) (s : Bytes) (r : Reply) : Type 0 where
  pub number_is : number_of s ≡ r.number
  pub fragment_is : fragment_of s ≡ r.fragment
  pub entries_is : entries_of s ≡ r.entries
  pub ins_are : ins_of s ≡ length r.ins
  pub in_is : (i : ℕ) → i < length r.ins → in_at s i ≡ get_or r.ins i 0
  pub step_is : (i : ℕ) → i < length r.steps → step_at w s (ins_to (length r.ins) + step_width w * i) ≡ get_or r.steps i (Step.not Ref.low)
  pub v_is : (e : ℕ) → e < r.entries → ref_at w s (steps_to w (length r.ins) (length r.steps) + ref_width w * e) ≡ get_or r.v e Ref.low
  pub d_is : (e : ℕ) → e < r.entries → ref_at w s (v_to w (length r.ins) (length r.steps) r.entries + ref_width w * e) ≡ get_or r.d e Ref.low

pub fields_of : (w : ℕ) (s : Bytes) (r : Reply) → Is w s r → Fields w s r
fields_of w s r i =
    let g = i.formed in
    let x = i.fits in
    let q = writes_bits w r s i.writes in
    record {
      number_is = number_read w s r g x q;
      fragment_is = fragment_read w s r g x q;
      entries_is = entries_read w s r g x q;
      ins_are = ins_read w s r g x q;
      in_is = in_read w s r g x q;
      step_is = λ j l. (step_read w s r g x q j l).1;
      v_is = λ e l. (v_read w s r g x q e l).1;
      d_is = λ e l. (d_read w s r g x q e l).1;
    }

-- ---- the promises
pub write_read : (w : ℕ) (r : Reply) → WellFormed r → Fits w r → read w (write w r) ≡ some r
write_read w r g x = some_is w (write w r) r (record { formed = g; fits = x; writes = refl })

pub round_trip : RoundTrip
round_trip w = record { read = read w; back = write_read w; forth = read_is w }

pub one_reply : OneReply
one_reply w r t g h x y e =
    is_the w (write w r) r (record { formed = g; fits = x; writes = refl }) ∙ sym (is_the w (write w r) t (record { formed = h; fits = y; writes = sym e }))

pub fits_12 : Fits12
unfolding vars
fits_12 r g = record {
  vars_fit = let b : length r.ins ≤ 31 = omega (arith, g.few_ins) in let h : r.entries * length r.ins ≤ 32 * 31 = mul-le-mul g.few_entries b in rw mul_assoc (omega arith);
  steps_fit = omega (arith, g.few_steps);
}

pub size_is : SizeIs
unfolding write
size_is w r v d = bytes_of_length (reply_bits w r) ∙ rw (bits_length w r v d) refl

pub most_bytes : MostBytes
most_bytes r g = rw (size_is 12 r g.v_all g.d_all) (omega (arith, g.few_ins, g.few_steps, g.few_entries))

-- with 12 bits, bytes that pass are a reply
pub checked_is : (s : Bytes) → Octets s → Checked 12 s → Is 12 s (decoded 12 s)
checked_is s o h =
    let g = checked_formed 12 s h in
    record { formed = g; fits = fits_12 (decoded 12 s) g; writes = bits_write 12 (decoded 12 s) s o (checked_writes 12 s h) }
