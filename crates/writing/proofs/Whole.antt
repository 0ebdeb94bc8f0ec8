-- What `reply_write` has written, on plain values: three writes, one after the other, are the reply's bytes.
use Prim.Native.Nat.{ℕ, ◌+◌, ◌-◌, ◌*◌, ◌/◌}
use native.Mathlib.Omega.{arith}
use mathlib.Core.Path.{◌≡◌, refl, sym, ◌∙◌}
use mathlib.Core.Bool.{false}
use mathlib.Core.List.{List, ◌++◌, append_assoc}
use lib.ListN.{length, replicate}
use Rattle.bits.specs.Bits.{digits}
use Rattle.bits.specs.Fields.{Wrote, Octets}
use Rattle.bits.proofs.Laws.{wrote_append}
use Rattle.bits.proofs.Packed.{bytes_of_length, written}
use Rattle.meaning.specs.Reply.{Reply}
use Rattle.reply.specs.Write.{ref_bits, step_bits, each, head_bits, reply_bits, write}
use Rattle.reply.specs.inner.Decode.{end_of}
use Rattle.writing.specs.inner.Codes.{refs_at, steps_at, row_ins, reply_held, Written}
use Rattle.writing.specs.inner.Promise.{OneWritten}
use Rattle.reply.proofs.Lists.{tab_length}
use Rattle.reply.proofs.Parts.{bits_length}

pub refs_count : (work : List ℕ) (at n : ℕ) → length (refs_at work at n) ≡ n
unfolding refs_at
refs_count work at n = tab_length n 0 _

pub steps_count : (work : List ℕ) (at n : ℕ) → length (steps_at work at n) ≡ n
unfolding steps_at
steps_count work at n = tab_length n 0 _

module _ (w number fragment : ℕ) (rows steps v d : List ℕ) (same : length d ≡ length v) where
  abbrev r : Reply
  r = reply_held number fragment rows steps v d

  count : length (reply_bits w r) ≡ end_of w (length (row_ins rows)) (length steps / 3) (length v)
  unfolding reply_held
  count = bits_length w r (refs_count v 0 (length v)) (refs_count d 0 (length d) ∙ same) ∙ rw (steps_count steps 0 (length steps / 3)) refl

  pub reply_written : {old one two three four new : List ℕ} {p q t u to size : ℕ} → Octets old → Octets new
      → Wrote old one 0 p (head_bits number fragment (length v) (length (row_ins rows)) (length steps / 3) ++ each (digits 5) (row_ins rows))
      → Wrote one two p q (each (step_bits w) (steps_at steps 0 (length steps / 3)))
      → Wrote two three q t (each (ref_bits w) (refs_at v 0 (length v)))
      → Wrote three four t u (each (ref_bits w) (refs_at d 0 (length d)))
      → Wrote four new u to (replicate (to - u) false)
      → u ≡ end_of w (length (row_ins rows)) (length steps / 3) (length v) → size ≡ (u + 7) / 8 → to ≡ 8 * size
      → Written w r old new size
  unfolding reply_held reply_bits write
  reply_written {old} {one} {two} {three} {four} {new} {p} {q} {t} {u} {to} {size} oo on a b v_bits d_bits z e s f =
      let l : length (reply_bits w r) ≡ u = count ∙ sym e in
      let all : Wrote old new 0 to (reply_bits w r ++ replicate (to - length (reply_bits w r)) false) =
      rw (l, steps_count steps 0 (length steps / 3), ← append_assoc) (wrote_append (wrote_append a (wrote_append b (wrote_append v_bits d_bits))) z) in
      record {
        bytes = written (reply_bits w r) old new to oo on (omega arith) all;
        size_is = s ∙ sym (bytes_of_length (reply_bits w r) ∙ rw l refl);
      }

pub one_written : OneWritten
one_written w r old a b m n p q = (p.bytes ∙ sym q.bytes, p.size_is ∙ sym q.size_is)
