-- A reply and its bytes, worked by hand from 01: two entries, one stand-in, so variables 0 to 3; and, then not of it.
use mathlib.Core.Path.{◌≡◌, refl}
use mathlib.Core.Option.{none, some}
use mathlib.Core.List.{[], ◌∷◌}
use Rattle.bits.specs.Bits.{bit, worth, digits, number, eights, bytes_of}
use Rattle.bits.specs.Fields.{fields, bits_of, bits_at, field_at}
use Rattle.meaning.specs.Bytes.{Bytes, same_bytes}
use Rattle.meaning.specs.Formula.{Ref, Step}
use Rattle.meaning.specs.Reply.{Reply, tabulated}
use Rattle.reply.specs.Write.{ref_bits, step_bits, each, head_bits, reply_bits, write}
use Rattle.reply.specs.WellFormed.{vars}
use Rattle.reply.specs.inner.Decode.{ref_from, step_from, ref_at, step_at, decoded, every, well_formed, fits, read}

abbrev small : Reply
small = record {
  number = 16_909_060;
  fragment = 3;
  entries = 2;
  ins = 7 ∷ [];
  steps = Step.and (Ref.var 0) (Ref.var 1) ∷ Step.not (Ref.step 0) ∷ [];
  v = Ref.low ∷ Ref.step 1 ∷ [];
  d = Ref.high ∷ Ref.var 3 ∷ [];
}

-- 00000001 00000010 00000011 00000100, 00011 00001 00001 0000000000010, 00111, and so on, then three zero bits
abbrev worked : Bytes
worked = 1 ∷ 2 ∷ 3 ∷ 4 ∷ 24 ∷ 66 ∷ 0 ∷ 35 ∷ 144 ∷ 0 ∷ 64 ∷ 3 ∷ 96 ∷ 0 ∷ 0 ∷ 0 ∷ 0 ∷ 24 ∷ 0 ∷ 160 ∷ 1 ∷ 0 ∷ 24 ∷ []

pub small_written : write 12 small ≡ worked
unfolding write reply_bits head_bits each ref_bits step_bits bytes_of eights number worth digits bit
small_written = refl

pub small_read : read 12 worked ≡ some small
unfolding read decoded ref_at step_at ref_from step_from tabulated well_formed fits every vars write reply_bits head_bits each ref_bits step_bits bytes_of eights number worth digits bit fields bits_of bits_at field_at same_bytes
small_read = refl

-- the same bytes damaged: number 0; a stand-in equal to the fragment; false as an operand; a step that points at itself; filling; a byte less
pub damaged :
    (read 12 (0 ∷ 0 ∷ 0 ∷ 0 ∷ 24 ∷ 66 ∷ 0 ∷ 35 ∷ 144 ∷ 0 ∷ 64 ∷ 3 ∷ 96 ∷ 0 ∷ 0 ∷ 0 ∷ 0 ∷ 24 ∷ 0 ∷ 160 ∷ 1 ∷ 0 ∷ 24 ∷ []) ≡ none)
    × (read 12 (1 ∷ 2 ∷ 3 ∷ 4 ∷ 24 ∷ 66 ∷ 0 ∷ 33 ∷ 144 ∷ 0 ∷ 64 ∷ 3 ∷ 96 ∷ 0 ∷ 0 ∷ 0 ∷ 0 ∷ 24 ∷ 0 ∷ 160 ∷ 1 ∷ 0 ∷ 24 ∷ []) ≡ none)
    × (read 12 (1 ∷ 2 ∷ 3 ∷ 4 ∷ 24 ∷ 66 ∷ 0 ∷ 35 ∷ 128 ∷ 0 ∷ 64 ∷ 3 ∷ 96 ∷ 0 ∷ 0 ∷ 0 ∷ 0 ∷ 24 ∷ 0 ∷ 160 ∷ 1 ∷ 0 ∷ 24 ∷ []) ≡ none)
    × (read 12 (1 ∷ 2 ∷ 3 ∷ 4 ∷ 24 ∷ 66 ∷ 0 ∷ 35 ∷ 144 ∷ 0 ∷ 64 ∷ 3 ∷ 96 ∷ 2 ∷ 0 ∷ 0 ∷ 0 ∷ 24 ∷ 0 ∷ 160 ∷ 1 ∷ 0 ∷ 24 ∷ []) ≡ none)
    × (read 12 (1 ∷ 2 ∷ 3 ∷ 4 ∷ 24 ∷ 66 ∷ 0 ∷ 35 ∷ 144 ∷ 0 ∷ 64 ∷ 3 ∷ 96 ∷ 0 ∷ 0 ∷ 0 ∷ 0 ∷ 24 ∷ 0 ∷ 160 ∷ 1 ∷ 0 ∷ 25 ∷ []) ≡ none)
    × (read 12 (1 ∷ 2 ∷ 3 ∷ 4 ∷ 24 ∷ 66 ∷ 0 ∷ 35 ∷ 144 ∷ 0 ∷ 64 ∷ 3 ∷ 96 ∷ 0 ∷ 0 ∷ 0 ∷ 0 ∷ 24 ∷ 0 ∷ 160 ∷ 1 ∷ 0 ∷ []) ≡ none)
unfolding read decoded ref_at step_at ref_from step_from tabulated well_formed fits every vars write reply_bits head_bits each ref_bits step_bits bytes_of eights number worth digits bit fields bits_of bits_at field_at same_bytes
damaged = (refl, refl, refl, refl, refl, refl)
