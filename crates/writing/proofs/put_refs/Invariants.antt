use Prim.Native.Nat.{◌+◌, ◌*◌}
use mathlib.Core.Path.{◌≡◌}
use Rattle.bits.specs.Fields.{Wrote}
use Rattle.reply.specs.Write.{ref_bits, each}
use Rattle.reply.specs.inner.Decode.{ref_width}
use Rattle.writing.specs.inner.Codes.{refs_at}
use Rattle.writing.proofs.put_refs.Given as goal

abbrev pub invariant-loop-code : goal.invariant-loop-code
invariant-loop-code l = record {
  at : l.c.at ≡ l.initial.c.at + ref_width l.w * l.code-index;
  wrote : Wrote l.initial.out l.out l.initial.c.at l.c.at (each (ref_bits l.w) (refs_at l.codes 0 l.code-index));
}
