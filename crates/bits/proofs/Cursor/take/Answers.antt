use Prim.Native.Nat.{ℕ, ◌+◌, ◌*◌, ◌^◌, ◌≤◌, ◌<◌}
use mathlib.Core.List.{List}
use lib.ListN.{length}
use mathlib.Core.Bool.{Bool, true, false}
use mir.Val.{bool_byte}
use mathlib.Core.Path.{◌≡◌, refl}
use native.Mathlib.Nat.{lt_of_lt_of_le}
use native.Mathlib.Omega.{arith}
use lib.Pow.{pow_mono}
use Rattle.bits.specs.Bits.{worth, number}
use Rattle.bits.specs.Fields.{field_at, bits_at}
use Rattle.bits.proofs.Digits.{worth_lt}
use Rattle.bits.proofs.Laws.{field_lt, field_next}
use Rattle.bits.proofs.Cursor.take.Goals as goal

-- before a turn there is room for one bit more
small : (s : List ℕ) (at i v : ℕ) → at + i ≤ 8 * length s → i < 32 → v ≡ field_at s at i → v < 2 ^ 31
small s at i v h l e = rw e (lt_of_lt_of_le (field_lt s at i h) (pow_mono {j = 31} (omega arith)))

-- a bit as a number, as the code has it
one : (b : Bool) → bool_byte b ≡ worth b
unfolding worth
one true = refl
one false = refl

pub loop-i-init : goal.loop-i-init
unfolding field_at bits_at number
loop-i-init c = refl

pub overflow_mul-value : goal.overflow_mul-value
overflow_mul-value c = omega (arith, small c.args.s.now c.args.self.at c.loop-i.i c.loop-i.value (omega arith) (omega arith) c.loop-i.invariant)

pub overflow_add-value : goal.overflow_add-value
overflow_add-value c =
    let b = small c.args.s.now c.args.self.at c.loop-i.i c.loop-i.value (omega arith) (omega arith) c.loop-i.invariant in
    record { fits = rw (c.from.ensures, one) (omega (arith, b, worth_lt c.bit.result)) }

pub loop-i-preserved : goal.loop-i-preserved
loop-i-preserved c = rw (c.from.ensures, one) (field_next c.args.s.now c.args.self.at c.loop-i.i _ _ _ (omega arith) c.loop-i.invariant c.bit.ensures (omega arith))

pub returns : goal.returns
returns c =
    let e : c.loop-i.i ≡ c.args.width = omega arith in
    (rw e at c.loop-i.invariant, omega (arith, c.after-next.ensures))
