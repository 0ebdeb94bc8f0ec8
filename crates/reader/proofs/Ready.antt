-- Each call is made where less is left to read: the measure falls, and the state that is handed on is ready.
use Prim.Native.Nat.{ℕ, ◌+◌, ◌-◌, ◌*◌, ◌<◌}
use native.Mathlib.Omega.{arith}
use mathlib.Core.Path.{◌≡◌}
use mathlib.Core.Bool.{true}
use lib.ListN.{length, drop}
use Rattle.meaning.specs.Bytes.{Bytes}
use Rattle.meaning.specs.Question.{is_letter}
use Rattle.reader.specs.declared.state.State.{State}
use Rattle.reader.specs.inner.Reading.{moved, byte_at, fronts, ReadyIn}
use Rattle.reader.proofs.Units.{stand_inside}
use Rattle.reader.proofs.Walk.{after_name, name_some}

-- nine times the bytes that are left, and a rank below nine
abbrev pub size : ℕ → Bytes → State → ℕ
size rank t s = 9 * (length t - s.at) + rank

-- a call of rank q from k
abbrev Call : ℕ → Bytes → State → ℕ → Type 0
Call q t s k = (size q t s < k) × ReadyIn t s

-- past bytes that stand there
pub call_bytes : (p q : ℕ) {t : Bytes} {s : State} {k : ℕ} (f : Bytes) (n : ℕ) → length f ≡ n → 0 < n → size p t s ≡ k → ReadyIn t s → fronts f (drop s.at t) ≡ true → q < 9 → Call q t (moved s (s.at + n)) k
call_bytes p q {t} {s} f n m pos e y b h =
    let i = stand_inside t s.at f y.inside b in
    (omega arith, record { small = y.small; inside = omega arith; few = omega (arith, y.few); level = omega (arith, y.level) })

-- after a name
pub call_name : (p q : ℕ) (t : Bytes) (s : State) {k : ℕ} → size p t s ≡ k → ReadyIn t s → (l : is_letter (byte_at t s.at) ≡ true) → q < 9 → Call q t (after_name t s l) k
call_name p q t s e y l h =
    let i = name_some t s l y.inside in
    (omega (arith, i), record { small = y.small; inside = i.1; few = omega (arith, y.few, i.0); level = omega (arith, y.level) })
