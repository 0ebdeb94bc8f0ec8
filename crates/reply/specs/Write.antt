-- A reply's bytes (01, "The reply's bits"): fields most significant bit first. `w` is the width of a reference's number: 12 in 01.
use Rattle.std.specs.Prelude.{ℕ, ◌-◌, Bool, List, [], ◌∷◌, ◌++◌, length}
use Rattle.bits.specs.Bits.{digits, bytes_of}
use Rattle.meaning.specs.Bytes.{Bytes}
use Rattle.meaning.specs.Formula.{Ref, Step}
use Rattle.meaning.specs.Reply.{Reply}

-- a reference: kind 2 (0 false, 1 true, 2 variable, 3 step) and number w (0 for constants)
unfoldable pub ref_bits : ℕ → Ref → List Bool
ref_bits w Ref.low = digits 2 0 ++ digits w 0
ref_bits w Ref.high = digits 2 1 ++ digits w 0
ref_bits w (Ref.var x) = digits 2 2 ++ digits w x
ref_bits w (Ref.step i) = digits 2 3 ++ digits w i

-- a step: 2 bits (0 and, 1 or, 2 not) and two references; not has all zeros as its second
unfoldable pub step_bits : ℕ → Step → List Bool
step_bits w (Step.and a b) = digits 2 0 ++ (ref_bits w a ++ ref_bits w b)
step_bits w (Step.or a b) = digits 2 1 ++ (ref_bits w a ++ ref_bits w b)
step_bits w (Step.not a) = digits 2 2 ++ (ref_bits w a ++ (digits 2 0 ++ digits w 0))

-- the fields of a list's elements, one after the other
unfoldable pub each : {A : Type 0} → (A → List Bool) → List A → List Bool
each f [] = []
each f (x ∷ xs) = f x ++ each f xs

-- question number 32, fragment 5, entries less one 5, stand-ins 5, steps 13
unfoldable pub head_bits : ℕ → ℕ → ℕ → ℕ → ℕ → List Bool
head_bits number fragment entries ins steps =
    digits 32 number ++ (digits 5 fragment ++ (digits 5 (entries - 1) ++ (digits 5 ins ++ digits 13 steps)))

-- the header; each stand-in's fragment 5; each step; V then D
unfoldable pub reply_bits : ℕ → Reply → List Bool
reply_bits w r =
    head_bits r.number r.fragment r.entries (length r.ins) (length r.steps)
    ++ (each (digits 5) r.ins ++ (each (step_bits w) r.steps ++ (each (ref_bits w) r.v ++ each (ref_bits w) r.d)))

-- THE BYTES OF A REPLY: its bits, and zero bits to the next byte
unfoldable pub write : ℕ → Reply → Bytes
write w r = bytes_of (reply_bits w r)
