-- A number and its bits, most significant first: there and back at every width.
use mathlib.Core.Path.{◌≡◌, refl, sym, ap, ap₂, ◌∙◌}
use Prim.Native.Nat.{ℕ, zero, suc, ◌+◌, ◌-◌, ◌*◌, ◌/◌, ◌%◌, ◌^◌, ◌<◌}
use native.Mathlib.Nat.{zero-add, suc-add, add_comm, add-mul, mul_assoc, zero-div, div-one, mul_comm, pow-suc, mod-one, mod-eq_of_lt, mul-add-mod_self_right, mul-add-div_right}
use native.Mathlib.Numerals.{one-add}
use native.Mathlib.Omega.{arith}
use mathlib.Core.Bool.{Bool, true, false}
use mathlib.Core.List.{List, [], ◌∷◌, ◌++◌}
use lib.ListN.{length, replicate, length-append}
use lib.Pow.{pow_pos, pow-add, shr-shr, split, high, mod-pow-add}
use lib.Arith.{digits_lt}
use Rattle.bits.specs.Bits.{bit, worth, digits, number}
use Rattle.bits.specs.Promise.{NumberDigits, DigitsNumber}

-- ---- one bit

pub worth_lt : (b : Bool) → worth b < 2
unfolding worth
worth_lt true = omega arith
worth_lt false = omega arith

pub bit_worth : (b : Bool) → bit (worth b) ≡ b
unfolding bit worth
bit_worth true = refl
bit_worth false = refl

-- n is even or odd
two : (n r : ℕ) → n % 2 ≡ r → r < 2 → worth (bit n) ≡ r
unfolding bit worth
two n zero e h = rw e
two n (suc zero) e h = rw e
two n (suc (suc r)) e h = omega arith

pub worth_bit : (n : ℕ) → worth (bit n) ≡ n % 2
worth_bit n = two n (n % 2) refl (omega arith)

bit_mod : (m n : ℕ) → m % 2 ≡ n % 2 → bit m ≡ bit n
unfolding bit
bit_mod m n e = rw e

-- ---- a number and its bits

pub digits_length : (w v : ℕ) → length (digits w v) ≡ w
unfolding digits
digits_length zero v = refl
digits_length (suc w) v = ap suc (digits_length w v)

pub number_one : (b : Bool) → number (b ∷ []) ≡ worth b
unfolding number
number_one b = omega arith

pub digits_one : (v : ℕ) → digits 1 v ≡ bit v ∷ []
unfolding digits
digits_one v = rw (div-one v) refl

pub number_lt : (bs : List Bool) → number bs < 2 ^ length bs
unfolding number
number_lt [] = omega arith
number_lt (b ∷ bs) = rw (pow-suc, mul_comm (2 ^ length bs) 2) (digits_lt (worth_lt b) (number_lt bs))

pub number_append : (a b : List Bool) → number (a ++ b) ≡ number a * 2 ^ length b + number b
unfolding number
number_append [] b = omega arith
number_append (x ∷ a) b =
    rw (length-append a b, pow-add 2 (length a) (length b), number_append a b)
    (rw (add-mul (worth x * 2 ^ length a) (number a) (2 ^ length b), mul_assoc (worth x) (2 ^ length a) (2 ^ length b))
    (omega arith))

pub number_digits_mod : (w v : ℕ) → number (digits w v) ≡ v % 2 ^ w
unfolding number digits
number_digits_mod zero v = sym (mod-one v)
number_digits_mod (suc w) v = rw (digits_length w v, worth_bit (v / 2 ^ w), number_digits_mod w v) (sym (mod-pow-add v 1 w) ∙ rw one-add)

-- only the w lowest bits of a number count
pub digits_low : (w h l : ℕ) → digits w (h * 2 ^ w + l) ≡ digits w l
unfolding digits
digits_low zero h l = refl
digits_low (suc w) h l =
    let e : h * 2 ^ suc w + l ≡ h * 2 * 2 ^ w + l = rw (pow-suc, mul_comm (2 ^ w) 2, mul_assoc) in
    rw e
    (ap₂ ◌∷◌
    (bit_mod ((h * 2 * 2 ^ w + l) / 2 ^ w) (l / 2 ^ w) (rw (mul-add-div_right (pow_pos w) (h * 2) l) (mul-add-mod_self_right h 2 (l / 2 ^ w))))
    (digits_low w (h * 2) l))

pub digits_number : DigitsNumber
unfolding digits number
digits_number [] = refl
digits_number (b ∷ bs) =
    ap₂ ◌∷◌
    (ap bit (high (worth b) (length bs) (number_lt bs)) ∙ bit_worth b)
    (digits_low (length bs) (worth b) (number bs) ∙ digits_number bs)

pub digits_add : (a b v : ℕ) → digits (a + b) v ≡ digits a (v / 2 ^ b) ++ digits b v
unfolding digits
digits_add zero b v = rw zero-add
digits_add (suc a) b v = rw (suc-add, digits_add a b v, shr-shr, add_comm b a)

-- taking back what was put, and putting back what was taken
pub number_digits : NumberDigits
number_digits w v h = number_digits_mod w v ∙ mod-eq_of_lt h

pub digits_number_at : (w : ℕ) (bs : List Bool) → length bs ≡ w → digits w (number bs) ≡ bs
digits_number_at w bs e = rw (← e) (digits_number bs)

-- numbers with the same w lowest bits
pub digits_same : (w a b : ℕ) → a % 2 ^ w ≡ b % 2 ^ w → digits w a ≡ digits w b
digits_same w a b e =
    ap (digits w) (sym (split a w)) ∙ digits_low w (a / 2 ^ w) (a % 2 ^ w)
    ∙ ap (digits w) e
    ∙ sym (ap (digits w) (sym (split b w)) ∙ digits_low w (b / 2 ^ w) (b % 2 ^ w))

-- the i + 1 highest of w bits are the i highest, and one more
pub digits_next : (w i v : ℕ) → i < w → digits (i + 1) (v / 2 ^ (w - (i + 1))) ≡ digits i (v / 2 ^ (w - i)) ++ (bit (v / 2 ^ (w - (i + 1))) ∷ [])
digits_next w i v h =
    let u = v / 2 ^ (w - (i + 1)) in
    let e : w - (i + 1) + 1 ≡ w - i = omega arith in
    digits_add i 1 u ∙ ap₂ ◌++◌ (ap (digits i) (rw (shr-shr v (w - (i + 1)) 1, e) refl)) (digits_one u)

-- n zeros and m zeros more
pub digits_zero : (w : ℕ) → digits w 0 ≡ replicate w false
unfolding digits bit
digits_zero zero = refl
digits_zero (suc w) = rw (zero-div (2 ^ w), digits_zero w) refl
