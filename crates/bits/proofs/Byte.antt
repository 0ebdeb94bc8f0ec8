-- The bits of bytes, and a run of bits within one byte, as the code reads and writes it: one law for every run.
use mathlib.Core.Path.{◌≡◌, refl, sym, ap, ap₂, ◌∙◌}
use Prim.Native.Nat.{ℕ, zero, suc, ◌+◌, ◌-◌, ◌*◌, ◌/◌, ◌%◌, ◌^◌, ◌<◌}
use native.Mathlib.Nat.{div-add-mod, le_refl, suc_inj, add_comm, add-mul, mul-zero, mul-suc, mod-lt, zero-mul, one-mul}
use native.Mathlib.Omega.{arith}
use mathlib.Core.Bool.{Bool, true, false, not}
use mathlib.Core.List.{List, [], ◌∷◌, ◌++◌, append_assoc}
use lib.ListN.{length, take, drop, get_or, set, length-append, length-set}
use lib.Seq.{take-set-le, drop-set-lt, get_or-set_same, lt-length-set, take_at, drop_at, split_at, length-take-le}
use lib.Pow.{pow_pos, shr-shr, split, high, low}
use Rattle.std.specs.Int.{bit_at}
use Rattle.std.specs.Int.Bits.{bit_or, or_add_and}
use lib.Bits.{bit_and}
use lib.Dec.{eqb}
use Rattle.std.proofs.lemmas.Nat.{and_comm, and-not}
use Rattle.std.proofs.lemmas.Nat.Bits.{and_pow}
use Rattle.std.proofs.lemmas.Bool.{ne_eqb}
use Rattle.bits.specs.Bits.{bit, digits, number}
use Rattle.bits.specs.Fields.{fields, bits_of, bits_at, Wrote}
use Rattle.bits.proofs.Digits.{digits_length, digits_one, number_digits, digits_add, digits_low, digits_same}

-- where two joined lists are equal and their first parts as long, the parts are equal
pub append_front : (x y xs ys : List Bool) → length x ≡ length xs → x ++ y ≡ xs ++ ys → x ≡ xs
append_front x y xs ys l e = sym (take_at x y (length xs) l) ∙ ap (take (length xs)) e ∙ take_at xs ys (length xs) refl

pub append_back : (x y xs ys : List Bool) → length x ≡ length xs → x ++ y ≡ xs ++ ys → y ≡ ys
append_back x y xs ys l e = sym (drop_at x y (length xs) l) ∙ ap (drop (length xs)) e ∙ drop_at xs ys (length xs) refl

pub fields_length : (w : ℕ) (xs : List ℕ) → length (fields w xs) ≡ w * length xs
unfolding fields
fields_length w [] = sym (mul-zero w)
fields_length w (x ∷ xs) = rw (length-append, digits_length w x, fields_length w xs, mul-suc) (add_comm w (w * length xs))

pub fields_append : (w : ℕ) (xs ys : List ℕ) → fields w (xs ++ ys) ≡ fields w xs ++ fields w ys
unfolding fields
fields_append w [] ys = refl
fields_append w (x ∷ xs) ys = rw (fields_append w xs ys, append_assoc)

-- numbers of w bits are told apart by their fields
pub fields_inj : (w : ℕ) (s t : List ℕ) → length s ≡ length t → ((i : ℕ) → get_or s i 0 < 2 ^ w) → ((i : ℕ) → get_or t i 0 < 2 ^ w)
    → fields w s ≡ fields w t → s ≡ t
unfolding fields
fields_inj w [] [] e hs ht h = refl
fields_inj w [] (y ∷ t) e hs ht h = absurd (omega arith)
fields_inj w (x ∷ s) [] e hs ht h = absurd (omega arith)
fields_inj w (x ∷ s) (y ∷ t) e hs ht h =
    let l : length (digits w x) ≡ length (digits w y) = digits_length w x ∙ sym (digits_length w y) in
    ap₂ ◌∷◌
    (sym (number_digits w x (hs 0)) ∙ ap number (append_front (digits w x) (fields w s) (digits w y) (fields w t) l h) ∙ number_digits w y (ht 0))
    (fields_inj w s t (suc_inj e) (λ i. hs (suc i)) (λ i. ht (suc i)) (append_back (digits w x) (fields w s) (digits w y) (fields w t) l h))

pub bits_of_length : (s : List ℕ) → length (bits_of s) ≡ 8 * length s
unfolding bits_of
bits_of_length s = fields_length 8 s

pub bits_of_append : (s t : List ℕ) → bits_of (s ++ t) ≡ bits_of s ++ bits_of t
unfolding bits_of
bits_of_append s t = fields_append 8 s t

-- bytes with the same bits are the same bytes
pub bits_of_inj : (s t : List ℕ) → length s ≡ length t → ((i : ℕ) → get_or s i 0 < 2 ^ 8) → ((i : ℕ) → get_or t i 0 < 2 ^ 8) → bits_of s ≡ bits_of t → s ≡ t
unfolding bits_of
bits_of_inj s t e hs ht h = fields_inj 8 s t e hs ht h

-- the bits of a byte, cut in three
parts : (x : ℕ) (s : List ℕ) (a n z : ℕ) → a + (n + z) ≡ 8
    → bits_of (x ∷ s) ≡ digits a (x / 2 ^ (n + z)) ++ (digits n (x / 2 ^ z) ++ (digits z x ++ bits_of s))
unfolding bits_of fields
parts x s a n z e = ap (λ w. digits w x ++ fields 8 s) (sym e) ∙ rw (digits_add a (n + z) x, digits_add n z x) (simp append_assoc)

-- The bits of s around the n bits that end z bits before the end of byte k.
module _ (s : List ℕ) (k a n z : ℕ) where
  abbrev front : List Bool
  front = bits_of (take k s) ++ digits a (get_or s k 0 / 2 ^ (n + z))

  abbrev back : List Bool
  back = digits z (get_or s k 0) ++ bits_of (drop (suc k) s)

  byte_split : a + (n + z) ≡ 8 → k < length s → bits_of s ≡ front ++ (digits n (get_or s k 0 / 2 ^ z) ++ back)
  byte_split e h =
      ap bits_of (split_at s k 0 h) ∙ bits_of_append (take k s) (get_or s k 0 ∷ drop (suc k) s)
      ∙ ap (λ (l : List Bool). bits_of (take k s) ++ l) (parts (get_or s k 0) (drop (suc k) s) a n z e)
      ∙ sym (append_assoc (bits_of (take k s)) (digits a (get_or s k 0 / 2 ^ (n + z))) (digits n (get_or s k 0 / 2 ^ z) ++ back))

  front_length : k < length s → length front ≡ 8 * k + a
  front_length h =
      rw (length-append, bits_of_length, length-take-le k s (omega arith), digits_length) refl

  -- a reader's step
  pub bits_in_byte : a + (n + z) ≡ 8 → k < length s → bits_at s (8 * k + a) n ≡ digits n (get_or s k 0 / 2 ^ z)
  unfolding bits_at
  bits_in_byte e h =
      rw (byte_split e h, drop_at front (digits n (get_or s k 0 / 2 ^ z) ++ back) (8 * k + a) (front_length h))
      (take_at (digits n (get_or s k 0 / 2 ^ z)) back n (digits_length n (get_or s k 0 / 2 ^ z)))

-- ---- writing

-- two lists of bytes whose bits differ in one run
wrote_by : (s t : List ℕ) (p o b q : List Bool) (at next : ℕ) → bits_of s ≡ p ++ (o ++ q) → bits_of t ≡ p ++ (b ++ q)
    → length p ≡ at → length o ≡ length b → next ≡ at + length b → length t ≡ length s → Wrote s t at next b
wrote_by s t p o b q at next es et ep eo en el =
    let d : length (p ++ o) ≡ next = rw (length-append, ep, eo, en) refl in
    record {
      end = en;
      room = omega (arith, simp length-append at (ap length es), bits_of_length s);
      kept = el;
      bits = rw (es, take_at p (o ++ q) at ep, ← append_assoc p o q, drop_at (p ++ o) q next d) et;
    }

-- x with the n bits that end z bits before its end set to c
unfoldable pub patched : ℕ → ℕ → ℕ → ℕ → ℕ
patched x n z c = (x / 2 ^ (n + z) * 2 ^ n + c) * 2 ^ z + x % 2 ^ z

module _ (x n z c : ℕ) (h : c < 2 ^ n) where
  patched_mid : patched x n z c / 2 ^ z ≡ x / 2 ^ (n + z) * 2 ^ n + c
  unfolding patched
  patched_mid = high (x / 2 ^ (n + z) * 2 ^ n + c) z (mod-lt x (pow_pos z))

  patched_high : patched x n z c / 2 ^ (n + z) ≡ x / 2 ^ (n + z)
  patched_high = rw (add_comm n z, ← shr-shr (patched x n z c) z n, patched_mid, high (x / 2 ^ (n + z)) n h, add_comm z n) refl

  patched_low : patched x n z c % 2 ^ z ≡ x % 2 ^ z
  unfolding patched
  patched_low = low (x / 2 ^ (n + z) * 2 ^ n + c) z (mod-lt x (pow_pos z))

-- a writer's step
pub wrote_in_byte : (s : List ℕ) (k a n z c : ℕ) → a + (n + z) ≡ 8 → k < length s → c < 2 ^ n
    → Wrote s (set s k (patched (get_or s k 0) n z c)) (8 * k + a) (8 * k + a + n) (digits n c)
wrote_in_byte s k a n z c e h l =
    let x = get_or s k 0 in
    let y = patched x n z c in
    let t = set s k y in
    let bt : bits_of t ≡ front s k a n z ++ (digits n c ++ back s k a n z) =
    rw (take-set-le k s k y (le_refl k), drop-set-lt (suc k) s k y (le_refl (suc k)), get_or-set_same s k y 0 h, patched_high x n z c l, patched_mid x n z c l, digits_low n (x / 2 ^ (n + z)) c, digits_same z y x (patched_low x n z c l))
    at (byte_split t k a n z e (lt-length-set s k y h)) in
    wrote_by s t (front s k a n z) (digits n (x / 2 ^ z)) (digits n c) (back s k a n z) (8 * k + a) (8 * k + a + n) (byte_split s k a n z e h) bt
    (front_length s k a n z h) (digits_length n (x / 2 ^ z) ∙ sym (digits_length n c)) (rw digits_length refl) (length-set s k y)

-- ---- as the code has it: one bit, by its mask

tested : (r m : ℕ) → r < 2 → 0 < m → eqb r 1 ≡ not (eqb (r * m) 0)
tested zero m h l = rw zero-mul refl
tested (suc zero) m h l = rw (one-mul, ne_eqb m 0 (λ e. omega arith)) refl
tested (suc (suc r)) m h l = absurd (omega arith)

pub bit_in_byte : (s : List ℕ) (at m : ℕ) → at < 8 * length s → m ≡ 2 ^ (7 - at % 8)
    → bits_at s at 1 ≡ not (eqb (bit_and (get_or s (at / 8) 0) m) 0) ∷ []
unfolding bit
bit_in_byte s at m h e =
    let x = get_or s (at / 8) 0 in
    let z = 7 - at % 8 in
    let here : bits_at s at 1 ≡ digits 1 (x / 2 ^ z) = rw div-add-mod at (bits_in_byte s (at / 8) (at % 8) 1 z (omega arith) (omega arith)) in
    here ∙ digits_one (x / 2 ^ z) ∙ rw (e, and_pow x z) (ap (λ b. b ∷ []) (tested (bit_at x z) (2 ^ z) (omega arith) (pow_pos z)))

module _ (x z c : ℕ) where
  -- what stands above the bit, as a part of x
  above : ℕ
  above = x / 2 ^ (1 + z) * 2 * 2 ^ z

  whole : x ≡ above + x / 2 ^ z % 2 * 2 ^ z + x % 2 ^ z
  unfolding above
  whole =
      rw (add_comm 1 z, ← shr-shr x z 1, ← add-mul (x / 2 ^ z / 2 * 2) (x / 2 ^ z % 2) (2 ^ z), split (x / 2 ^ z) 1, split x z) refl

  patch : patched x 1 z c ≡ above + c * 2 ^ z + x % 2 ^ z
  unfolding patched above
  patch = rw (add-mul (x / 2 ^ (1 + z) * 2) c (2 ^ z)) refl

or_mask : (x z : ℕ) → bit_or x (2 ^ z) ≡ patched x 1 z 1
or_mask x z = omega (arith, or_add_and x (2 ^ z), and_pow x z, whole x z 1, patch x z 1)

and_mask : (x z : ℕ) → x < 256 → 2 ^ z < 256 → bit_and x (255 - 2 ^ z) ≡ patched x 1 z 0
and_mask x z h l = omega (arith, and-not 8 (2 ^ z) x l h, and_comm (2 ^ z) x, and_comm (255 - 2 ^ z) x, and_pow x z, whole x z 0, patch x z 0)

module _ (s : List ℕ) (at m : ℕ) (h : at < 8 * length s) (e : m ≡ 2 ^ (7 - at % 8)) where
  bit_written : (c y : ℕ) → c < 2 → y ≡ patched (get_or s (at / 8) 0) 1 (7 - at % 8) c → Wrote s (set s (at / 8) y) at (at + 1) (digits 1 c)
  bit_written c y l d = rw d (rw div-add-mod at (wrote_in_byte s (at / 8) (at % 8) 1 (7 - at % 8) c (omega arith) (omega arith) l))

  pub set_in_byte : Wrote s (set s (at / 8) (bit_or (get_or s (at / 8) 0) m)) at (at + 1) (true ∷ [])
  unfolding bit
  set_in_byte = rw digits_one at (bit_written 1 (bit_or (get_or s (at / 8) 0) m) (omega arith) (rw e (or_mask _ _)))

  pub clear_in_byte : get_or s (at / 8) 0 < 256 → m < 256 → Wrote s (set s (at / 8) (bit_and (get_or s (at / 8) 0) (255 - m))) at (at + 1) (false ∷ [])
  unfolding bit
  clear_in_byte x l = rw digits_one at (bit_written 0 (bit_and (get_or s (at / 8) 0) (255 - m)) (omega arith) (rw e (and_mask _ _ x (rw e at l))))
