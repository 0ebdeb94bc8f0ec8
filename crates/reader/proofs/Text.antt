-- Facts of a text: the byte at a place, bytes at the front, and how far a word goes.
use Prim.Native.Nat.{ℕ, ◌+◌, ◌≤◌, ◌<◌}
use native.Mathlib.Omega.{arith}
use native.Mathlib.Nat.{add-zero}
use native.Mathlib.Decide.{dec_lt}
use native.Mathlib.Numerals.{add-one}
use mathlib.Core.Path.{◌≡◌, refl, sym, ap, ◌∙◌, subst}
use mathlib.Core.Bool.{Bool, true, false≢true}
use mathlib.Core.List.{◌∷◌, ◌++◌}
use lib.ListN.{length, get_or, drop, length-drop, get_or-eq_default}
use Rattle.std.specs.List.{prefix_len}
use Rattle.std.proofs.lemmas.List.Sums.{prefix_len-le-length}
use Rattle.std.proofs.lemmas.Slice.Eq.{starts_is}
use Rattle.std.proofs.lemmas.Bool.Decides.{Decides-eqb}
use lib.Seq.{drop-cons, drop-drop, get_or-drop, drop-append_seam}
use Rattle.std.specs.Borrow.{Bor}
use Rattle.meaning.specs.Bytes.{Bytes}
use Rattle.meaning.specs.Question.{is_letter}
use Rattle.reader.specs.inner.Reading.{byte_at, fronts}

-- what holds of a text holds of the same text
pub along : (P : Bytes → Type 0) {x y : Bor Bytes} → x ≡ y → P x.now → P y.now
along P e = subst (λ (z : Bor Bytes). P z.now) e

-- a byte that is not 0 stands inside the text
pub inside : (t : Bytes) (at b : ℕ) → byte_at t at ≡ b → 0 < b → at < length t
inside t at b e p = elim (dec_lt at (length t)) [ yes h ↦ h | no h ↦ absurd (let z : get_or t at 0 ≡ 0 = get_or-eq_default t 0 (omega (arith, h)) in omega arith) ]

-- and so does a letter
pub letter_inside : (t : Bytes) (at : ℕ) → is_letter (byte_at t at) ≡ true → at < length t
letter_inside t at e = elim (dec_lt at (length t)) [ yes h ↦ h | no h ↦ absurd (false≢true (sym (ap is_letter (get_or-eq_default t 0 (omega (arith, h)))) ∙ e)) ]

-- the first byte of what is left, and what is left after it
pub head_at : (t : Bytes) (at : ℕ) (x : Bytes) → drop at t ≡ x → byte_at t at ≡ get_or x 0 0
head_at t at x e = ap (λ n. get_or t n 0) (sym (add-zero at)) ∙ sym (get_or-drop at t 0 0) ∙ ap (λ y. get_or y 0 0) e

pub rest_at : (t : Bytes) (at : ℕ) (w x : Bytes) → drop at t ≡ w ++ x → drop (at + length w) t ≡ x
rest_at t at w x e = sym (drop-drop (length w) at t) ∙ ap (drop (length w)) e ∙ drop-append_seam w x

pub cons_at : (t : Bytes) (at b : ℕ) → byte_at t at ≡ b → 0 < b → drop at t ≡ b ∷ drop (at + 1) t
cons_at t at b e pos = let i : at < length t = inside t at b e pos in rw (add-one, drop-cons t at 0 i, e)

-- FRONTS
-- what stands at the front is there
pub fronts_split : (b x : Bytes) → fronts b x ≡ true → x ≡ b ++ drop (length b) x
fronts_split b x e = (starts_is Decides-eqb x b (fronts b x) refl).0 e

-- HOW FAR THE BYTES PASS
module _ (p : ℕ → Bool) where
  pub span_inside : (t : Bytes) (at : ℕ) → at ≤ length t → at + prefix_len p (drop at t) ≤ length t
  span_inside t at h = omega (arith, prefix_len-le-length p (drop at t), length-drop at t)

  pub span_some : (t : Bytes) (at : ℕ) → at < length t → p (byte_at t at) ≡ true → 0 < prefix_len p (drop at t)
  span_some t at h e = rw (drop-cons t at 0 h, e) (omega arith)
