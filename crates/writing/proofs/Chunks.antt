-- A list handed out in chunks of w numbers: the k-th, where `rest` is what is left before it and `more` after it.
use Prim.Native.Nat.{ℕ, ◌+◌, ◌*◌, ◌/◌, ◌≤◌, ◌<◌}
use native.Mathlib.Nat.{zero-mul}
use native.Mathlib.Omega.{arith}
use mathlib.Core.Path.{◌≡◌, refl, sym, ap, ◌∙◌}
use mathlib.Core.List.{List, ◌++◌}
use lib.ListN.{length, get_or, drop, length-append, get_or-append, length-drop}
use Rattle.std.proofs.lemmas.Nat.{div-mul-add}
use Rattle.std.proofs.lemmas.List.{get_or-drop, drop-drop, drop_at}

-- the first k chunks of s have come, and `rest` is left
pub record Left (w k : ℕ) (s rest : List ℕ) : Type 0 where
  pub is : rest ≡ drop (k * w) s
  pub inside : k * w ≤ length s

pub left_all : (w : ℕ) (s : List ℕ) → Left w 0 s s
left_all w s = record { is = rw zero-mul refl; inside = omega arith }

-- the k-th chunk stands in s from k * w on
pub record Chunk (w k : ℕ) (s chunk more : List ℕ) : Type 0 where
  pub at : (i : ℕ) → i < w → get_or chunk i 0 ≡ get_or s (k * w + i) 0
  pub inside : k * w + w ≤ length s
  pub next : Left w (k + 1) s more

pub chunk_of : (w k : ℕ) (s rest chunk more : List ℕ) → 0 < w → Left w k s rest → rest ≡ chunk ++ more → length chunk ≡ w → Chunk w k s chunk more
chunk_of w k s rest chunk more h l e n =
    let whole : drop (k * w) s ≡ chunk ++ more = sym l.is ∙ e in
    let inside : k * w + w ≤ length s = omega (arith, length-append chunk more, length-drop (k * w) s, ap length whole) in
    let there : (k + 1) * w ≡ k * w + w = omega arith in
    record {
      at = λ i g. sym (get_or-append chunk more 0 i (omega arith)) ∙ ap (λ z. get_or z i 0) (sym whole) ∙ get_or-drop (k * w) s i 0;
      inside = inside;
      next = record { is = sym (drop_at chunk more w n) ∙ ap (drop w) (sym whole) ∙ drop-drop w (k * w) s ∙ ap (λ z. drop z s) (sym there); inside = omega (arith, there) };
    }

-- less is left than a chunk
pub left_end : (w k : ℕ) (s rest : List ℕ) → Left w k s rest → length rest < w → k ≡ length s / w
left_end w k s rest l h = let e : length s ≡ k * w + length rest = omega (arith, l.inside, length-drop (k * w) s, ap length l.is) in sym (rw e (div-mul-add k w (length rest) h))
