-- How many rows of a list are stand-ins, by an iterator over the rows that keeps those.
use Prim.Native.Nat.{ℕ, zero, suc, ◌+◌, ◌/◌}
use native.Mathlib.Nat.{zero-add, add-zero}
use native.Mathlib.Numerals.{add-one}
use native.Mathlib.Omega.{arith}
use mathlib.Core.Path.{◌≡◌, ap, ◌∙◌}
use mathlib.Core.Bool.{Bool, true, false, cond}
use mathlib.Core.List.{List, ◌∷◌}
use lib.ListN.{length, get_or}
use lib.Dec.{eqb}
use mir.Val.{bool_byte}
use Rattle.std.specs.List.{filter}
use Rattle.std.specs.Iterator.{AlwaysYields}
use Rattle.std.specs.Slice.Iter.{chunks_exact_rest, chunks_exact_size, chunks_exact_steps}
use Rattle.std.specs.declared.slice.ChunksExact.{ChunksExact}
use Rattle.meaning.specs.Says.{Says}
use Rattle.meaning.proofs.Says.{says_same}
use Rattle.meaning.proofs.Numbers.{says_eqb}
use Rattle.meaning.specs.Fragment.{num}
use Rattle.meaning.specs.Reply.{tabulated}
use Rattle.writing.specs.inner.Codes.{bare}
use Rattle.writing.proofs.Chunks.{Left, chunk_of, left_end}
use Rattle.writing.proofs.Codes.{first_ins, row_long, ins_longer, ins_none}

-- a stand-in's kind
abbrev pub one : ℕ → Bool
one z = eqb z 1

pub one_says : {z : ℕ} {b : Bool} → Says (z ≡ 1) b → b ≡ one z
one_says {z} s = says_same s (says_eqb z 1)

module _ (rows : List ℕ) where
  abbrev kind : ℕ → ℕ
  kind k = num (bare rows) k 1

  -- the kinds of n rows from the k-th on
  abbrev pub kinds : ℕ → ℕ → List ℕ
  kinds n k = tabulated n k kind

  pub rows_kinds : (n k : ℕ) (s : ChunksExact ℕ) → chunks_exact_size s ≡ 6 → Left 6 k rows (chunks_exact_rest s) → k + n ≡ length rows / 6
      → AlwaysYields chunks_exact_steps (λ x. get_or x.now 1 0) s (kinds n k)
  unfolding tabulated
  rows_kinds zero k s e l h = λ x j p. let q = chunk_of 6 k rows _ x.now (chunks_exact_rest j) (omega arith) l p.1.0 (p.1.1 ∙ e) in absurd (omega (arith, q.inside))
  rows_kinds (suc n) k s e l h = (
    (λ j p. absurd (omega (arith, left_end 6 k rows _ l (omega (arith, p.1.0, e))))),
    (λ x j p.
        let q = chunk_of 6 k rows _ x.now (chunks_exact_rest j) (omega arith) l p.1.0 (p.1.1 ∙ e) in
        (q.at 1 (omega arith), rows_kinds n (suc k) j (p.0 ∙ e) (rw add-one at q.next) (omega arith))),
  )

  kept : (b : Bool) (z : ℕ) (l : List ℕ) → length (cond b (z ∷ l) l) ≡ bool_byte b + length l
  kept true z l = omega arith
  kept false z l = omega arith

  ins_from : (n k : ℕ) → length (first_ins rows k) + length (filter one (kinds n k)) ≡ length (first_ins rows (n + k))
  unfolding tabulated
  ins_from zero k = rw zero-add (omega arith)
  ins_from (suc n) k =
      let e : n + suc k ≡ suc n + k = omega arith in
      let more = rw add-one at (ins_longer rows k) in
      let here = kept (one (kind k)) (kind k) (filter one (kinds n (suc k))) in
      let long = row_long (kind k) (num (bare rows) k 2) (says_eqb (kind k) 1) in
      let rest = rw e at (ins_from n (suc k)) in
      omega (arith, more, here, long, rest)

  pub ins_kept : (n : ℕ) → length (filter one (kinds n 0)) ≡ length (first_ins rows n)
  ins_kept n = let z = ap length (ins_none rows) in let h = rw add-zero at (ins_from n 0) in omega (arith, z, h)
