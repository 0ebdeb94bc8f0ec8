-- Members of a list by their place, and the children that a layout gives a fragment.
use Prim.Native.Nat.{ℕ, zero, suc, ◌<◌}
use native.Mathlib.Omega.{arith}
use native.Mathlib.Nat.{add-zero}
use mathlib.Core.Path.{◌≡◌, refl, sym, ◌∙◌, subst}
use mathlib.Core.List.Memᴰ
use mathlib.Core.List.{List, [], ◌∷◌, Memᴰ}
use lib.ListN.{length, get_or}
use Rattle.meaning.specs.Bytes.{Bytes}
use Rattle.meaning.specs.Register.{parent_of, children_of}
use Rattle.meaning.proofs.Register.{numbered_in, in_numbered}

-- ---- a member's place
pub record Place (l : List ℕ) (g : ℕ) : Type 0 where
  pub at : ℕ
  pub less : at < length l
  pub is : get_or l at 0 ≡ g

pub mem_place : (l : List ℕ) (g : ℕ) → Memᴰ g l → Place l g
mem_place [] g m = absurd (Memᴰ.not-nil m)
mem_place (x ∷ l) g (Memᴰ.head e) = record { at = 0; less = omega arith; is = sym e }
mem_place (x ∷ l) g (Memᴰ.tail m) = let p = mem_place l g m in record { at = suc p.at; less = omega (arith, p.less); is = p.is }

pub place_mem : (l : List ℕ) (i : ℕ) → i < length l → Memᴰ (get_or l i 0) l
place_mem [] i h = absurd (omega arith)
place_mem (x ∷ l) zero h = Memᴰ.head refl
place_mem (x ∷ l) (suc i) h = Memᴰ.tail (place_mem l i (omega arith))

-- ---- children
pub child_has : (layout : Bytes) (k g : ℕ) → Memᴰ g (children_of layout k) → (g < length layout) × (parent_of layout g ≡ k)
child_has layout k g m =
    let x = numbered_in k layout 0 g m in
    let e : g ≡ x.0 = x.2 ∙ add-zero x.0 in
    (omega (arith, e, x.1), rw e x.3)

pub has_child : (layout : Bytes) (k g : ℕ) → g < length layout → parent_of layout g ≡ k → Memᴰ g (children_of layout k)
has_child layout k g h e = subst (λ n. Memᴰ n (children_of layout k)) (add-zero g) (in_numbered k layout 0 g h e)
