-- The values of steps and references, over any truth values.
use Prim.Native.Nat.{ℕ, zero, suc, ◌<◌}
use native.Mathlib.Omega.{arith}
use mathlib.Core.Path.{◌≡◌, refl, sym, ap, ap₂, ◌∙◌}
use mathlib.Core.List.{List, [], ◌∷◌, ◌++◌}
use lib.ListN.{length, take, set}
use lib.Seq.{get_or-take, take-suc-set}
use Rattle.meaning.specs.Algebra.{Truth}
use Rattle.meaning.specs.Formula.{Ref, Step, ref_value, step_value, step_values, value}
use Rattle.meaning.specs.Reply.{tabulated}
use Rattle.reply.specs.WellFormed.{Result, Operand, Operands}
use Rattle.reply.proofs.Lists.{tab_snoc}

module _ (B : Truth) (α : ℕ → B.X) where
  values_append : (vs : List B.X) (s t : List Step) → step_values B α vs (s ++ t) ≡ step_values B α (step_values B α vs s) t
  unfolding step_values
  values_append vs [] t = refl
  values_append vs (x ∷ s) t = values_append (vs ++ (step_value B α vs x ∷ [])) s t

  -- only the first i values count for what refers to earlier steps
  pub ref_take : (n i : ℕ) (vs : List B.X) (r : Ref) → Result n i r → ref_value B α (take i vs) r ≡ ref_value B α vs r
  ref_take n i vs Ref.low h = refl
  ref_take n i vs Ref.high h = refl
  ref_take n i vs (Ref.var x) h = refl
  ref_take n i vs (Ref.step x) h = get_or-take i vs x B.no h

  operand_take : (n i : ℕ) (vs : List B.X) (r : Ref) → Operand n i r → ref_value B α (take i vs) r ≡ ref_value B α vs r
  operand_take n i vs Ref.low h = absurd h
  operand_take n i vs Ref.high h = absurd h
  operand_take n i vs (Ref.var x) h = ref_take n i vs (Ref.var x) h
  operand_take n i vs (Ref.step x) h = ref_take n i vs (Ref.step x) h

  step_take : (n i : ℕ) (vs : List B.X) (t : Step) → Operands n i t → step_value B α (take i vs) t ≡ step_value B α vs t
  step_take n i vs (Step.and a b) h = ap₂ B.and (operand_take n i vs a h.0) (operand_take n i vs b h.1)
  step_take n i vs (Step.or a b) h = ap₂ B.or (operand_take n i vs a h.0) (operand_take n i vs b h.1)
  step_take n i vs (Step.not a) h = ap B.neg (operand_take n i vs a h)

  pub no_steps : (g : ℕ → Step) → step_values B α [] (tabulated 0 0 g) ≡ []
  unfolding step_values tabulated
  no_steps g = refl

  one_step : (vs : List B.X) (t : Step) → step_values B α vs (t ∷ []) ≡ vs ++ (step_value B α vs t ∷ [])
  unfolding step_values
  one_step vs t = refl

  -- a turn of the loop over the steps
  pub values_more : (n i : ℕ) (g : ℕ → Step) (vs : List B.X) (b : B.X) → i < length vs → Operands n i (g i) → take i vs ≡ step_values B α [] (tabulated i 0 g)
      → b ≡ step_value B α vs (g i) → take (suc i) (set vs i b) ≡ step_values B α [] (tabulated (suc i) 0 g)
  values_more n i g vs b l o e h =
      take-suc-set vs i b l
      ∙ ap (λ (x : B.X). take i vs ++ (x ∷ [])) (h ∙ sym (step_take n i vs (g i) o))
      ∙ sym (one_step (take i vs) (g i))
      ∙ ap (λ (x : List B.X). step_values B α x (g i ∷ [])) e
      ∙ sym (values_append [] (tabulated i 0 g) (g i ∷ []))
      ∙ ap (step_values B α []) (sym (tab_snoc i g))

  pub value_is : (n m : ℕ) (s : List Step) (vs : List B.X) (r : Ref) → take m vs ≡ step_values B α [] s → Result n m r → ref_value B α vs r ≡ value B α s r
  value_is n m s vs r e h = sym (ref_take n m vs r h) ∙ ap (λ (x : List B.X). ref_value B α x r) e

-- variables that agree below n give the same values
module _ (B : Truth) (n : ℕ) (α β : ℕ → B.X) (h : (x : ℕ) → x < n → α x ≡ β x) where
  result_same : (m : ℕ) (vs : List B.X) (r : Ref) → Result n m r → ref_value B α vs r ≡ ref_value B β vs r
  result_same m vs Ref.low k = refl
  result_same m vs Ref.high k = refl
  result_same m vs (Ref.var x) k = h x k
  result_same m vs (Ref.step x) k = refl

  operand_same : (m : ℕ) (vs : List B.X) (r : Ref) → Operand n m r → ref_value B α vs r ≡ ref_value B β vs r
  operand_same m vs Ref.low k = refl
  operand_same m vs Ref.high k = refl
  operand_same m vs (Ref.var x) k = h x k
  operand_same m vs (Ref.step x) k = refl

  step_same : (m : ℕ) (vs : List B.X) (t : Step) → Operands n m t → step_value B α vs t ≡ step_value B β vs t
  step_same m vs (Step.and a b) k = ap₂ B.and (operand_same m vs a k.0) (operand_same m vs b k.1)
  step_same m vs (Step.or a b) k = ap₂ B.or (operand_same m vs a k.0) (operand_same m vs b k.1)
  step_same m vs (Step.not a) k = ap B.neg (operand_same m vs a k)

  snoc : (γ : ℕ → B.X) (m : ℕ) (g : ℕ → Step) → step_values B γ [] (tabulated (suc m) 0 g) ≡ step_values B γ [] (tabulated m 0 g) ++ (step_value B γ (step_values B γ [] (tabulated m 0 g)) (g m) ∷ [])
  snoc γ m g = ap (step_values B γ []) (tab_snoc m g) ∙ values_append B γ [] (tabulated m 0 g) (g m ∷ []) ∙ one_step B γ (step_values B γ [] (tabulated m 0 g)) (g m)

  steps_same : (m : ℕ) (g : ℕ → Step) → ((i : ℕ) → i < m → Operands n i (g i)) → step_values B α [] (tabulated m 0 g) ≡ step_values B β [] (tabulated m 0 g)
  steps_same zero g k = no_steps B α g ∙ sym (no_steps B β g)
  steps_same (suc m) g k =
      let e = steps_same m g (λ i l. k i (omega arith)) in
      snoc α m g ∙ ap₂ (λ (x : List B.X) (y : B.X). x ++ (y ∷ [])) e (step_same m (step_values B α [] (tabulated m 0 g)) (g m) (k m (omega arith)) ∙ ap (λ (x : List B.X). step_value B β x (g m)) e) ∙ sym (snoc β m g)

  pub value_same : (m : ℕ) (g : ℕ → Step) (r : Ref) → ((i : ℕ) → i < m → Operands n i (g i)) → Result n m r → value B α (tabulated m 0 g) r ≡ value B β (tabulated m 0 g) r
  value_same m g r k l = result_same m (step_values B α [] (tabulated m 0 g)) r l ∙ ap (λ (x : List B.X). ref_value B β x r) (steps_same m g k)
