-- The tests that `read` makes say what `WellFormed` and `Fits` say.
use Prim.Native.Nat.{ℕ, ◌^◌, ◌≤◌, ◌<◌}
use mathlib.Core.Path.{◌≡◌}
use lib.ListN.{length, get_or}
use Rattle.meaning.specs.Says.{Says, aye, nay}
use Rattle.meaning.specs.Formula.{Ref, Step}
use Rattle.meaning.specs.Reply.{Reply}
use Rattle.meaning.proofs.Says.{says_iff, says_and}
use Rattle.reply.specs.WellFormed.{vars, Result, Operand, Operands, WellFormed, Fits}
use Rattle.reply.specs.inner.Decode.{is_result, is_operand, are_operands, well_formed, fits}
use Rattle.reply.specs.inner.Promise.{ReadTests}
use Rattle.reply.proofs.Tests.{says_ne, says_every}
use Rattle.meaning.proofs.Numbers.{says_ltb, says_leb, says_eqb}

module _ (n m : ℕ) where
  result : (r : Ref) → Says (Result n m r) (is_result n m r)
  result Ref.low = aye tt
  result Ref.high = aye tt
  result (Ref.var x) = says_ltb x n
  result (Ref.step i) = says_ltb i m

  operand : (r : Ref) → Says (Operand n m r) (is_operand n m r)
  operand Ref.low = nay (λ h. h)
  operand Ref.high = nay (λ h. h)
  operand (Ref.var x) = says_ltb x n
  operand (Ref.step i) = says_ltb i m

  operands : (t : Step) → Says (Operands n m t) (are_operands n m t)
  operands (Step.and a b) = says_and (operand a) (operand b)
  operands (Step.or a b) = says_and (operand a) (operand b)
  operands (Step.not a) = operand a

module _ (r : Reply) where
  abbrev n : ℕ
  n = vars r.entries (length r.ins)

  abbrev m : ℕ
  m = length r.steps

  abbrev Clauses : Type 0
  Clauses =
      (0 < r.number)
      × ((r.number < 2 ^ 32)
      × ((r.fragment < 32)
      × ((0 < r.entries)
      × ((r.entries ≤ 32)
      × ((length r.v ≡ r.entries)
      × ((length r.d ≡ r.entries)
      × ((length r.ins < 32)
      × (((i : ℕ) → i < length r.ins → (r.fragment < get_or r.ins i 0) × (get_or r.ins i 0 < 32))
      × (((i : ℕ) → i < length r.ins → (j : ℕ) → j < i → get_or r.ins j 0 ≡ get_or r.ins i 0 → ⊥)
      × ((length r.steps ≤ 4096)
      × (((i : ℕ) → i < length r.steps → Operands n i (get_or r.steps i (Step.not Ref.low)))
      × (((e : ℕ) → e < r.entries → Result n m (get_or r.v e Ref.low))
      × ((e : ℕ) → e < r.entries → Result n m (get_or r.d e Ref.low))))))))))))))

  clauses : Says Clauses (well_formed r)
  unfolding well_formed
  clauses =
      says_and (says_ltb 0 r.number) (says_and (says_ltb r.number (2 ^ 32)) (says_and (says_ltb r.fragment 32) (says_and (says_ltb 0 r.entries) (says_and (says_leb r.entries 32)
      (says_and (says_eqb (length r.v) r.entries) (says_and (says_eqb (length r.d) r.entries) (says_and (says_ltb (length r.ins) 32)
      (says_and (says_every (λ i. (r.fragment < get_or r.ins i 0) × (get_or r.ins i 0 < 32)) _ (length r.ins) (λ i l. says_and (says_ltb r.fragment (get_or r.ins i 0)) (says_ltb (get_or r.ins i 0) 32)))
      (says_and
      (says_every (λ i. (j : ℕ) → j < i → get_or r.ins j 0 ≡ get_or r.ins i 0 → ⊥) _ (length r.ins)
      (λ i l. says_every (λ j. get_or r.ins j 0 ≡ get_or r.ins i 0 → ⊥) _ i (λ j d. says_ne (get_or r.ins j 0) (get_or r.ins i 0))))
      (says_and (says_leb m 4096)
      (says_and (says_every (λ i. Operands n i (get_or r.steps i (Step.not Ref.low))) _ m (λ i l. operands n i (get_or r.steps i (Step.not Ref.low))))
      (says_and (says_every (λ e. Result n m (get_or r.v e Ref.low)) _ r.entries (λ e l. result n m (get_or r.v e Ref.low)))
      (says_every (λ e. Result n m (get_or r.d e Ref.low)) _ r.entries (λ e l. result n m (get_or r.d e Ref.low)))))))))))))))

  formed : Clauses → WellFormed r
  formed h =
      let t = h.1.1.1.1.1 in
      let u = t.1.1.1.1.1 in
      record {
        asked = h.0;
        number_fits = h.1.0;
        fragment_fits = h.1.1.0;
        some_entry = h.1.1.1.0;
        few_entries = h.1.1.1.1.0;
        v_all = t.0;
        d_all = t.1.0;
        few_ins = t.1.1.0;
        ins_fit = t.1.1.1.0;
        ins_differ = t.1.1.1.1.0;
        few_steps = u.0;
        operands = u.1.0;
        v_good = u.1.1.0;
        d_good = u.1.1.1;
      }

  told : WellFormed r → Clauses
  told g = (g.asked, (g.number_fits, (g.fragment_fits, (g.some_entry, (g.few_entries, (g.v_all, (g.d_all, (g.few_ins, (g.ins_fit, (g.ins_differ, (g.few_steps, (g.operands, (g.v_good, g.d_good)))))))))))))

  pub says_formed : Says (WellFormed r) (well_formed r)
  says_formed = says_iff formed told clauses

  pub says_fits : (w : ℕ) → Says (Fits w r) (fits w r)
  unfolding fits
  says_fits w =
      says_iff (λ (h : (vars r.entries (length r.ins) ≤ 2 ^ w) × (length r.steps ≤ 2 ^ w)). record { vars_fit = h.0; steps_fit = h.1 }) (λ g. (g.vars_fit, g.steps_fit))
      (says_and (says_leb (vars r.entries (length r.ins)) (2 ^ w)) (says_leb (length r.steps) (2 ^ w)))

pub read_tests : ReadTests
read_tests w r = (says_formed r, says_fits r w)
