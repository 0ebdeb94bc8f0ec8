-- A ROW'S PART IN ITS PARENT, in memory as the run pushes it.
use Prim.Native.Nat.{ℕ, zero, suc, ◌+◌, ◌*◌, ◌<◌, ◌≤◌}
use native.Mathlib.Omega.{arith}
use mathlib.Core.Path.{◌≡◌, refl, ap, ◌∙◌}
use mathlib.Core.Bool.{true}
use mathlib.Core.List.{List}
use lib.ListN.{length, get_or, set}
use lib.Seq.{get_or-set_same, get_or-set_other}
use Rattle.meaning.specs.Formula.{Ref, Step, formula}
use Rattle.meaning.proofs.Formula.{join}
use Rattle.meaning.specs.Run.{Delivered, upd, push}
use Rattle.writing.specs.inner.Codes.{code}
use Rattle.formula.specs.inner.Flat.{St, Got, across, join_f, or_into, lift_f}
use Rattle.formula.proofs.Held.{Held, Sim, live, after, mapped, Gave, join_sim}
use Rattle.formula.proofs.Grows.{or_over, lift_over, across_over, join_grows, push_grows}
use Rattle.formula.proofs.Visits.{held_set, changed}

-- the number at i is the reference r's, and every other before the steps is as it was
record Put (size i : ℕ) (m m' : List ℕ) (s : List Step) (r : Ref) : Type 0 where
  held : Held size m' s
  stored : get_or m' i 0 ≡ code r
  same : (j : ℕ) → j < 4 * size → (j ≡ i → ⊥) → get_or m' j 0 ≡ get_or m j 0

or_sim : (size i j : ℕ) (z : St) (s : List Step) (a b : Ref) → i < 4 * size → z.steps ≡ length s → length s ≤ 4096 → Held size z.mem s → get_or z.mem i 0 ≡ code a → get_or z.mem j 0 ≡ code b
    → Sim (or_into size i j z).steps (join true s a b).0 (Put size i z.mem (or_into size i j z).mem (join true s a b).0 (join true s a b).1)
unfolding or_into
or_sim size i j z s a b inside counts most h p q = mapped put (join_sim size z.mem z.steps s counts most h true a b p q)
  where
    g : Got
    g = join_f size 1 (get_or z.mem i 0) (get_or z.mem j 0) z.mem z.steps

    put : Gave size z.mem g (join true s a b).0 (join true s a b).1 → Put size i z.mem (set g.mem i g.code) (join true s a b).0 (join true s a b).1
    put y = record {
      held = held_set size g.mem _ i g.code inside y.held;
      stored = get_or-set_same g.mem i g.code 0 (omega (arith, y.held.room)) ∙ y.coded;
      same = λ k u w. get_or-set_other g.mem i k g.code 0 w ∙ y.same k u;
    }

-- V and D of the row at `at`, C and D of its parent at `up`
record Pushing (size at up n : ℕ) (m : List ℕ) (s : List Step) (v d pc pd : ℕ → Ref) : Type 0 where
  held : Held size m s
  here : (e : ℕ) → e < n → get_or m (at + e) 0 ≡ code (v e)
  lower : (e : ℕ) → e < n → get_or m (2 * size + at + e) 0 ≡ code (d e)
  up_c : (e : ℕ) → e < n → get_or m (size + up + e) 0 ≡ code (pc e)
  up_d : (e : ℕ) → e < n → get_or m (2 * size + up + e) 0 ≡ code (pd e)

-- every number but the parent's C and D is as it was
abbrev pub Rest : ℕ → ℕ → ℕ → List ℕ → List ℕ → Type 0
Rest size up n m m' = (j : ℕ) → j < 4 * size → ((e : ℕ) → e < n → j ≡ size + up + e → ⊥) → ((e : ℕ) → e < n → j ≡ 2 * size + up + e → ⊥) → get_or m' j 0 ≡ get_or m j 0

pub record Pushed (size up n : ℕ) (m m' : List ℕ) (o : Delivered formula) : Type 0 where
  pub held : Held size m' o.st
  pub c : (e : ℕ) → e < n → get_or m' (size + up + e) 0 ≡ code (o.c e)
  pub d : (e : ℕ) → e < n → get_or m' (2 * size + up + e) 0 ≡ code (o.d e)
  pub rest : Rest size up n m m'

record Lifted (size at up n e : ℕ) (m m' : List ℕ) (s : List Step) (v d pc pd : ℕ → Ref) : Type 0 where
  going : Pushing size at up n m' s v d pc pd
  rest : Rest size up n m m'

module _ (size at up n : ℕ) (above : up + n ≤ at) (fits : at + n ≤ size) (v d : ℕ → Ref) where
  -- C becomes C or V, then D becomes D or this D
  lift_sim : (e : ℕ) (z : St) (s : List Step) (pc pd : ℕ → Ref) → e < n → z.steps ≡ length s → length s ≤ 4096 → Pushing size at up n z.mem s v d pc pd
      → Sim (lift_f size at up e z).steps (join true (join true s (pc e) (v e)).0 (pd e) (d e)).0
      (Lifted size at up n e z.mem (lift_f size at up e z).mem (join true (join true s (pc e) (v e)).0 (pd e) (d e)).0 v d
      (upd pc e (join true s (pc e) (v e)).1) (upd pd e (join true (join true s (pc e) (v e)).0 (pd e) (d e)).1))
  unfolding lift_f
  lift_sim e z s pc pd inside counts most h =
      after (or_sim size i₁ (at + e) z s (pc e) (v e) (omega arith) counts most h.held (h.up_c e inside) (h.here e inside))
      (λ a b p. mapped (lifted p)
      (or_sim size i₂ (2 * size + at + e) y x.0 (pd e) (d e) (omega arith) a b p.held (p.same i₂ (omega arith) (λ w. omega arith) ∙ h.up_d e inside) (p.same (2 * size + at + e) (omega arith) (λ w. omega arith) ∙ h.lower e inside)))
      (λ a. or_over size i₂ (2 * size + at + e) y a) (join_grows true x.0 (pd e) (d e))
    where
      i₁ : ℕ
      i₁ = size + up + e

      i₂ : ℕ
      i₂ = 2 * size + up + e

      y : St
      y = or_into size i₁ (at + e) z

      x : List Step × Ref
      x = join true s (pc e) (v e)

      w : List Step × Ref
      w = join true x.0 (pd e) (d e)

      lifted : Put size i₁ z.mem y.mem x.0 x.1 → {m' : List ℕ} → Put size i₂ y.mem m' w.0 w.1 → Lifted size at up n e z.mem m' w.0 v d (upd pc e x.1) (upd pd e w.1)
      lifted p {m'} q = record {
        going = record {
          held = q.held;
          here = λ i l. off (at + i) (omega arith) (λ u. omega arith) (λ u. omega arith) ∙ h.here i l;
          lower = λ i l. off (2 * size + at + i) (omega arith) (λ u. omega arith) (λ u. omega arith) ∙ h.lower i l;
          up_c = λ i l. changed pc e i x.1 (λ u. q.same (size + up + i) (omega arith) (λ k. omega arith) ∙ ap (λ i. get_or y.mem (size + up + i) 0) u ∙ p.stored) (λ u. off (size + up + i) (omega arith) (λ k. u (omega arith)) (λ k. omega arith) ∙ h.up_c i l);
          up_d = λ i l. changed pd e i w.1 (λ u. ap (λ i. get_or m' (2 * size + up + i) 0) u ∙ q.stored) (λ u. off (2 * size + up + i) (omega arith) (λ k. omega arith) (λ k. u (omega arith)) ∙ h.up_d i l);
        };
        rest = λ j l a b. off j l (a e inside) (b e inside);
      }
        where
          off : (j : ℕ) → j < 4 * size → (j ≡ i₁ → ⊥) → (j ≡ i₂ → ⊥) → get_or m' j 0 ≡ get_or z.mem j 0
          off j l a b = q.same j l b ∙ p.same j l a

  push_from : (r i : ℕ) → r + i ≡ n → (z : St) (s : List Step) (pc pd : ℕ → Ref) → z.steps ≡ length s → length s ≤ 4096 → Pushing size at up n z.mem s v d pc pd
      → Sim (across (lift_f size at up) i r z).steps (push formula v d r i s pc pd).st (Pushed size up n z.mem (across (lift_f size at up) i r z).mem (push formula v d r i s pc pd))
  unfolding across push
  push_from zero i sum z s pc pd counts most h = live counts most (record { held = h.held; c = h.up_c; d = h.up_d; rest = λ j l a b. refl })
  push_from (suc r) i sum z s pc pd counts most h =
      let x = join true s (pc i) (v i) in
      let y = join true x.0 (pd i) (d i) in
      after (lift_sim i z s pc pd (omega arith) counts most h)
      (λ a b p. mapped (λ o. record { held = o.held; c = o.c; d = o.d; rest = λ j l u w. o.rest j l u w ∙ p.rest j l u w })
      (push_from r (suc i) (omega arith) (lift_f size at up i z) y.0 (upd pc i x.1) (upd pd i y.1) a b p.going))
      (λ a. across_over (lift_f size at up) (λ i s h. lift_over size at up i s h) (suc i) r (lift_f size at up i z) a)
      (push_grows v d r (suc i) y.0 (upd pc i x.1) (upd pd i y.1))

  pub push_sim : (z : St) (s : List Step) (pc pd : ℕ → Ref) → z.steps ≡ length s → length s ≤ 4096 → Held size z.mem s
      → ((e : ℕ) → e < n → get_or z.mem (at + e) 0 ≡ code (v e)) → ((e : ℕ) → e < n → get_or z.mem (2 * size + at + e) 0 ≡ code (d e))
      → ((e : ℕ) → e < n → get_or z.mem (size + up + e) 0 ≡ code (pc e)) → ((e : ℕ) → e < n → get_or z.mem (2 * size + up + e) 0 ≡ code (pd e))
      → Sim (across (lift_f size at up) 0 n z).steps (push formula v d n 0 s pc pd).st (Pushed size up n z.mem (across (lift_f size at up) 0 n z).mem (push formula v d n 0 s pc pd))
  push_sim z s pc pd counts most h a b c e = push_from n 0 (omega arith) z s pc pd counts most (record { held = h; here = a; lower = b; up_c = c; up_d = e })
