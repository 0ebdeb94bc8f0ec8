-- A register in one box: the joined register is the fragment's own tree.
use Prim.Native.Nat.{ℕ, zero, suc, ◌≤◌, ◌<◌}
use native.Mathlib.Omega.{arith}
use mathlib.Core.Path.{◌≡◌, refl, sym, ap, ◌∙◌, subst}
use mathlib.Core.Bool.{false, cond, true≢false}
use mathlib.Core.Logic.{inl, inr, ◌↔◌}
use mathlib.Core.List.{[], ◌∷◌, ◌++◌}
use lib.ListN.{length}
use Rattle.meaning.specs.Bytes.{Bytes}
use Rattle.meaning.specs.Tree.{Tree, Below}
use Rattle.meaning.specs.Term.{Term, Means}
use Rattle.meaning.specs.Fragment.{Fragment, Sound, row_count, rows_of, ChildRow, alone, NoStandIn}
use Rattle.meaning.specs.Reply.{stand_ins}
use Rattle.meaning.specs.Register.{Register, Cut, JoinedChild, joined}

-- a tree that lies in another, with all children, has the same meanings there
module _ (s t : Tree) (at : s.N → t.N) (forth : (u v : s.N) → s.Child u v → t.Child (at u) (at v))
    (back : (u : s.N) (w : t.N) → t.Child (at u) w → (v : s.N) × s.Child u v × (at v ≡ w))
    (labels : (w : Bytes) (u : s.N) → s.label? w u ≡ t.label? w (at u)) (texts : (w : Bytes) (u : s.N) → s.text? w u ≡ t.text? w (at u)) where
  below_forth : {u v : s.N} → Below s u v → Below t (at u) (at v)
  below_forth Below.here = Below.here
  below_forth (Below.down {u} {w} {v} c b) = Below.down (forth u w c) (below_forth b)

  below_back : {x w : t.N} → Below t x w → (u : s.N) → at u ≡ x → (v : s.N) × Below s u v × (at v ≡ w)
  below_back Below.here u e = (u, Below.here, e)
  below_back (Below.down {w = y} c b) u e =
      let k = back u y (subst (λ z. t.Child z y) (sym e) c) in
      let r = below_back b k.0 k.2 in
      (r.0, Below.down k.1 r.1, r.2)

  mutual
    unfolding Means

    pub means_there : (q : Term Bytes) (u : s.N) → Means s q u → Means t q (at u)
    means_there Term.self u m = tt
    means_there (Term.label w) u m = sym (labels w u) ∙ m
    means_there (Term.text w) u m = sym (texts w u) ∙ m
    means_there (Term.child q) u m = (at m.0, forth u m.0 m.1, means_there q m.0 m.2)
    means_there (Term.at p q) u m = (means_there p u m.0, means_there q u m.1)
    means_there (Term.lower q) u m = (at m.0, below_forth m.1, means_there q m.0 m.2)
    means_there (Term.or p q) u (inl m) = inl (means_there p u m)
    means_there (Term.or p q) u (inr m) = inr (means_there q u m)
    means_there (Term.and p q) u m = (means_there p u m.0, means_there q u m.1)
    means_there (Term.not q) u m = λ k. m (means_here q u k)

    pub means_here : (q : Term Bytes) (u : s.N) → Means t q (at u) → Means s q u
    means_here Term.self u m = tt
    means_here (Term.label w) u m = labels w u ∙ m
    means_here (Term.text w) u m = texts w u ∙ m
    means_here (Term.child q) u m = let k = back u m.0 m.1 in (k.0, k.1, means_here q k.0 (subst (Means t q) (sym k.2) m.2))
    means_here (Term.at p q) u m = (means_here p u m.0, means_here q u m.1)
    means_here (Term.lower q) u m = let k = below_back m.1 u refl in (k.0, k.1, means_here q k.0 (subst (Means t q) (sym k.2) m.2))
    means_here (Term.or p q) u (inl m) = inl (means_here p u m)
    means_here (Term.or p q) u (inr m) = inr (means_here q u m)
    means_here (Term.and p q) u m = (means_here p u m.0, means_here q u m.1)
    means_here (Term.not q) u m = λ k. m (means_there q u k)

-- a layout of one fragment
abbrev pub boxed : Fragment → Register
boxed F = record { layout = 255 ∷ []; fragment = λ f. F }

module _ (F : Fragment) (sound : Sound 0 F) (none : NoStandIn F) where
  real_row : (k : ℕ) → k ≤ (rows_of F).last → (rows_of F).stands k ≡ false
  real_row k h = none k (omega (arith, h, sound.some_row))

  no_ins_before : (k : ℕ) → k ≤ row_count F → length (stand_ins (rows_of F) k) ≡ 0
  unfolding stand_ins
  no_ins_before zero h = refl
  no_ins_before (suc k) h = ap (λ b. length (cond b (stand_ins (rows_of F) k ++ ((rows_of F).goes k ∷ [])) (stand_ins (rows_of F) k))) (none k (omega arith)) ∙ no_ins_before k (omega arith)

  pub no_ins : length (stand_ins (rows_of F) (suc (rows_of F).last)) ≡ 0
  no_ins = no_ins_before (suc (rows_of F).last) (omega (arith, sound.some_row))

  pub boxed_cut : Cut (boxed F)
  boxed_cut = record {
    layout = record { some_part = omega arith; most = omega arith; top = refl; falling = λ k a b. absurd (omega arith) };
    sound = λ f h. subst (λ z. Sound z F) (zeroth f h) sound;
    has = λ g a b. absurd (omega arith);
    only = λ f k g h s. absurd (true≢false (sym s.stands ∙ real_row k s.inside));
  }
    where
      zeroth : (f : ℕ) → f < 1 → 0 ≡ f
      zeroth f h = omega arith

  abbrev place : ℕ → ℕ × ℕ
  place k = (0, k)

  in_place : (k : ℕ) → k ≤ (rows_of F).last → cond ((rows_of F).stands k) ((rows_of F).goes k, 0) (0, k) ≡ place k
  in_place k h = ap (λ b. cond b ((rows_of F).goes k, 0) (0, k)) (real_row k h)

  forth : (u v : ℕ) → ChildRow (rows_of F) u v → JoinedChild (boxed F) (place u) (place v)
  forth u v c = record { row = v; part = omega arith; lower = c.lower; inside = c.inside; under = c.under; is = in_place v c.inside }

  back : (u : ℕ) (w : ℕ × ℕ) → JoinedChild (boxed F) (place u) w → (v : ℕ) × ChildRow (rows_of F) u v × (place v ≡ w)
  back u w c = (c.row, record { lower = c.lower; inside = c.inside; under = c.under }, sym (in_place c.row c.inside) ∙ c.is)

  pub alone_joined : (q : Term Bytes) → Means (joined (boxed F)) q (0, 0) ↔ Means (alone (rows_of F)) q 0
  alone_joined q = (means_here (alone (rows_of F)) (joined (boxed F)) place forth back (λ w u. refl) (λ w u. refl) q 0, means_there (alone (rows_of F)) (joined (boxed F)) place forth back (λ w u. refl) (λ w u. refl) q 0)
