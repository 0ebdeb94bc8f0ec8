-- The joined register: its rows are real, each has the parent that 01 means, and each fragment has its place there.
use Prim.Native.Nat.{ℕ, zero, suc, ◌+◌, ◌-◌, ◌*◌, ◌≤◌, ◌<◌}
use native.Mathlib.Omega.{arith}
use native.Mathlib.Decide.{dec_lt}
use native.Mathlib.Nat.{zero-add, add-zero, suc-add, add-suc}
use mathlib.Core.Path.{◌≡◌, refl, sym, ap, ap₂, ◌∙◌, subst}
use mathlib.Core.Bool.{Bool, true, false, ◌&&◌, cond, false≢true}
use mathlib.Core.Logic.{◌≢◌}
use mathlib.Core.List.Memᴰ
use mathlib.Core.List.{List, [], ◌∷◌, Memᴰ}
use lib.ListN.{length, get_or}
use lib.Dec.{eqb, ltb}
use Rattle.meaning.specs.Bytes.{Bytes, label_is, text_is}
use Rattle.meaning.specs.Fragment.{Fragment, num, StandIn, Rows}
use Rattle.meaning.specs.Reply.{stand_ins}
use Rattle.meaning.specs.Register.{parent_of, numbered, children_of, Register, parts, rows_in, StandsFor, Cut, place, JoinedChild, joined, RealIn, Parent}
use Rattle.meaning.specs.Promise.{ChildIsReal, ParentIs, OneParent, OneStandIn, Children}
use Rattle.meaning.proofs.Says.{some}
use Rattle.meaning.proofs.Tree.{Finite}
use Rattle.std.proofs.lemmas.Bool.{eq-eqb, eqb-true, lt-ltb, ltb-true}
use Rattle.meaning.proofs.Placed.{ups, Placed}
use Rattle.meaning.proofs.Gather.{gather, gather_some, gather_has, gathered, Gathered}
use Rattle.meaning.proofs.Fragment.{Upright, stand_in, row_inside, sound_upright}
use Rattle.meaning.proofs.Reply.{Stood, stood, stands_in}

pub and_both : (a b : Bool) → a && b ≡ true → (a ≡ true) × (b ≡ true)
and_both true b e = (refl, e)
and_both false b e = absurd (false≢true e)

module _ (G : Register) where
  pub place_real : (f k : ℕ) → (rows_in G f).stands k ≡ false → place G f k ≡ (f, k)
  place_real f k e = ap (λ b. cond b ((rows_in G f).goes k, 0) (f, k)) e

  pub place_stands : (f k g : ℕ) → StandsFor G f k g → place G f k ≡ (g, 0)
  place_stands f k g s = ap (λ b. cond b ((rows_in G f).goes k, 0) (f, k)) s.stands ∙ ap (λ g. (g, 0)) s.goes

  standing : (f k : ℕ) → k ≤ (rows_in G f).last → (rows_in G f).stands k ≡ true → StandsFor G f k ((rows_in G f).goes k)
  standing f k h e = record { inside = h; stands = e; goes = refl }

  module _ (c : Cut G) where
    pub upright : (f : ℕ) → f < parts G → Upright (rows_in G f)
    upright f h = sound_upright f (G.fragment f) (c.sound f h)

    -- a fragment is cut from one below it in number
    pub onward : (f k g : ℕ) → f < parts G → StandsFor G f k g → (f < g) × (g < parts G)
    onward f k g h s =
        let o = c.only f k g h s in
        (omega (arith, o.2, c.layout.falling g o.0 o.1), o.1)

    top_real : (f : ℕ) → f < parts G → (rows_in G f).stands 0 ≡ false
    top_real f h = (upright f h).real

    below_top : (f k g : ℕ) → f < parts G → StandsFor G f k g → 0 < k
    below_top f zero g h s = absurd (false≢true (sym (top_real f h) ∙ s.stands))
    below_top f (suc k) g h s = omega arith

    -- A CHILD IS REAL
    real_child : (u v : ℕ × ℕ) → JoinedChild G u v → RealIn G v
    real_child u v j = subst (RealIn G) j.is (go ((rows_in G u.0).stands j.row) refl)
      where
        f : ℕ
        f = u.0

        go : (b : Bool) → (rows_in G f).stands j.row ≡ b → RealIn G (cond b ((rows_in G f).goes j.row, 0) (f, j.row))
        go true e =
            let g = (onward f j.row ((rows_in G f).goes j.row) j.part (standing f j.row j.inside e)).1 in
            (g, omega arith, top_real ((rows_in G f).goes j.row) g)
        go false e = (j.part, j.inside, e)

    -- THE NUMBER THAT FALLS: later fragments first, then later rows
    rank : ℕ × ℕ → ℕ
    rank u = (parts G - u.0) * 512 + (512 - u.1)

    falls : (u v : ℕ × ℕ) → JoinedChild G u v → rank v < rank u
    unfolding rank
    falls u v j = subst (λ z. rank z < rank u) j.is (go ((rows_in G f).stands j.row) refl)
      where
        f : ℕ
        f = u.0

        small : (rows_in G f).last < 512
        small = omega (arith, (c.sound f j.part).rows_most, (c.sound f j.part).some_row)

        up : u.1 < j.row
        up = omega (arith, j.under, (upright f j.part).parents j.row j.lower j.inside)

        go : (b : Bool) → (rows_in G f).stands j.row ≡ b → rank (cond b ((rows_in G f).goes j.row, 0) (f, j.row)) < rank u
        go true e = omega (arith, up, j.inside, small, onward f j.row ((rows_in G f).goes j.row) j.part (standing f j.row j.inside e))
        go false e = omega (arith, up, j.inside, small)

    kid_test : ℕ × ℕ → ℕ → Bool
    kid_test u k = ltb u.0 (parts G) && eqb ((rows_in G u.0).parent k) u.1

    kid : (u v : ℕ × ℕ) → Gathered (kid_test u) (place G u.0) (rows_in G u.0).last 1 v → JoinedChild G u v
    unfolding kid_test
    kid u v g =
        let t = and_both (ltb u.0 (parts G)) (eqb ((rows_in G u.0).parent g.row) u.1) g.passes in
        record { row = g.row; part = ltb-true u.0 (parts G) t.0; lower = g.low; inside = omega (arith, g.high); under = eqb-true ((rows_in G u.0).parent g.row) u.1 t.1; is = g.is }

    pub joined_finite : Finite (joined G)
    unfolding kid_test
    joined_finite = record {
      kids = λ u. gather (kid_test u) (place G u.0) (rows_in G u.0).last 1;
      rank = rank;
      listed = λ u v j. subst (λ z. Memᴰ z (gather (kid_test u) (place G u.0) (rows_in G u.0).last 1)) j.is
          (gather_has (kid_test u) (place G u.0) j.row (rows_in G u.0).last 1 j.lower (omega (arith, j.inside)) (ap₂ ◌&&◌ (lt-ltb u.0 (parts G) j.part) (ap (λ p. eqb p u.1) j.under ∙ eq-eqb u.1 u.1 refl)));
      child = λ u v i. kid u v (gathered (kid_test u) (place G u.0) v (rows_in G u.0).last 1 i);
      falls = λ u v i. falls u v (kid u v (gathered (kid_test u) (place G u.0) v (rows_in G u.0).last 1 i));
    }

    -- EVERY FRAGMENT HAS ITS PLACE
    pub joined_placed : (f : ℕ) → f < parts G → Placed joined_finite (rows_in G f) (place G f)
    unfolding joined_finite kid_test
    joined_placed f h = record {
      real = (upright f h).real;
      parents = (upright f h).parents;
      label_agrees = λ k i e w. ap (λ u. label_is w ((rows_in G u.0).label u.1)) (sym (place_real f k e));
      text_agrees = λ k i e w. ap (λ u. text_is w ((rows_in G u.0).text u.1)) (sym (place_real f k e));
      kids_are = λ k i e p. ap (λ u. some p (joined_finite.kids u)) (place_real f k e) ∙ gather_some (kid_test (f, k)) (place G f) p (rows_in G f).last 1
          ∙ ap (λ b. ups (rows_in G f).last 1 (λ c. (b && eqb ((rows_in G f).parent c) k) && p (place G f c))) (lt-ltb f (parts G) h);
    }

    -- ONE STAND-IN FOR EACH FRAGMENT
    same_row : (f : ℕ) → f < parts G → (k k' g : ℕ) → StandsFor G f k g → StandsFor G f k' g → (k < k' → ⊥)
    same_row f h k k' g s s' l = rule.new k l (eqb-true (num F k 1) 1 s.stands) (s.goes ∙ sym s'.goes)
      where
        F : Fragment
        F = G.fragment f

        rule : StandIn f F k'
        rule = stand_in f F k' ((c.sound f h).each k' (row_inside f F (c.sound f h) k' s'.inside)) (eqb-true (num F k' 1) 1 s'.stands)

    one : (f k f' k' g : ℕ) → f < parts G → f' < parts G → StandsFor G f k g → StandsFor G f' k' g → (f ≡ f') × (k ≡ k')
    one f k f' k' g h h' s s' = (same, go (dec_lt k k') (dec_lt k' k))
      where
        same : f ≡ f'
        same = sym (c.only f k g h s).2 ∙ (c.only f' k' g h' s').2

        mine : StandsFor G f k' g
        mine = subst (λ x. StandsFor G x k' g) (sym same) s'

        go : Dec (k < k') → Dec (k' < k) → k ≡ k'
        go (yes a) b = absurd (same_row f h k k' g s mine a)
        go (no a) (yes b) = absurd (same_row f h k' k g mine s b)
        go (no a) (no b) = omega arith

    -- PARENTS
    parent_part : (g : ℕ) → 0 < g → g < parts G → parent_of G.layout g < parts G
    parent_part g a b = omega (arith, c.layout.falling g a b)

    up_child : (g s : ℕ) → RealIn G (g, s) → (u : ℕ × ℕ) → Parent G g s u → JoinedChild G u (g, s)
    unfolding Parent
    up_child g (suc s) r u p = subst (λ u. JoinedChild G u (g, suc s)) (sym p) (record { row = suc s; part = r.0; lower = omega arith; inside = r.1; under = refl; is = place_real g (suc s) r.2 })
    up_child zero zero r u p = absurd p
    up_child (suc g) zero r u p = subst (λ u. JoinedChild G u (suc g, 0)) (sym p.2) (record { row = k; part = h; lower = below_top f k (suc g) h p.1; inside = p.1.inside; under = refl; is = place_stands f k (suc g) p.1 })
      where
        f : ℕ
        f = parent_of G.layout (suc g)

        k : ℕ
        k = p.0

        h : f < parts G
        h = parent_part (suc g) (omega arith) r.0

    child_up : (u v : ℕ × ℕ) → JoinedChild G u v → Parent G v.0 v.1 u
    unfolding Parent
    child_up u v j = subst (λ v. Parent G v.0 v.1 u) j.is (go ((rows_in G f).stands j.row) refl)
      where
        f : ℕ
        f = u.0

        at_row : (k : ℕ) → 0 < k → (rows_in G f).parent k ≡ u.1 → Parent G f k u
        at_row zero a e = absurd (omega arith)
        at_row (suc k) a e = ap (λ x. (f, x)) (sym e)

        at_top : (g : ℕ) → 0 < g → StandsFor G f j.row g → parent_of G.layout g ≡ f → Parent G g 0 u
        at_top zero a s e = absurd (omega arith)
        at_top (suc g) a s e = (j.row, subst (λ p. StandsFor G p j.row (suc g)) (sym e) s, ap (λ x. (f, x)) (sym j.under) ∙ ap (λ p. (p, (rows_in G p).parent j.row)) (sym e))

        go : (b : Bool) → (rows_in G f).stands j.row ≡ b → Parent G (cond {A = ℕ × ℕ} b ((rows_in G f).goes j.row, 0) (f, j.row)).0 (cond {A = ℕ × ℕ} b ((rows_in G f).goes j.row, 0) (f, j.row)).1 u
        go true e =
            let s = standing f j.row j.inside e in
            let o = c.only f j.row ((rows_in G f).goes j.row) j.part s in
            at_top ((rows_in G f).goes j.row) o.0 s o.2
        go false e = at_row j.row j.lower j.under

    one_up : (g s : ℕ) → RealIn G (g, s) → ◌≢◌ {A = ℕ × ℕ} (g, s) (0, 0) → (u : ℕ × ℕ) × Parent G g s u × ((w : ℕ × ℕ) → Parent G g s w → w ≡ u)
    unfolding Parent
    one_up g (suc s) r n = ((g, (rows_in G g).parent (suc s)), refl, λ w e. e)
    one_up zero zero r n = absurd (n refl)
    one_up (suc g) zero r n = ((f, (rows_in G f).parent k), (k, s, refl), λ w p. p.2 ∙ ap (λ x. (f, (rows_in G f).parent x)) (one f p.0 f k (suc g) h h p.1 s).1)
      where
        f : ℕ
        f = parent_of G.layout (suc g)

        h : f < parts G
        h = parent_part (suc g) (omega arith) r.0

        k : ℕ
        k = (c.has (suc g) (omega arith) r.0).0

        s : StandsFor G f k (suc g)
        s = (c.has (suc g) (omega arith) r.0).1

-- THE CHILDREN OF A FRAGMENT in a layout
pub numbered_in : (k : ℕ) (l : Bytes) (i g : ℕ) → Memᴰ g (numbered k l i) → (j : ℕ) × (j < length l) × (g ≡ j + i) × (get_or l j 255 ≡ k)
unfolding numbered
numbered_in k [] i g m = absurd (Memᴰ.not-nil m)
numbered_in k (p ∷ l) i g m = go (eqb p k) refl (numbered_in k l (suc i) g) m
  where
    Found : Type 0
    Found = (j : ℕ) × (j < suc (length l)) × (g ≡ j + i) × (get_or (p ∷ l) j 255 ≡ k)

    later : (j : ℕ) × (j < length l) × (g ≡ j + suc i) × (get_or l j 255 ≡ k) → Found
    later x = (suc x.0, omega (arith, x.1), omega (arith, x.2), x.3)

    first : {m : List ℕ} → p ≡ k → (Memᴰ g m → (j : ℕ) × (j < length l) × (g ≡ j + suc i) × (get_or l j 255 ≡ k)) → Memᴰ g (i ∷ m) → Found
    first e h (Memᴰ.head x) = (0, omega arith, omega arith, e)
    first e h (Memᴰ.tail x) = later (h x)

    go : (b : Bool) → eqb p k ≡ b → (Memᴰ g (numbered k l (suc i)) → (j : ℕ) × (j < length l) × (g ≡ j + suc i) × (get_or l j 255 ≡ k)) → Memᴰ g (cond b (i ∷ numbered k l (suc i)) (numbered k l (suc i))) → Found
    go true e h x = first (eqb-true p k e) h x
    go false e h x = later (h x)

pub in_numbered : (k : ℕ) (l : Bytes) (i j : ℕ) → j < length l → get_or l j 255 ≡ k → Memᴰ (j + i) (numbered k l i)
unfolding numbered
in_numbered k [] i j h e = absurd (omega arith)
in_numbered k (p ∷ l) i zero h e = rw (e, eq-eqb k k refl) (Memᴰ.head (zero-add i))
in_numbered k (p ∷ l) i (suc j) h e = go (eqb p k) (subst (λ n. Memᴰ n (numbered k l (suc i))) (add-suc j i ∙ sym (suc-add j i)) (in_numbered k l (suc i) j (omega arith) e))
  where
    go : (b : Bool) → Memᴰ (suc j + i) (numbered k l (suc i)) → Memᴰ (suc j + i) (cond b (i ∷ numbered k l (suc i)) (numbered k l (suc i)))
    go true x = Memᴰ.tail x
    go false x = x

pub child_is_real : ChildIsReal
child_is_real G c = real_child G c

pub parent_is : ParentIs
parent_is G c u v r = (child_up G c u v, up_child G c v.0 v.1 r u)

pub one_parent : OneParent
one_parent G c v r n = one_up G c v.0 v.1 r n

pub one_stand_in : OneStandIn
one_stand_in G c = one G c

pub children : Children
children G c f h g = (λ m. to (stood R (suc R.last) g m), λ m. from (numbered_in f G.layout 0 g m))
  where
    R : Rows
    R = rows_in G f

    to : Stood R (suc R.last) g → Memᴰ g (children_of G.layout f)
    to s =
        let o = c.only f s.row g h (record { inside = omega (arith, s.early); stands = s.stands; goes = s.goes }) in
        subst (λ n. Memᴰ n (children_of G.layout f)) (add-zero g) (in_numbered f G.layout 0 g o.1 o.2)

    from : (j : ℕ) × (j < length G.layout) × (g ≡ j + 0) × (parent_of G.layout j ≡ f) → Memᴰ g (stand_ins R (suc R.last))
    from x = subst (λ n. Memᴰ n (stand_ins R (suc R.last))) (sym (x.2 ∙ add-zero x.0)) (at x.0 x.1 x.3)
      where
        at : (j : ℕ) → j < parts G → parent_of G.layout j ≡ f → Memᴰ j (stand_ins R (suc R.last))
        at zero i e = absurd (omega (arith, e, c.layout.top, c.layout.most))
        at (suc j) i e =
            let s = c.has (suc j) (omega arith) i in
            stands_in R (suc R.last) (suc j) (subst (λ p. Stood (rows_in G p) (suc (rows_in G p).last) (suc j)) e (record { row = s.0; early = omega (arith, s.1.inside); stands = s.1.stands; goes = s.1.goes }))
