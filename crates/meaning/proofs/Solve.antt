-- SOLVING FROM THE HIGHEST FRAGMENT DOWN: waiting while one is unheard; right at every fragment, of lawful replies all heard.
use Prim.Native.Nat.{ℕ, zero, suc, ◌+◌, ◌-◌, ◌*◌, ◌≤◌, ◌<◌}
use native.Mathlib.Omega.{arith}
use native.Mathlib.Decide.{ℕ_discrete}
use mathlib.Core.Path.{◌≡◌, refl, sym, ap, ◌∙◌, subst}
use mathlib.Core.Bool.{Bool, true, false, ◌&&◌, cond}
use mathlib.Core.Option.{Option, some}
use mathlib.Core.List.{List, [], ◌∷◌}
use lib.ListN.{length, get_or}
use Rattle.meaning.specs.Algebra.{Truth, bool}
use Rattle.meaning.specs.Reply.{Reply}
use Rattle.meaning.specs.Solve.{Values, assign, here_of, lower_of, solved, solve, no_values, waiting, said, is_heard, all_heard, outcome}
use Rattle.meaning.specs.Lawful.{Right, Lawful}
use Rattle.meaning.specs.Promise.{Waits, Solves}
use Rattle.std.proofs.lemmas.Bool.{lt-ltb, le-ltb}
use Rattle.std.proofs.Math.Bool.{and-false}
use Rattle.meaning.proofs.Numbers.{upd_same, upd_other}

-- THE VARIABLES of the stand-in at position p
module _ (B : Truth) (n : ℕ) where
  pub assign_v : (l : List ℕ) (S : Values B.X) (p e : ℕ) → p < length l → e < n → assign B n l S (p * (2 * n) + e) ≡ S.v (get_or l p 0) e
  unfolding assign
  assign_v [] S p e k h = absurd (omega arith)
  assign_v (g ∷ l) S zero e k h = let z : zero * (2 * n) + e ≡ e = omega arith in rw (z, lt-ltb e n h) refl
  assign_v (g ∷ l) S (suc p) e k h =
      let x = suc p * (2 * n) + e in
      let z : x - 2 * n ≡ p * (2 * n) + e = omega arith in
      rw (le-ltb x n (omega arith), le-ltb x (2 * n) (omega arith), z) (assign_v l S p e (omega arith) h)

  pub assign_d : (l : List ℕ) (S : Values B.X) (p e : ℕ) → p < length l → e < n → assign B n l S (p * (2 * n) + (n + e)) ≡ S.d (get_or l p 0) e
  unfolding assign
  assign_d [] S p e k h = absurd (omega arith)
  assign_d (g ∷ l) S zero e k h =
      let z : zero * (2 * n) + (n + e) ≡ n + e = omega arith in
      let y : n + e - n ≡ e = omega arith in
      rw (z, le-ltb (n + e) n (omega arith), lt-ltb (n + e) (2 * n) (omega arith), y) refl
  assign_d (g ∷ l) S (suc p) e k h =
      let x = suc p * (2 * n) + (n + e) in
      let z : x - 2 * n ≡ p * (2 * n) + (n + e) = omega arith in
      rw (le-ltb x n (omega arith), le-ltb x (2 * n) (omega arith), z) (assign_d l S p e (omega arith) h)

-- ALL HEARD
all_heard_lem : (heard : ℕ → Option Reply) (k : ℕ) → ((f : ℕ) → f < k → is_heard (heard f) ≡ true) → all_heard heard k ≡ true
unfolding all_heard
all_heard_lem heard zero h = refl
all_heard_lem heard (suc k) h = rw (h k (omega arith), all_heard_lem heard k (λ f x. h f (omega arith))) refl

one_unheard : (heard : ℕ → Option Reply) (k f : ℕ) → f < k → is_heard (heard f) ≡ false → all_heard heard k ≡ false
unfolding all_heard
one_unheard heard zero f h e = absurd (omega arith)
one_unheard heard (suc k) f h e = go (ℕ_discrete f k) (λ x. one_unheard heard k f x e)
  where
    go : Dec (f ≡ k) → (f < k → all_heard heard k ≡ false) → is_heard (heard k) && all_heard heard k ≡ false
    go (yes p) r = ap (λ b. b && all_heard heard k) (ap (λ j. is_heard (heard j)) (sym p) ∙ e)
    go (no p) r = ap (λ b. is_heard (heard k) && b) (r (omega arith)) ∙ and-false (is_heard (heard k))

pub waits : Waits
unfolding outcome
waits n parts heard f h e = ap (λ b. cond b (said ((solve bool n heard parts (no_values bool n)).v 0 (n - 1))) waiting) (one_unheard heard parts f h (ap is_heard e))

-- LAWFUL REPLIES, ALL HEARD
module _ (Here Lower : ℕ → ℕ → Type 0) (n parts : ℕ) (heard : ℕ → Option Reply) (all : (f : ℕ) → f < parts → (r : Reply) × (heard f ≡ some r) × Lawful Here Lower n parts f r) where
  RightIn : Values Bool → ℕ → Type 0
  RightIn S f = Right Here Lower n f (S.v f) (S.d f)

  solved_right : (k : ℕ) → k < parts → (S : Values Bool) → ((f : ℕ) → suc k ≤ f → f < parts → RightIn S f) → (f : ℕ) → k ≤ f → f < parts → RightIn (solved bool n (heard k) k S) f
  unfolding RightIn
  solved_right k b S h f x y = subst (λ o. RightIn (solved bool n o k S) f) (sym (all k b).1) (go (ℕ_discrete f k))
    where
      r : Reply
      r = (all k b).0

      law : Lawful Here Lower n parts k r
      law = (all k b).2

      own : Right Here Lower n k (here_of bool n r S) (lower_of bool n r S)
      own = law.right S (λ g i. h g (law.onward g i).0 (law.onward g i).1)

      go : Dec (f ≡ k) → RightIn (solved bool n (some r) k S) f
      go (yes e) = rw (e, upd_same S.v k (here_of bool n r S), upd_same S.d k (lower_of bool n r S)) own
      go (no e) = rw (upd_other S.v k (here_of bool n r S) f e, upd_other S.d k (lower_of bool n r S) f e) (h f (omega arith) y)

  solve_right : (k : ℕ) → k ≤ parts → (S : Values Bool) → ((f : ℕ) → k ≤ f → f < parts → RightIn S f) → (f : ℕ) → f < parts → RightIn (solve bool n heard k S) f
  unfolding solve
  solve_right zero b S h f y = h f (omega arith) y
  solve_right (suc k) b S h f y = solve_right k (omega arith) (solved bool n (heard k) k S) (λ g x z. solved_right k b S h g x z) f y

  pub all_right : (f : ℕ) → f < parts → Right Here Lower n f ((solve bool n heard parts (no_values bool n)).v f) ((solve bool n heard parts (no_values bool n)).d f)
  unfolding RightIn
  all_right = solve_right parts (omega arith) (no_values bool n) (λ f x y. absurd (omega arith))

pub solves : Solves
unfolding outcome
solves Here Lower n parts a b heard all = (
  (solve bool n heard parts (no_values bool n)).v 0 (n - 1),
  ap (λ b. cond b (said ((solve bool n heard parts (no_values bool n)).v 0 (n - 1))) waiting) (all_heard_lem heard parts (λ f h. ap is_heard (all f h).1)),
  (all_right Here Lower n parts heard all 0 b (n - 1) (omega arith)).0,
)
