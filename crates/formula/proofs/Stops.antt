-- WHAT A CALL LEAVES, from what the calls in it left: `Gives` and `Does` along an equation, and after a step that did not fit.
use Prim.Native.Nat.{ℕ, ◌+◌, ◌*◌, ◌≤◌}
use native.Mathlib.Omega.{arith}
use mathlib.Core.Path.{◌≡◌, ap, ◌∙◌, subst}
use lib.ListN.{get_or}
use mathlib.Core.Bool.{false≢true}
use Rattle.std.specs.Prelude.{Result, Ok, Err}
use Rattle.std.specs.Result.{IsErr}
use Rattle.formula.specs.declared.TooMany.{TooMany}
use Rattle.formula.specs.declared.Memory.{Memory}
use Rattle.formula.specs.inner.Flat.{St, Got, join_f, put_vd, then_d}
use Rattle.formula.specs.inner.Memory.{Room, Same, Gives, Does}

pub gives_along : {g h : Got} (m : Memory) (r : Result ℕ TooMany) → g ≡ h → Gives g m r → Gives h m r
gives_along m r e k = subst (λ g. Gives g m r) e k

pub does_along : {A : Type 0} {s z : St} (m : Memory) (r : Result A TooMany) → s ≡ z → Does s m r → Does z m r
does_along m r e k = subst (λ s. Does s m r) e k

pub does_stop : {A : Type 0} (s : St) (m : Memory) (r : Result A TooMany) {P : Type 0} → IsErr r × P → s.steps ≡ 4097 → Does s m r
does_stop s m (Ok u) q k = absurd (false≢true q.0)
does_stop s m (Err e) q k = k

-- an entry's D, from its V
module _ (size at e : ℕ) {size' : ℕ} {g h : Got} (same : size' ≡ size) (left : h ≡ g) where
  pub then_stops : (join_f size' 1 h.code (get_or h.mem (2 * size + at + e) 0) h.mem h.steps).steps ≡ 4097 → (then_d size at e g).steps ≡ 4097
  then_stops k = subst (λ g. (then_d size at e g).steps ≡ 4097) left (subst (λ z. (join_f z 1 h.code (get_or h.mem (2 * size + at + e) 0) h.mem h.steps).steps ≡ 4097) same k)

  pub then_is : {j : Got} → j ≡ join_f size' 1 h.code (get_or h.mem (2 * size + at + e) 0) h.mem h.steps → put_vd size at e h.code j ≡ then_d size at e g
  then_is q = ap (put_vd size at e h.code) (q ∙ ap (λ z. join_f z 1 h.code (get_or h.mem (2 * size + at + e) 0) h.mem h.steps) same) ∙ ap (then_d size at e) left

pub room_of : (m : Memory) → Room m
room_of m = record { room = m.room; count = m.count }

pub room_kept : (m m' : Memory) → Room m → Same m m' → m'.steps ≤ 4096 → Room m'
room_kept m m' r s k = record { room = omega (arith, r.room, s.1, s.2); count = k }
