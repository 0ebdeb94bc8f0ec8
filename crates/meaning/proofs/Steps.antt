-- THE STEPS OF ONE ROW: a row with constants only makes none; any other makes at most two for each entry when it is visited and two when it
-- is delivered.
use Prim.Native.Nat.{ℕ, zero, suc, ◌+◌, ◌*◌, ◌≤◌, ◌<◌}
use native.Mathlib.Omega.{arith}
use native.Mathlib.Decide.{ℕ_discrete}
use native.Mathlib.Nat.{le_refl}
use mathlib.Core.Path.{◌≡◌, refl, sym, subst}
use mathlib.Core.Bool.{Bool, true, false}
use mathlib.Core.Option.{Option, none, some}
use mathlib.Core.List.{List, [], ◌∷◌}
use lib.ListN.{length}
use Rattle.meaning.specs.Bytes.{Bytes}
use Rattle.meaning.specs.Entry.{Entry, Points, Earlier}
use Rattle.meaning.specs.Formula.{Ref, Step, constant, negated, formula}
use Rattle.meaning.specs.Run.{upd, literal, Vectors, value_of, visit, push}
use Rattle.meaning.proofs.Entry.{length_snoc}
use Rattle.meaning.proofs.Formula.{join, joins}
use Rattle.meaning.proofs.Numbers.{upd_same, upd_other}

-- CONSTANTS make no step
pub record Const (r : Ref) : Type 0 where
  pub bool : Bool
  pub is : constant r ≡ some bool

-- joining makes one step at most
one_more : (z : Bool) (s : List Step) (a b : Ref) → length (join z s a b).0 ≤ suc (length s)
one_more z s a b = joins s a b (λ o. length o.0 ≤ suc (length s)) z (λ e. omega arith) (λ e. omega arith) (λ e. omega arith) (λ e. omega arith) (λ e f. rw length_snoc (le_refl _))

some_none : {o : Option Bool} (b : Bool) → o ≡ some b → o ≡ none → ⊥
some_none b e f = let i : ◌≡◌ {A = ℕ} 0 1 = cc in omega arith

-- joined with a constant on the right, no step; with one on the left too, a constant
no_more : (z : Bool) (s : List Step) (a b : Ref) → Const b → length (join z s a b).0 ≤ length s
no_more z s a b c = joins s a b (λ o. length o.0 ≤ length s) z (λ e. le_refl _) (λ e. le_refl _) (λ e. le_refl _) (λ e. le_refl _) (λ e f. absurd (some_none c.bool c.is f))

join_const : (z : Bool) (s : List Step) (a b : Ref) → Const a → Const b → Const (join z s a b).1
join_const z s a b ca cb = joins s a b (λ o. Const o.1) z (λ e. ca) (λ e. cb) (λ e. cb) (λ e. ca) (λ e f. absurd (some_none ca.bool ca.is e))

pub low_const : Const Ref.low
low_const = record { bool = false; is = refl }

high_const : Const Ref.high
high_const = record { bool = true; is = refl }

neg_one_more : (s : List Step) (a : Ref) → length (negated s a).0 ≤ suc (length s)
neg_one_more s Ref.low = omega arith
neg_one_more s Ref.high = omega arith
neg_one_more s (Ref.var x) = rw length_snoc (le_refl _)
neg_one_more s (Ref.step i) = rw length_snoc (le_refl _)

-- a step or a variable is no constant
pub record Cold (n : ℕ) (f : ℕ → Ref) : Type 0 where
  pub each : (e : ℕ) → e < n → Const (f e)

neg_const : (s : List Step) (a : Ref) → Const a → (length (negated s a).0 ≤ length s) × Const (negated s a).1
neg_const s Ref.low c = (le_refl _, high_const)
neg_const s Ref.high c = (le_refl _, low_const)
neg_const s (Ref.var x) c = absurd (some_none c.bool c.is refl)
neg_const s (Ref.step i) c = absurd (some_none c.bool c.is refl)

literal_const : (b : Bool) → Const (literal formula b)
literal_const true = high_const
literal_const false = low_const

cold_upd : (n i : ℕ) (f : ℕ → Ref) (r : Ref) → ((e : ℕ) → e < n → (e ≡ i → ⊥) → Const (f e)) → Const r → Cold n (upd f i r)
cold_upd n i f r h c = record { each = λ e b. go e b (ℕ_discrete e i) }
  where
    go : (e : ℕ) → e < n → Dec (e ≡ i) → Const (upd f i r e)
    go e b (yes p) = subst (λ j. Const (upd f i r j)) (sym p) (rw upd_same c)
    go e b (no p) = rw (upd_other f i r e p) (h e b p)

cold_kept : (n i : ℕ) (f : ℕ → Ref) (r : Ref) → Cold n f → Const r → Cold n (upd f i r)
cold_kept n i f r h c = cold_upd n i f r (λ e b p. h.each e b) c

cold_snoc : (i : ℕ) (f : ℕ → Ref) (r : Ref) → Cold i f → Const r → Cold (suc i) (upd f i r)
cold_snoc i f r h c = cold_upd (suc i) i f r (λ e b p. h.each e (omega arith)) c

pub record ColdOut (n : ℕ) (s : List Step) (o : Vectors formula) : Type 0 where
  pub size : length o.st ≤ length s
  pub v : Cold n o.v
  pub d : Cold n o.d

-- ONE ROW
module _ (lab txt : Bytes → Bool) where
  value_size : (e : Entry Bytes) (s : List Step) (v c d : ℕ → Ref) → length (value_of formula lab txt e s v c d).0 ≤ suc (length s)
  value_size Entry.self s v c d = omega arith
  value_size (Entry.label w) s v c d = omega arith
  value_size (Entry.text w) s v c d = omega arith
  value_size (Entry.child q) s v c d = omega arith
  value_size (Entry.at p q) s v c d = one_more false s (v p) (v q)
  value_size (Entry.lower q) s v c d = omega arith
  value_size (Entry.or p q) s v c d = one_more true s (v p) (v q)
  value_size (Entry.and p q) s v c d = one_more false s (v p) (v q)
  value_size (Entry.not q) s v c d = neg_one_more s (v q)

  value_cold : (i n : ℕ) → i ≤ n → (e : Entry Bytes) → Points (λ w. Unit {0}) i e → (s : List Step) (v c d : ℕ → Ref) → Cold i v → Cold n c → Cold n d
      → (length (value_of formula lab txt e s v c d).0 ≤ length s) × Const (value_of formula lab txt e s v c d).1
  value_cold i n k Entry.self p s v c d hv hc hd = (le_refl _, high_const)
  value_cold i n k (Entry.label w) p s v c d hv hc hd = (le_refl _, literal_const (lab w))
  value_cold i n k (Entry.text w) p s v c d hv hc hd = (le_refl _, literal_const (txt w))
  value_cold i n k (Entry.child q) p s v c d hv hc hd = (le_refl _, hc.each q (omega arith))
  value_cold i n k (Entry.at a b) p s v c d hv hc hd = (no_more false s (v a) (v b) (hv.each b p.1), join_const false s (v a) (v b) (hv.each a p.0) (hv.each b p.1))
  value_cold i n k (Entry.lower q) p s v c d hv hc hd = (le_refl _, hd.each q (omega arith))
  value_cold i n k (Entry.or a b) p s v c d hv hc hd = (no_more true s (v a) (v b) (hv.each b p.1), join_const true s (v a) (v b) (hv.each a p.0) (hv.each b p.1))
  value_cold i n k (Entry.and a b) p s v c d hv hc hd = (no_more false s (v a) (v b) (hv.each b p.1), join_const false s (v a) (v b) (hv.each a p.0) (hv.each b p.1))
  value_cold i n k (Entry.not q) p s v c d hv hc hd = neg_const s (v q) (hv.each q p)

  pub visit_size : (c : ℕ → Ref) (l : List (Entry Bytes)) (i : ℕ) (s : List Step) (v d : ℕ → Ref) → length (visit formula lab txt c l i s v d).st ≤ length s + 2 * length l
  unfolding visit
  visit_size c [] i s v d = omega arith
  visit_size c (e ∷ l) i s v d =
      let a = value_of formula lab txt e s v c d in
      let b = join true a.0 a.1 (d i) in
      omega (arith, visit_size c l (suc i) b.0 (upd v i a.1) (upd d i b.1), one_more true a.0 a.1 (d i), value_size e s v c d)

  pub visit_cold : (n i : ℕ) (l : List (Entry Bytes)) → length l + i ≡ n → Earlier i l → (c : ℕ → Ref) (s : List Step) (v d : ℕ → Ref) → Cold n c → Cold i v → Cold n d → ColdOut n s (visit formula lab txt c l i s v d)
  unfolding visit
  visit_cold n i [] k w c s v d hc hv hd = record { size = le_refl _; v = record { each = λ e b. hv.each e (omega arith) }; d = hd }
  visit_cold n i (e ∷ l) k w c s v d hc hv hd =
      let a = value_of formula lab txt e s v c d in
      let b = join true a.0 a.1 (d i) in
      let x = value_cold i n (omega arith) e w.0 s v c d hv hc hd in
      let di = hd.each i (omega arith) in
      let y = no_more true a.0 a.1 (d i) di in
      let r = visit_cold n (suc i) l (omega arith) w.1 c b.0 (upd v i a.1) (upd d i b.1) hc (cold_snoc i v a.1 hv x.1) (cold_kept n i d b.1 hd (join_const true a.0 a.1 (d i) x.1 di)) in
      record { size = omega (arith, r.size, x.0, y); v = r.v; d = r.d }

-- TO THE PARENT
pub push_size : (v d : ℕ → Ref) (m i : ℕ) (s : List Step) (pc pd : ℕ → Ref) → length (push formula v d m i s pc pd).st ≤ length s + 2 * m
unfolding push
push_size v d zero i s pc pd = omega arith
push_size v d (suc m) i s pc pd =
    let a = join true s (pc i) (v i) in
    let b = join true a.0 (pd i) (d i) in
    omega (arith, push_size v d m (suc i) b.0 (upd pc i a.1) (upd pd i b.1), one_more true a.0 (pd i) (d i), one_more true s (pc i) (v i))

-- constants are pushed for nothing
pub push_free : (v d : ℕ → Ref) (n m i : ℕ) → m + i ≡ n → (s : List Step) (pc pd : ℕ → Ref) → Cold n v → Cold n d → length (push formula v d m i s pc pd).st ≤ length s
unfolding push
push_free v d n zero i k s pc pd hv hd = le_refl _
push_free v d n (suc m) i k s pc pd hv hd =
    let a = join true s (pc i) (v i) in
    let b = join true a.0 (pd i) (d i) in
    omega (arith, push_free v d n m (suc i) (omega arith) b.0 (upd pc i a.1) (upd pd i b.1) hv hd, no_more true a.0 (pd i) (d i) (hd.each i (omega arith)), no_more true s (pc i) (v i) (hv.each i (omega arith)))

pub push_cold : (v d : ℕ → Ref) (n m i : ℕ) → m + i ≡ n → (s : List Step) (pc pd : ℕ → Ref) → Cold n v → Cold n d → Cold n pc → Cold n pd → Cold n (push formula v d m i s pc pd).c × Cold n (push formula v d m i s pc pd).d
unfolding push
push_cold v d n zero i k s pc pd hv hd hc he = (hc, he)
push_cold v d n (suc m) i k s pc pd hv hd hc he =
    let a = join true s (pc i) (v i) in
    let b = join true a.0 (pd i) (d i) in
    push_cold v d n m (suc i) (omega arith) b.0 (upd pc i a.1) (upd pd i b.1) hv hd
    (cold_kept n i pc a.1 hc (join_const true s (pc i) (v i) (hc.each i (omega arith)) (hv.each i (omega arith))))
    (cold_kept n i pd b.1 he (join_const true a.0 (pd i) (d i) (he.each i (omega arith)) (hd.each i (omega arith))))
