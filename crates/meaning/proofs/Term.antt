-- The normal form means the question; and a term's meaning computed.
use Prim.Native.Nat.{ℕ}
use mathlib.Core.Path.{◌≡◌, refl, sym, subst}
use mathlib.Core.Bool.{Bool, true, not, ◌&&◌, ◌||◌}
use mathlib.Core.Logic.{◌⊎◌, inl, inr, ⊎_elim, ◌↔◌}
use Rattle.meaning.specs.Says.{Says, aye}
use Rattle.meaning.specs.Bytes.{Bytes}
use Rattle.meaning.specs.Tree.{Tree, Below}
use Rattle.meaning.specs.Question.{Question, Conj, OneUnit, Steps, Rest, Begin, Sign, Move}
use Rattle.meaning.specs.Holds.{Begins, Crosses, Moves, Holds, HoldsConj, HoldsUnit, Walks, Goes}
use Rattle.meaning.specs.Term.{Term, moving, beginning, crossing, normal, normal_conj, normal_unit, normal_steps, normal_rest, Means}
use Rattle.meaning.proofs.Says.{says_not, says_and, says_or, says_self, some}
use Rattle.meaning.proofs.Tree.{Finite, some_child, deep, deep_says}

-- A TERM'S MEANING COMPUTED
module _ {t : Tree} (fin : Finite t) where
  unfoldable pub val : Term Bytes → t.N → Bool
  val Term.self u = true
  val (Term.label w) u = t.label? w u
  val (Term.text w) u = t.text? w u
  val (Term.child q) u = some (val q) (fin.kids u)
  val (Term.at p q) u = val p u && val q u
  val (Term.lower q) u = deep fin (val q) u
  val (Term.or p q) u = val p u || val q u
  val (Term.and p q) u = val p u && val q u
  val (Term.not q) u = not (val q u)

  pub val_says : (q : Term Bytes) (u : t.N) → Says (Means t q u) (val q u)
  unfolding val Means
  val_says Term.self u = aye tt
  val_says (Term.label w) u = says_self (t.label? w u)
  val_says (Term.text w) u = says_self (t.text? w u)
  val_says (Term.child q) u = some_child fin (val q) (Means t q) (val_says q) u
  val_says (Term.at p q) u = says_and (val_says p u) (val_says q u)
  val_says (Term.lower q) u = deep_says fin (val q) (Means t q) (val_says q) u
  val_says (Term.or p q) u = says_or (val_says p u) (val_says q u)
  val_says (Term.and p q) u = says_and (val_says p u) (val_says q u)
  val_says (Term.not q) u = says_not (val_says q u)

-- THE NORMAL FORM MEANS THE QUESTION, at whatever place it is written
iff_and : {A B C D : Type 0} → A ↔ B → C ↔ D → (A × C) ↔ (B × D)
iff_and f g = (λ x. (f.0 x.0, g.0 x.1), λ y. (f.1 y.0, g.1 y.1))

iff_or : {A B C D : Type 0} → A ↔ B → C ↔ D → (A ⊎ C) ↔ (B ⊎ D)
iff_or f g = (λ x. ⊎_elim (λ a. inl (f.0 a)) (λ c. inr (g.0 c)) x, λ y. ⊎_elim (λ b. inl (f.1 b)) (λ d. inr (g.1 d)) y)

iff_not : {A B : Type 0} → A ↔ B → (A → ⊥) ↔ (B → ⊥)
iff_not f = (λ r b. r (f.1 b), λ r a. r (f.0 a))

iff_chain : {A B C : Type 0} → A ↔ B → B ↔ C → A ↔ C
iff_chain f g = (λ a. g.0 (f.0 a), λ c. f.1 (g.1 c))

-- words named by their bytes
abbrev bytes : ℕ → Bytes → Bytes
bytes a w = w

module _ (t : Tree) where
  -- some row is reached
  abbrev Some : (t.N → t.N → Type 0) → t.N → Type 0
  Some go u = (v : t.N) × go u v

  -- first `to`, then `go`: the row between comes first
  by_way : {to : t.N → Type 0} {go : t.N → t.N → Type 0} → ((v : t.N) × ((x : t.N) × to x × go x v)) ↔ ((x : t.N) × to x × Some go x)
  by_way = (λ p. (p.1.0, p.1.1, (p.0, p.1.2)), λ p. (p.2.0, (p.0, p.1, p.2.1)))

  module _ (P : t.N → Type 0) (r : Term Bytes) (is : (v : t.N) → P v ↔ Means t r v) where
    stays : (u : t.N) → ((x : t.N) × (u ≡ x) × P x) ↔ Means t r u
    stays u = (λ p. (is u).0 (subst P (sym p.1) p.2), λ m. (u, refl, (is u).1 m))

    goes_lower : (u : t.N) → ((x : t.N) × Below t u x × P x) ↔ Means t (Term.lower r) u
    unfolding Means
    goes_lower u = (λ p. (p.0, p.1, (is p.0).0 p.2), λ m. (m.0, m.1, (is m.0).1 m.2))

    begins : (b : Begin) (u : t.N) → ((x : t.N) × Begins t b u x × P x) ↔ Means t (beginning bytes b r) u
    begins Begin.plain u = stays u
    begins Begin.deep u = goes_lower u

    crosses : (g : Sign) (u : t.N) → ((x : t.N) × Crosses t g u x × P x) ↔ Means t (crossing bytes g r) u
    crosses Sign.slash u = stays u
    crosses Sign.slashes u = goes_lower u

    has_child : (u : t.N) → ((x : t.N) × t.Child u x × P x) ↔ Means t (Term.child r) u
    unfolding Means
    has_child u = (λ p. (p.0, p.1, (is p.0).0 p.2), λ m. (m.0, m.1, (is m.0).1 m.2))

    labelled : (w : Bytes) (u : t.N) → ((t.label? w u ≡ true) × P u) ↔ Means t (Term.at (Term.label w) r) u
    unfolding Means
    labelled w u = iff_and (λ e. e, λ e. e) (is u)

  moves : (P : t.N → Type 0) (r : Term Bytes) → ((v : t.N) → P v ↔ Means t r v) → (m : Move) (a : ℕ) (u : t.N) → ((x : t.N) × Moves t m u x × P x) ↔ Means t (moving bytes a m r) u
  moves P r is Move.dot a u = stays P r is u
  moves P r is Move.star a u = has_child P r is u
  moves P r is (Move.name n) a u =
      iff_chain (λ p. (p.0, p.1.0, (p.1.1, p.2)), λ p. (p.0, (p.1, p.2.0), p.2.1))
      (has_child (λ v. (t.label? n.bytes v ≡ true) × P v) (Term.at (Term.label n.bytes) r) (labelled P r is n.bytes) u)

  mutual
    unfolding Holds normal Means

    pub holds_normal : (q : Question) (a : ℕ) (u : t.N) → Holds t q u ↔ Means t (normal bytes a q) u
    holds_normal (Question.conj c) a u = conj_normal c a u
    holds_normal (Question.either q c) a u = iff_or (holds_normal q a u) (conj_normal c _ u)

    conj_normal : (c : Conj) (a : ℕ) (u : t.N) → HoldsConj t c u ↔ Means t (normal_conj bytes a c) u
    conj_normal (Conj.unit p) a u = unit_normal p a u
    conj_normal (Conj.both c p) a u = iff_and (conj_normal c a u) (unit_normal p _ u)

    unit_normal : (p : OneUnit) (a : ℕ) (u : t.N) → HoldsUnit t p u ↔ Means t (normal_unit bytes a p) u
    unit_normal (OneUnit.deny p) a u = iff_not (unit_normal p _ u)
    unit_normal (OneUnit.group q) a u = holds_normal q _ u
    unit_normal (OneUnit.label w) a u = (λ h. h, λ h. h)
    unit_normal (OneUnit.text w) a u = (λ h. h, λ h. h)
    unit_normal (OneUnit.path b s) a u = iff_chain (λ p. (p.0, p.2, (p.1, p.3)), λ p. (p.0, p.2.0, p.1, p.2.1)) (begins (Some (Walks t s)) (normal_steps bytes _ s) (λ v. steps_normal s _ v) b u)

    steps_normal : (s : Steps) (a : ℕ) (u : t.N) → Some (Walks t s) u ↔ Means t (normal_steps bytes a s) u
    steps_normal (Steps.step m r) a u = iff_chain by_way (moves (Some (Goes t r)) (normal_rest bytes _ r) (λ v. rest_normal r _ v) m a u)

    rest_normal : (r : Rest) (a : ℕ) (u : t.N) → Some (Goes t r) u ↔ Means t (normal_rest bytes a r) u
    rest_normal Rest.end a u = (λ p. tt, λ m. (u, refl))
    rest_normal (Rest.ends w) a u = (λ p. p.1.1, λ m. (u, (refl, m)))
    rest_normal (Rest.bracket q r) a u = iff_chain (λ p. (p.1.0, (p.0, p.1.1)), λ p. (p.1.0, (p.0, p.1.1))) (iff_and (holds_normal q _ u) (rest_normal r _ u))
    rest_normal (Rest.onward g s) a u = iff_chain by_way (crosses (Some (Walks t s)) (normal_steps bytes _ s) (λ v. steps_normal s _ v) g u)
