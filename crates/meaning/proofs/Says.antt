-- Laws of `Says`: and, or, not, some. One induction then serves for soundness and completeness.
use mathlib.Core.Path.{◌≡◌, refl, sym, subst}
use mathlib.Core.Bool.{Bool, true, false, not, ◌&&◌, ◌||◌, true≢false, false≢true}
use mathlib.Core.Logic.{◌⊎◌, inl, inr, ⊎_elim}
use mathlib.Core.List.{List, [], ◌∷◌, Memᴰ}
use Rattle.meaning.specs.Says.{Says, aye, nay}

pub says_iff : {A B : Type 0} {b : Bool} → (A → B) → (B → A) → Says A b → Says B b
says_iff f g (aye a) = aye (f a)
says_iff f g (nay r) = nay (λ x. r (g x))

pub says_not : {A : Type 0} {b : Bool} → Says A b → Says (A → ⊥) (not b)
says_not (aye a) = nay (λ h. h a)
says_not (nay r) = aye r

pub says_and : {A B : Type 0} {a b : Bool} → Says A a → Says B b → Says (A × B) (a && b)
says_and (aye r) (aye s) = aye (r, s)
says_and (aye r) (nay s) = nay (λ h. s h.1)
says_and (nay r) s = nay (λ h. r h.0)

pub says_or : {A B : Type 0} {a b : Bool} → Says A a → Says B b → Says (A ⊎ B) (a || b)
says_or (aye r) s = aye (inl r)
says_or (nay r) (aye s) = aye (inr s)
says_or (nay r) (nay s) = nay (⊎_elim r s)

-- a test's truth value says what is tested
pub says_by : {A : Type 0} (b : Bool) → (b ≡ true → A) → (b ≡ false → A → ⊥) → Says A b
says_by true f g = aye (f refl)
says_by false f g = nay (g refl)

pub says_at : {A : Type 0} {a b : Bool} → a ≡ b → Says A b → Says A a
says_at {A} e s = subst (Says A) (sym e) s

-- `p && q` in two parts: the second is tested where the first holds
pub both_then : {A B : Type 0} {b : Bool} → A → Says B b → Says (A × B) b
both_then a s = says_iff (λ b. (a, b)) (λ w. w.1) s

pub both_else : {A B : Type 0} {a : Bool} → (A → ⊥) → Says A a → Says (A × B) a
both_else n s = says_iff (λ a. absurd (n a)) (λ w. w.0) s

-- the same of the chain's value v
pub says_then : {A B : Type 0} {a b v : Bool} → Says A a → a ≡ true → Says B b → v ≡ b → Says (A × B) v
says_then (aye x) e s q = says_at q (both_then x s)
says_then (nay r) e s q = absurd (false≢true e)

pub says_off : {A B : Type 0} {a v : Bool} → Says A a → (A → ⊥) → v ≡ a → Says (A × B) v
says_off s n q = says_at q (both_else n s)

pub says_else : {A B : Type 0} {a v : Bool} → Says A a → a ≡ false → v ≡ a → Says (A × B) v
says_else (aye x) e q = absurd (true≢false e)
says_else (nay r) e q = says_off (nay r) r q

-- where A holds, `A → B` asks for B
pub says_given : {A B : Type 0} {b : Bool} → A → Says B b → Says (A → B) b
says_given a s = says_iff (λ b z. b) (λ k. k a) s

pub says_self : (b : Bool) → Says (b ≡ true) b
says_self true = aye refl
says_self false = nay false≢true

pub says_true : {A : Type 0} {b : Bool} → Says A b → b ≡ true → A
says_true (aye a) e = a
says_true (nay r) e = absurd (false≢true e)

pub says_false : {A : Type 0} {b : Bool} → Says A b → b ≡ false → A → ⊥
says_false (aye a) e = absurd (true≢false e)
says_false (nay r) e = r

-- two answers to one type are the same
pub says_same : {A : Type 0} {a b : Bool} → Says A a → Says A b → a ≡ b
says_same (aye x) (aye y) = refl
says_same (aye x) (nay s) = absurd (s x)
says_same (nay r) (aye y) = absurd (r y)
says_same (nay r) (nay s) = refl

-- some element of a list passes p
module _ {N : Type 0} where
  abbrev pub some : (N → Bool) → List N → Bool
  some p [] = false
  some p (x ∷ l) = p x || some p l

  pub some_same : (p q : N → Bool) (l : List N) → ((v : N) → Memᴰ v l → p v ≡ q v) → some p l ≡ some q l
  some_same p q [] h = refl
  some_same p q (x ∷ l) h = rw (h x (Memᴰ.head refl), some_same p q l (λ v i. h v (Memᴰ.tail i)))

  pub some_says : (p : N → Bool) (P : N → Type 0) (l : List N) → ((v : N) → Memᴰ v l → Says (P v) (p v)) → Says ((v : N) × Memᴰ v l × P v) (some p l)
  some_says p P [] h = nay (λ t. none t.1)
    where
      none : {v : N} → Memᴰ v [] → ⊥
      none m = elim m [ ]
  some_says p P (x ∷ l) h = says_iff to from (says_or (h x (Memᴰ.head refl)) (some_says p P l (λ v i. h v (Memᴰ.tail i))))
    where
      to : P x ⊎ ((v : N) × Memᴰ v l × P v) → (v : N) × Memᴰ v (x ∷ l) × P v
      to (inl a) = (x, Memᴰ.head refl, a)
      to (inr t) = (t.0, Memᴰ.tail t.1, t.2)

      from' : {v : N} → Memᴰ v (x ∷ l) → P v → P x ⊎ ((v : N) × Memᴰ v l × P v)
      from' (Memᴰ.head e) a = inl (subst P e a)
      from' {v} (Memᴰ.tail i) a = inr (v, i, a)

      from : (v : N) × Memᴰ v (x ∷ l) × P v → P x ⊎ ((v : N) × Memᴰ v l × P v)
      from t = from' t.1 t.2
