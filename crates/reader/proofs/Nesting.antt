-- The greatest number open is the nesting, where as many are open around the tree as the greatest so far allows.
use Prim.Native.Nat.{ℕ, suc, ◌+◌, ◌≤◌, max}
use native.Mathlib.Omega.{arith}
use mathlib.Core.Path.{◌≡◌, ◌∙◌}
use Rattle.meaning.specs.Question.{Question, Conj, OneUnit, Steps, Rest}
use Rattle.reader.specs.Nesting.{nesting, nesting_conj, nesting_unit, nesting_steps, nesting_rest}
use Rattle.reader.specs.inner.Reading.{reach, reach_conj, reach_unit, reach_steps, reach_rest}

-- a bracket around what nests n deep
bracketed : (o m n k : ℕ) → o ≤ m → k ≡ max (max m (o + 1)) (o + 1 + n) → k ≡ max m (o + suc n)
bracketed o m n k h e = omega arith

two : (o m a b k j : ℕ) → o ≤ m → k ≡ max m (o + a) → (o ≤ k → j ≡ max k (o + b)) → j ≡ max m (o + max a b)
two o m a b k j h e f = let i : j ≡ max k (o + b) = f (omega arith) in omega arith

mutual
  unfolding reach nesting

  pub reach_question : (q : Question) (o m : ℕ) → o ≤ m → reach o q m ≡ max m (o + nesting q)
  reach_question (Question.conj c) o m h = reach_conj_lem c o m h
  reach_question (Question.either q c) o m h = two o m (nesting q) (nesting_conj c) (reach o q m) (reach_conj o c (reach o q m)) h (reach_question q o m h) (λ i. reach_conj_lem c o (reach o q m) i)

  reach_conj_lem : (c : Conj) (o m : ℕ) → o ≤ m → reach_conj o c m ≡ max m (o + nesting_conj c)
  reach_conj_lem (Conj.unit p) o m h = reach_unit_lem p o m h
  reach_conj_lem (Conj.both c p) o m h = two o m (nesting_conj c) (nesting_unit p) (reach_conj o c m) (reach_unit o p (reach_conj o c m)) h (reach_conj_lem c o m h) (λ i. reach_unit_lem p o (reach_conj o c m) i)

  reach_unit_lem : (p : OneUnit) (o m : ℕ) → o ≤ m → reach_unit o p m ≡ max m (o + nesting_unit p)
  reach_unit_lem (OneUnit.deny p) o m h = reach_unit_lem p o m h
  reach_unit_lem (OneUnit.group q) o m h = bracketed o m (nesting q) (reach (o + 1) q (max m (o + 1))) h (reach_question q (o + 1) (max m (o + 1)) (omega arith))
  reach_unit_lem (OneUnit.label w) o m h = omega arith
  reach_unit_lem (OneUnit.text w) o m h = omega arith
  reach_unit_lem (OneUnit.path b s) o m h = reach_steps_lem s o m h

  reach_steps_lem : (s : Steps) (o m : ℕ) → o ≤ m → reach_steps o s m ≡ max m (o + nesting_steps s)
  reach_steps_lem (Steps.step x r) o m h = reach_rest_lem r o m h

  reach_rest_lem : (r : Rest) (o m : ℕ) → o ≤ m → reach_rest o r m ≡ max m (o + nesting_rest r)
  reach_rest_lem Rest.end o m h = omega arith
  reach_rest_lem (Rest.ends w) o m h = omega arith
  reach_rest_lem (Rest.bracket q r) o m h = two o m (suc (nesting q)) (nesting_rest r) (reach (o + 1) q (max m (o + 1))) (reach_rest o r (reach (o + 1) q (max m (o + 1)))) h
      (bracketed o m (nesting q) (reach (o + 1) q (max m (o + 1))) h (reach_question q (o + 1) (max m (o + 1)) (omega arith))) (λ i. reach_rest_lem r o (reach (o + 1) q (max m (o + 1))) i)
  reach_rest_lem (Rest.onward g s) o m h = reach_steps_lem s o m h

-- with nothing around it
pub reach_all : (q : Question) → reach 0 q 0 ≡ nesting q
reach_all q = reach_question q 0 0 (omega arith) ∙ omega arith
