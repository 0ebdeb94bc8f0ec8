-- Nesting (01, "Written questions"): the greatest number of `(` and `[` open at once, not counting the `()` of a test.
use Rattle.std.specs.Prelude.{ℕ, suc, max}
use Rattle.meaning.specs.Question.{Question, Conj, OneUnit, Steps, Rest}

unfoldable mutual
  pub nesting : Question → ℕ
  nesting (Question.conj c) = nesting_conj c
  nesting (Question.either q c) = max (nesting q) (nesting_conj c)

  pub nesting_conj : Conj → ℕ
  nesting_conj (Conj.unit p) = nesting_unit p
  nesting_conj (Conj.both c p) = max (nesting_conj c) (nesting_unit p)

  pub nesting_unit : OneUnit → ℕ
  nesting_unit (OneUnit.deny p) = nesting_unit p
  nesting_unit (OneUnit.group q) = suc (nesting q)
  nesting_unit (OneUnit.label w) = 0
  nesting_unit (OneUnit.text w) = 0
  nesting_unit (OneUnit.path b s) = nesting_steps s

  pub nesting_steps : Steps → ℕ
  nesting_steps (Steps.step m r) = nesting_rest r

  pub nesting_rest : Rest → ℕ
  nesting_rest Rest.end = 0
  nesting_rest (Rest.ends w) = 0
  nesting_rest (Rest.bracket q r) = max (suc (nesting q)) (nesting_rest r)
  nesting_rest (Rest.onward g s) = nesting_steps s
