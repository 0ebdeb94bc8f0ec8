-- That bytes pass the check holds in one way at most, so that a struct can say it of its bytes.
use Rattle.std.specs.Prelude.{ℕ, zero, suc}
use Rattle.std.specs.Coded.{×_prop, le_prop, Coded-set, coded_ℕ}
use Rattle.reply.specs.inner.Checked.{RefOk, StepOk}

pub ref_prop : (n m k x : ℕ) → IsProp (RefOk n m k x)
unfolding RefOk
ref_prop n m zero x = Coded-set coded_ℕ x 0
ref_prop n m (suc zero) x = Coded-set coded_ℕ x 0
ref_prop n m (suc (suc zero)) x = le_prop
ref_prop n m (suc (suc (suc zero))) x = le_prop
ref_prop n m (suc (suc (suc (suc k)))) x = λ a b. absurd a

pub step_prop : (n m k ka xa kb xb : ℕ) → IsProp (StepOk n m k ka xa kb xb)
unfolding StepOk
step_prop n m zero ka xa kb xb = ×_prop (×_prop le_prop (ref_prop n m ka xa)) (×_prop le_prop (ref_prop n m kb xb))
step_prop n m (suc zero) ka xa kb xb = ×_prop (×_prop le_prop (ref_prop n m ka xa)) (×_prop le_prop (ref_prop n m kb xb))
step_prop n m (suc (suc zero)) ka xa kb xb = λ a b i.
    (×_prop le_prop (ref_prop n m ka xa) a.0 b.0 i, Coded-set coded_ℕ kb 0 a.1 b.1 i, Coded-set coded_ℕ xb 0 a.2 b.2 i)
step_prop n m (suc (suc (suc k))) ka xa kb xb = λ a b. absurd a
