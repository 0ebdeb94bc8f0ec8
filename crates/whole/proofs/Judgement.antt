-- A number stands for one reason: so any two judgements that the contract allows are equal.
use Prim.Native.Nat.{ℕ}
use mathlib.Core.Path.{◌≡◌, refl, sym, ap, ◌∙◌}
use mathlib.Core.Bool.{cond}
use lib.Dec.{eqb}
use Rattle.std.specs.Prelude.{Result, Ok, Err, IfOk}
use Rattle.meaning.specs.Bytes.{Bytes}
use Rattle.meaning.proofs.Refused.{One, one_granted, one_unless}
use Rattle.reply.specs.inner.Fields.{HeadIs}
use Rattle.reply.specs.declared.Head.{Head}
use Rattle.reply.proofs.Unique.{one_head}
use Rattle.whole.specs.inner.Steps.{Judged, number_of, judge_number}
use Rattle.whole.specs.inner.Promise.{OneJudgement}
use Rattle.whole.specs.declared.Question.{Question}
use Rattle.whole.specs.declared.Unfit.{Unfit}
use Rattle.whole.specs.declared.Unfit.TheVariants.{NotAReply, OtherQuestion, Misfit}
use Rattle.whole.proofs.Pieces.{number_some}

one_judged : (q : Question) (s : Bytes) → One (Judged q s)
one_judged q s = one_unless (one_unless (one_unless one_granted))

unfit_at : ℕ → Unfit
unfit_at n = cond (eqb n 13) NotAReply (cond (eqb n 14) OtherQuestion Misfit)

at_number : (e : Unfit) → unfit_at (number_of e) ≡ e
unfolding unfit_at
at_number NotAReply = refl
at_number OtherQuestion = refl
at_number Misfit = refl

same : (s : Bytes) (a b : Result Head Unfit) → judge_number a ≡ judge_number b → IfOk a (λ h. HeadIs s h) → IfOk b (λ h. HeadIs s h) → a ≡ b
same s (Ok h) (Ok k) e p q = ap Ok (one_head s h k p q)
same s (Ok h) (Err f) z p q = absurd (number_some f (sym z))
same s (Err e) (Ok k) z p q = absurd (number_some e z)
same s (Err e) (Err f) z p q = ap Err (sym (at_number e) ∙ ap unfit_at z ∙ at_number f)

pub one_judgement : OneJudgement
one_judgement q s a b j p k r = same s a b (one_judged q s _ _ j k) p r
