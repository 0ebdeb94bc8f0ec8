-- WHAT IS PROVED of the judgement: proofs/Judgement has the element.
use Rattle.std.specs.Prelude.{◌≡◌, Result, IfOk}
use Rattle.meaning.specs.Bytes.{Bytes}
use Rattle.reply.specs.inner.Fields.{HeadIs}
use Rattle.reply.specs.declared.Head.{Head}
use Rattle.whole.specs.inner.Steps.{Judged, judge_number}
use Rattle.whole.specs.declared.Question.{Question}
use Rattle.whole.specs.declared.Unfit.{Unfit}

-- any two answers that the contract of `judge` allows are equal
abbrev pub OneJudgement : Type 0
OneJudgement = (q : Question) (s : Bytes) (a b : Result Head Unfit) → Judged q s (judge_number a) → IfOk a (λ h. HeadIs s h)
    → Judged q s (judge_number b) → IfOk b (λ h. HeadIs s h) → a ≡ b
