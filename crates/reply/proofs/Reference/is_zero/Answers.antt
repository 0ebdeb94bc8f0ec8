-- `reply::Reference::is_zero` meets its contract.
use denote.Enum.Bare.{sameb}
use mathlib.Core.Path.{◌≡◌, refl}
use native.Mathlib.Omega.{arith}
use Rattle.meaning.specs.Says.{Says, aye, nay}
use Rattle.meaning.proofs.Says.{says_and}
use Rattle.reply.specs.inner.Fields.{kind_code}
use Rattle.reply.specs.declared.RefKind.{RefKind}
use Rattle.reply.specs.contracts.RefKind.{the_type}
use Rattle.reply.proofs.Reference.is_zero.Goals as goal
use Rattle.meaning.proofs.Numbers.{says_eqb}

says_low : (k : RefKind) → Says (kind_code k ≡ 0) (sameb the_type k RefKind.Low)
says_low RefKind.Low = aye refl
says_low RefKind.High = nay (λ e. omega arith)
says_low RefKind.Var = nay (λ e. omega arith)
says_low RefKind.Step = nay (λ e. omega arith)

pub returns : goal.returns
returns c = rw c.eq.ensures (says_and (says_low c.args.self.kind) (says_eqb _ _))
