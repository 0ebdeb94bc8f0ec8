-- `reply::judging::reply_check` meets its contract.
use native.Mathlib.Omega.{arith}
use Rattle.std.proofs.lemmas.Grind.{common_steps}
use Rattle.meaning.proofs.Says.{says_false, says_true}
use Rattle.reply.proofs.Verdicts.{bad, good, s_most}
use Rattle.reply.proofs.judging.reply_check.Goals.{else-contains-via-then-contains+else-is_reply, else-contains-via-else-contains}
use Rattle.reply.proofs.judging.reply_check.Goals as goal

pub returns-then-is_reply : goal.returns-then-is_reply
returns-then-is_reply c = good _ (λ i. (c.type_inv.bytes i).fits) (says_true c.is_reply.ensures c.if-is_reply.true)

pub returns-else-contains : goal.returns-else-contains
returns-else-contains c = elim c.else-contains.branch [
  | else-contains-via-then-contains+else-is_reply w ↦ bad _ (says_false w.is_reply.ensures w.if-is_reply.false)
  | else-contains-via-else-contains w ↦ bad _ (λ q. let m = s_most _ q in let l = q.head in grind (arith, common_steps, m, l))
]
