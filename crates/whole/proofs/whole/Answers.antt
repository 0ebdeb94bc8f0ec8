-- `whole::whole` meets its contract.
use Rattle.std.proofs.Common.{rules}
use Rattle.meaning.proofs.Says.{says_iff, says_not, says_false, says_true, says_at}
use Rattle.meaning.specs.Says.{nay}
use Rattle.meaning.proofs.Ranges.{says_some}
use Rattle.whole.specs.Whole.{Heard}
use Rattle.whole.proofs.Pieces.{whole_fresh, not_fresh, whole_open, was_open}
use Rattle.whole.proofs.whole.Goals as goal
use Rattle.whole.proofs.whole.Goals.{then-desk-ne0-via-then-desk-ne0, then-desk-ne0-via-else-desk-ne0+then-desk-ne0-2}

pub laid-requires : goal.laid-requires
laid-requires c = (says_true c.rules.ensures c.if-rules.true).few_parts

pub returns-then-rules : goal.returns-then-rules
returns-then-rules c = whole_open c.args.desk c.args.store.now (says_true c.is_open.ensures c.if-is_open.true) (says_true c.rules.ensures c.if-rules.true) c.laid.ensures

pub returns-else-rules : goal.returns-else-rules
returns-else-rules c =
    says_iff (λ r. absurd (says_false c.rules.ensures c.if-rules.false r)) (λ w. (was_open c.args.desk c.args.store.now w (says_true c.is_open.ensures c.if-is_open.true)).rules) c.rules.ensures

pub returns-then-desk-ne0 : goal.returns-then-desk-ne0
returns-then-desk-ne0 c = nay (not_fresh c.args.desk c.args.store.now (says_false c.is_open.ensures c.if-is_open.false) (λ l u. elim c.then-desk-ne0.branch [
  | then-desk-ne0-via-then-desk-ne0 w ↦ w.if-desk-ne0.true l
  | then-desk-ne0-via-else-desk-ne0+then-desk-ne0-2 w ↦ w.if-desk-ne0-2.true u
]))

pub returns : goal.returns
returns c =
    let q = c.args.desk.question in
    whole_fresh c.args.desk c.args.store.now (says_false c.is_open.ensures c.if-is_open.false) c.if-desk-ne0.false c.if-desk-ne0-2.false
    (says_iff (λ n f h. n (f, h.0, h)) (λ n t. n t.0 t.2) (says_not (says_some (λ f. Heard q f) c.any.ensures.ran (λ x b q' k. (search rules, search (rules, says_at))))))
