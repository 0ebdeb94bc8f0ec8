use native.Mathlib.Omega.{arith}
use Rattle.meaning.specs.Refused.{refused, passed}
use Rattle.meaning.proofs.Says.{says_true, says_false}
use Rattle.formula.proofs.Counts.{cells_few}
use Rattle.depot.proofs.Call.check.Goals as goal
use Rattle.depot.proofs.Call.check.Goals.{then-self-eq0-via-then-self-eq0, then-self-eq0-via-else-self-eq0+then-not-list_ok}

pub returns-then-self-eq0 : goal.returns-then-self-eq0
returns-then-self-eq0 c = elim c.then-self-eq0.branch [
  | then-self-eq0-via-then-self-eq0 w ↦ refused (λ a. omega (arith, a.1, w.if-self-eq0.true))
  | then-self-eq0-via-else-self-eq0+then-not-list_ok w ↦ refused (λ a. says_false w.list_ok.ensures w.if-not-list_ok.true a.0)
]

pub returns-then-not-ok : goal.returns-then-not-ok
returns-then-not-ok c = passed (says_true c.list_ok.ensures c.if-not-list_ok.false, omega arith) (refused (says_false c.ok.ensures c.if-not-ok.true))

pub layout-requires : goal.layout-requires
layout-requires c = cells_few _ _ _ _ (says_true c.ok.ensures c.if-not-ok.false) (says_true c.list_ok.ensures c.if-not-list_ok.false)

pub returns-then-room-layout : goal.returns-then-room-layout
returns-then-room-layout c = passed (says_true c.list_ok.ensures c.if-not-list_ok.false, omega arith) (passed (says_true c.ok.ensures c.if-not-ok.false) (refused (λ u. omega (arith, u))))

pub returns : goal.returns
returns c = record { asks = (says_true c.list_ok.ensures c.if-not-list_ok.false, omega arith); sound = says_true c.ok.ensures c.if-not-ok.false; enough = omega (arith, c.if-room-layout.false, c.layout.ensures.need) }
