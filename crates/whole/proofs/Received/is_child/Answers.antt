-- `whole::Received::is_child` meets its contract.
use Rattle.std.proofs.Common.{arith}
use Rattle.std.proofs.lemmas.Bool.Decides.{nat_tests}
use Rattle.std.proofs.lemmas.Grind.{get_or_default_zero}
use Rattle.meaning.proofs.Says.{says_iff, says_by}
use Rattle.whole.proofs.Received.is_child.Goals as goal
use Rattle.meaning.proofs.Numbers.{says_ltb}

pub returns-then-g-layout : goal.returns-then-g-layout
returns-then-g-layout c =
    let same = get_or_default_zero c.args.layout.now c.args.g 255 c.if-g-layout.true in
    let wide = c.from.ensures in
    says_by _ (λ e. record { inside = c.if-g-layout.true; parent = grind (arith, nat_tests) }) (λ e p. grind (arith, nat_tests))

pub returns-else-g-layout : goal.returns-else-g-layout
returns-else-g-layout c = says_iff (λ l. absurd (omega arith)) (λ p. p.inside) (says_ltb _ _)
