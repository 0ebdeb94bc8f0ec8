use Rattle.std.proofs.Common.{rules, ◌≤◌, arith}
use Rattle.std.proofs.lemmas.Bool.Decides.{nat_tests}
use Rattle.meaning.specs.Says.{nay}
use Rattle.meaning.proofs.Says.{says_iff}
use Rattle.meaning.proofs.Ranges.{says_below}
use Rattle.question.proofs.rules.list_ok.Goals as goal

pub returns-then-contains : goal.returns-then-contains
returns-then-contains c =
    let some : 1 ≤ c.args.list.count = grind (arith, nat_tests) in
    let most : c.args.list.count ≤ 32 = grind (arith, nat_tests) in
    says_iff (λ w. record { some_entry = some; most = most; each = w }) (λ w. w.each) (says_below _ c.all.ensures.ran (λ x b q k. search rules))

pub returns-else-contains : goal.returns-else-contains
returns-else-contains c = rw c.if-contains.false (nay (λ w. grind (arith, nat_tests)))
