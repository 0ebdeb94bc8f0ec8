-- `whole::layout_ok` meets its contract.
use Rattle.std.proofs.Common.{◌<◌, sym, ◌∙◌, get_or, arith, rules}
use Rattle.meaning.proofs.Says.{says_iff, says_at, says_true, says_false}
use Rattle.meaning.specs.Says.{nay}
use Rattle.meaning.proofs.Ranges.{says_all, says_within}
use Rattle.std.proofs.lemmas.Grind.{get_or_default_zero}
use Rattle.whole.proofs.layout_ok.Goals as goal
use Rattle.whole.proofs.layout_ok.Goals.{then-not-contains-via-then-not-contains, then-not-contains-via-else-not-contains+then-layout}
use Rattle.meaning.proofs.Numbers.{says_ltb}

pub returns-then-not-contains : goal.returns-then-not-contains
returns-then-not-contains c =
    let few = says_within _ _ c.new.ensures.start c.new.ensures.end c.new.ensures.exhausted c.contains.ensures.value in
    nay (λ h. elim c.then-not-contains.branch [
      | then-not-contains-via-then-not-contains w ↦ says_false few w.if-not-contains.true (h.some_part, h.most)
      | then-not-contains-via-else-not-contains+then-layout w ↦ let b = says_true few w.if-not-contains.false in w.if-layout.true (sym (get_or_default_zero c.args.layout.now 0 255 (omega (arith, b))) ∙ h.top)
    ])

pub returns : goal.returns
returns c =
    let l = c.args.layout.now in
    let few = says_true (says_within _ _ c.new.ensures.start c.new.ensures.end c.new.ensures.exhausted c.contains.ensures.value) c.if-not-contains.false in
    says_iff
    (λ w. record { some_part = few.0; most = few.1; top = get_or_default_zero l 0 255 (omega (arith, few)) ∙ c.if-layout.false; falling = λ k z h. omega (arith, w k z h, get_or_default_zero l k 255 h) })
    (λ w k a h. omega (arith, w.falling k a h, get_or_default_zero l k 255 h))
    (says_all _ _ _ c.all.result (λ k. get_or l k 0 < k) c.all.ensures.ran (λ x b q k. (search rules, search (rules, says_at, says_ltb))))
