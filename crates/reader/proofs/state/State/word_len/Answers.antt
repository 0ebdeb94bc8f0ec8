use Rattle.std.proofs.Common.{rules, tests, drop, ap, ◌∙◌}
use Rattle.std.proofs.lemmas.Iterator.{YieldsList-from_slice}
use Rattle.std.proofs.lemmas.Iterator.Search.{YieldsList-from_take_while}
use Rattle.std.proofs.lemmas.Iterator.Consumers.{count_from_yields_List}
use borrow.Rule.Slice.PartAt.{part_to_end}
use Rattle.std.proofs.lemmas.List.Folds.{length-prefix_len}
use Rattle.reader.specs.inner.Reading.{passes}
use Rattle.reader.proofs.state.State.word_len.Goals as goal

pub returns : goal.returns
returns c =
    let stands = YieldsList-from_slice (drop c.args.self.now.at c.args.self.now.text.now) (ap (λ i. i.rest.now) c.take_while.ensures.source ∙ c.iter.ensures.rest ∙ part_to_end c.args.self.now.text.now c.args.self.now.at) in
    count_from_yields_List c.take_while.result _ c.count.ensures.ran (YieldsList-from_take_while _ (passes c.args.word) stands c.take_while.ensures.closure c.take_while.ensures.done (λ x b q k. search (rules, tests))) ∙ length-prefix_len (passes c.args.word) (drop c.args.self.now.at c.args.self.now.text.now)
