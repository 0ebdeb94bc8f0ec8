use mathlib.Core.Path.{ap, ◌∙◌}
use Rattle.meaning.specs.Bytes.{label_is, text_is}
use Rattle.question.specs.Listed.{entry_of}
use Rattle.formula.specs.inner.Flat.{truth}
use Rattle.formula.specs.inner.Memory.{fragment_of}
use Rattle.formula.proofs.KindTests.{told_test}
use Rattle.formula.proofs.Source.tested.Goals as goal

pub same_word-requires-clause-word_in_bounds : goal.same_word-requires-clause-word_in_bounds
unfolding entry_of
same_word-requires-clause-word_in_bounds c = (rw c.in-Label.is at c.requires.by_index.1).points.1

pub same_word-requires-in-Text-clause-word_in_bounds : goal.same_word-requires-in-Text-clause-word_in_bounds
unfolding entry_of
same_word-requires-in-Text-clause-word_in_bounds c = (rw c.in-Text.is at c.requires.by_index.1).points.1

pub returns-in-Label : goal.returns-in-Label
unfolding entry_of label_is
returns-in-Label c = rw c.in-Label.is (c.constant.ensures ∙ ap truth c.same_word.ensures)

pub returns-in-Text : goal.returns-in-Text
unfolding entry_of text_is
returns-in-Text c = rw c.in-Text.is (c.constant-in-Text.ensures ∙ ap truth c.same_word-in-Text.ensures)

pub returns-in_default : goal.returns-in_default
returns-in_default c = told_test c.args.self.now.text.now (fragment_of c.args.self.now) c.args.k c.args.x.a c.args.x.b c.args.x.kind c.in_default.not-Label c.in_default.not-Text
