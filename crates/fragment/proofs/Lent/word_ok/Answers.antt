use mathlib.Core.Path.{refl}
use Rattle.meaning.proofs.Numbers.{says_leb}
use Rattle.fragment.proofs.Rules.{says_word}
use Rattle.fragment.proofs.Lent.word_ok.Goals as goal
use Rattle.meaning.proofs.Says.{says_then, says_else}
use Rattle.meaning.proofs.Ranges.{says_within}

pub returns-then-contains : goal.returns-then-contains
returns-then-contains c = says_word (says_then (says_within _ _ c.new.ensures.start c.new.ensures.end c.new.ensures.exhausted c.contains.ensures.value) c.if-contains.true (says_leb _ _) refl)

pub returns-else-contains : goal.returns-else-contains
returns-else-contains c = says_word (says_else (says_within _ _ c.new.ensures.start c.new.ensures.end c.new.ensures.exhausted c.contains.ensures.value) c.if-contains.false refl)
