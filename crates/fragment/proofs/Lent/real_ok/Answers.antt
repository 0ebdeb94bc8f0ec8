use mathlib.Core.Path.{refl}
use Rattle.fragment.proofs.Rules.{says_real}
use Rattle.fragment.proofs.Lent.real_ok.Goals as goal
use Rattle.meaning.proofs.Says.{says_then, says_else}

pub returns-then-word_ok : goal.returns-then-word_ok
returns-then-word_ok c = says_real _ _ c.requires.1 (says_then c.word_ok.ensures c.if-word_ok.true c.word_ok-then-word_ok.ensures refl)

pub returns-else-word_ok : goal.returns-else-word_ok
returns-else-word_ok c = says_real _ _ c.requires.1 (says_else c.word_ok.ensures c.if-word_ok.false refl)
