use native.Mathlib.Omega.{arith}
use Prim.Native.Nat.{◌+◌}
use borrow.Author.Tests.{ne_eqb}
use Rattle.meaning.specs.Fragment.{num}
use Rattle.formula.specs.inner.Memory.{fragment_of}
use Rattle.formula.proofs.Words.{words_same, words_length}
use Rattle.formula.proofs.Source.same_word.Goals as goal

pub returns-then-x-size : goal.returns-then-x-size
returns-then-x-size c =
    let s = c.args.self.now in
    words_same s.text.now s.fragment.pool.now c.args.x.a c.args.x.b (num (fragment_of s) c.args.k c.args.field) (num (fragment_of s) c.args.k (c.args.field + 1)) c.eq.ensures (omega arith) (omega (arith, c.if-x-size.true))

pub returns-else-x-size : goal.returns-else-x-size
returns-else-x-size c =
    let s = c.args.self.now in
    words_length s.text.now s.fragment.pool.now c.args.x.a (num (fragment_of s) c.args.k c.args.field) c.args.x.b (num (fragment_of s) c.args.k (c.args.field + 1)) c.requires.word_in_bounds c.requires.row_in_bounds (ne_eqb _ _ (λ e. omega (arith, e, c.if-x-size.false))) (λ e. omega (arith, e, c.if-x-size.false))
