-- `reader::grammar::quoted` meets its contract. Assumes nothing.
use mathlib.Core.Logic.{inl, inr}
use native.Mathlib.Omega.{arith}
use Rattle.question.specs.inner.Kind.{code}
use Rattle.reader.proofs.Words.{no_word, quoted_read}
use Rattle.reader.proofs.grammar.quoted.Goals as goal

pub returns-then-length-gt64 : goal.returns-then-length-gt64
returns-then-length-gt64 c =
    let n = rw c.in_ok-take.ensures.1 at c.word_len-length.ensures in
    no_word c.args.s.now.text.now c.args.s.now (code c.args.kind) (inl (omega (arith, n, c.if-length-gt64.true)))

pub returns-in_err-take-2 : goal.returns-in_err-take-2
returns-in_err-take-2 c =
    let n = rw c.in_ok-take.ensures.1 at c.word_len-length.ensures in
    rw c.from_residual-in_err-take-2.ensures (no_word c.args.s.now.text.now c.args.s.now (code c.args.kind) (inr (rw n at (rw c.in_ok-take.ensures.1 at c.in_err-take-2.ensures))))

pub returns : goal.returns
returns c =
    let n = rw c.in_ok-take.ensures.1 at c.word_len-length.ensures in
    rw (c.add.ensures.grown, c.add.ensures.number, c.in_ok-take-2.ensures.1, c.in_ok-take.ensures.1, n)
    (quoted_read c.args.s.now.text.now c.args.s.now (code c.args.kind) c.in_ok-take.ensures.0 (rw n at (rw c.in_ok-take.ensures.1 at c.in_ok-take-2.ensures.0)) (omega (arith, n, c.if-length-gt64.false)))
