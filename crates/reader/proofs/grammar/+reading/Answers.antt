-- The readers call each other: each gives the tree of its form that stands there, or says that none does.
use Prim.Native.Nat.{◌+◌}
use lib.Dec.{lit<}
use mathlib.Core.Path.{sym, ◌∙◌, refl, ◌≡◌}
use native.Mathlib.Omega.{arith}
use Rattle.meaning.specs.Bytes.{ascii}
use Rattle.reader.specs.inner.Reading.{moved, closed, byte_at, Form, chain_part, sign, Nowhere, Found}
use Rattle.reader.proofs.Text.{along}
use Rattle.reader.proofs.Ready.{call_bytes, call_name}
use Rattle.reader.proofs.Chains.{chain_nowhere, chain_begins, chain_ends, chain_breaks, chain_more}
use Rattle.reader.proofs.Units.{unit_not_none, unit_not, unit_group_none, unit_group_open, unit_group, unit_label, unit_text, unit_path, path_deep_none, path_deep, path_plain}
use Rattle.reader.proofs.Walk.{steps_dot, steps_star_none, steps_star, steps_wrong, after_name, name_long, name_none, name_read, rest_end, rest_ends, rest_slashes_none, rest_slashes, rest_slash, rest_bracket_none, rest_bracket_open, rest_bracket_rest, rest_bracket}
use Rattle.reader.proofs.grammar.+reading.Goals as goal

pub whole_chain-returns-in_err-top : goal.whole_chain-returns-in_err-top
whole_chain-returns-in_err-top t c = rw c.from_residual.ensures (chain_nowhere c.args.c c.in_err-top.ensures)

pub whole_chain-loop-c-init : goal.whole_chain-loop-c-init
whole_chain-loop-c-init t c = chain_begins c.args.c c.in_ok-top.ensures

pub whole_chain-returns-in_err-right : goal.whole_chain-returns-in_err-right
whole_chain-returns-in_err-right t c = rw c.from_residual-in_err-right.ensures (chain_breaks c.args.c c.args.s.now c.loop-c.s c.loop-c.invariant (along (λ t. byte_at t c.loop-c.s.at ≡ sign c.args.c) c.loop-c.invariant.goes.same (c.loop-c-test.ensures ∙ c.sign.ensures)) (along (λ t. Nowhere (chain_part c.args.c) t (c.loop-c.s.at + 1)) c.loop-c.invariant.goes.same c.in_err-right.ensures))

pub whole_chain-loop-c-preserved : goal.whole_chain-loop-c-preserved
whole_chain-loop-c-preserved t c = rw (c.add-top.ensures.grown, c.add-top.ensures.number, c.kind.ensures) (chain_more c.args.c c.args.s.now c.loop-c.s c.loop-c.invariant (along (λ t. byte_at t c.loop-c.s.at ≡ sign c.args.c) c.loop-c.invariant.goes.same (c.loop-c-test.ensures ∙ c.sign.ensures)) (along (λ t. Found (chain_part c.args.c) t (moved c.loop-c.s (c.loop-c.s.at + 1)) c.chain_part-in-loop-c.new.s c.in_ok-right.right) c.loop-c.invariant.goes.same c.in_ok-right.ensures))

pub whole_chain-returns : goal.whole_chain-returns
whole_chain-returns t c = chain_ends c.args.c c.loop-c.invariant (λ e. c.loop-c-test.ensures (along (λ t. byte_at t c.loop-c.s.at ≡ sign c.args.c) (sym c.loop-c.invariant.goes.same) e ∙ sym c.sign.ensures))

pub unit-returns-in_err-u : goal.unit-returns-in_err-u
unit-returns-in_err-u t c = rw c.from_residual.ensures (unit_not_none c.if-here.ensures c.in_err-u.ensures)

pub unit-returns-then-here : goal.unit-returns-then-here
unit-returns-then-here t c = rw (c.add.ensures.grown, c.add.ensures.number) (unit_not c.if-here.ensures c.in_ok-u.ensures)

pub unit-returns-in_err-q : goal.unit-returns-in_err-q
unit-returns-in_err-q t c = rw c.from_residual-in_err-q.ensures (unit_group_none c.if-here.ensures c.if-here-2.ensures (rw c.open.ensures at c.in_err-q.ensures))

pub unit-returns-in_err-shut : goal.unit-returns-in_err-shut
unit-returns-in_err-shut t c = let f = rw c.open.ensures at c.in_ok-q.ensures in rw c.from_residual-in_err-shut.ensures (unit_group_open c.args.s.now c.if-here.ensures c.if-here-2.ensures f (along (λ t. byte_at t c.question.new.s.at ≡ 41 → ⊥) f.goes.same c.in_err-shut.ensures))

pub unit-returns-then-here-2 : goal.unit-returns-then-here-2
unit-returns-then-here-2 t c = let f = rw c.open.ensures at c.in_ok-q.ensures in rw c.in_ok-shut.ensures.1 (unit_group c.if-here.ensures c.if-here-2.ensures f (along (λ t. byte_at t c.question.new.s.at ≡ 41) f.goes.same c.in_ok-shut.ensures.0))

pub unit-quoted-requires-clause-at_in_bounds : goal.unit-quoted-requires-clause-at_in_bounds
unit-quoted-requires-clause-at_in_bounds t c = rw (c.if-eat.ensures.past) ((call_bytes 3 0 (ascii "label()=") 8 refl (lit< tt) c.decreases c.requires (sym c.if-eat.ensures.stood) (lit< tt)).1.inside)

pub unit-returns-then-eat : goal.unit-returns-then-eat
unit-returns-then-eat t c = unit_label _ c.args.s.now _ c.if-here.ensures c.if-here-2.ensures (sym c.if-eat.ensures.stood) _ (rw c.if-eat.ensures.past at c.quoted.ensures)

pub unit-quoted-requires-then-eat-2-clause-at_in_bounds : goal.unit-quoted-requires-then-eat-2-clause-at_in_bounds
unit-quoted-requires-then-eat-2-clause-at_in_bounds t c = rw (c.if-eat-2.ensures.past, c.if-eat.ensures.past) ((call_bytes 3 0 (ascii "text()=") 7 refl (lit< tt) c.decreases c.requires (sym (rw c.if-eat.ensures.past at c.if-eat-2.ensures.stood)) (lit< tt)).1.inside)

pub unit-returns-then-eat-2 : goal.unit-returns-then-eat-2
unit-returns-then-eat-2 t c = unit_text _ c.args.s.now _ c.if-here.ensures c.if-here-2.ensures (sym c.if-eat.ensures.stood) (sym (rw c.if-eat.ensures.past at c.if-eat-2.ensures.stood)) _ (rw (c.if-eat-2.ensures.past, c.if-eat.ensures.past) at c.quoted-then-eat-2.ensures)

pub unit-returns : goal.unit-returns
unit-returns t c = unit_path _ c.args.s.now _ c.if-here.ensures c.if-here-2.ensures (sym c.if-eat.ensures.stood) (sym (rw c.if-eat.ensures.past at c.if-eat-2.ensures.stood)) _ (rw (c.if-eat-2.ensures.past, c.if-eat.ensures.past) at c.path.ensures)

pub path-steps-requires : goal.path-steps-requires
path-steps-requires t c = rw (c.if-eat.ensures.past) (call_bytes 2 1 (ascii "//") 2 refl (lit< tt) c.decreases c.requires (sym c.if-eat.ensures.stood) (lit< tt))

pub path-returns-in_err-r : goal.path-returns-in_err-r
path-returns-in_err-r t c = rw c.from_residual.ensures (path_deep_none (sym c.if-eat.ensures.stood) (rw c.if-eat.ensures.past at c.in_err-r.ensures))

pub path-returns-then-eat : goal.path-returns-then-eat
path-returns-then-eat t c = rw (c.add.ensures.grown, c.add.ensures.number) (path_deep (sym c.if-eat.ensures.stood) (rw c.if-eat.ensures.past at c.in_ok-r.ensures))

pub path-returns : goal.path-returns
path-returns t c = path_plain _ c.args.s.now _ (sym c.if-eat.ensures.stood) _ (rw c.if-eat.ensures.past at c.steps-2.ensures)

pub steps-returns-then-here : goal.steps-returns-then-here
steps-returns-then-here t c = steps_dot _ c.args.s.now _ c.if-here.ensures _ c.rest.ensures

pub steps-returns-in_err-r : goal.steps-returns-in_err-r
steps-returns-in_err-r t c = rw c.from_residual.ensures (steps_star_none c.if-here.ensures c.if-here-2.ensures c.in_err-r.ensures)

pub steps-returns-then-here-2 : goal.steps-returns-then-here-2
steps-returns-then-here-2 t c = rw (c.add.ensures.grown, c.add.ensures.number) (steps_star c.if-here.ensures c.if-here-2.ensures c.in_ok-r.ensures)

pub steps-returns : goal.steps-returns
steps-returns t c = steps_wrong c.if-here.ensures c.if-here-2.ensures (sym c.if-letter_here.ensures)

pub named-returns-then-size-gt64 : goal.named-returns-then-size-gt64
named-returns-then-size-gt64 t c = name_long c.args.s.now.text.now c.args.s.now c.requires.at_value (omega (arith, c.word_len-size.ensures, c.if-size-gt64.true))

pub named-rest-requires : goal.named-rest-requires
named-rest-requires t c = let e : c.add-l.new.self ≡ after_name c.args.s.now.text.now c.args.s.now c.requires.at_value = rw (c.add-l.ensures.grown, c.word_len-size.ensures) refl in rw e (call_name 0 0 c.args.s.now.text.now c.args.s.now c.decreases c.requires.ready c.requires.at_value (lit< tt))

pub named-returns-in_err-r : goal.named-returns-in_err-r
named-returns-in_err-r t c = rw c.from_residual.ensures (name_none c.args.s.now.text.now c.args.s.now c.requires.at_value (rw (c.add-l.ensures.grown, c.word_len-size.ensures) at c.in_err-r.ensures))

pub named-returns : goal.named-returns
named-returns t c = rw (c.add.ensures.grown, c.add.ensures.number, c.add-w.ensures.grown, c.add-w.ensures.number, c.add-l.ensures.number) (name_read c.args.s.now.text.now c.args.s.now c.requires.at_value c.requires.ready.inside (omega (arith, c.word_len-size.ensures, c.if-size-gt64.false)) (rw (c.add-l.ensures.grown, c.word_len-size.ensures) at c.in_ok-r.ensures))

pub rest-returns-in_err-q : goal.rest-returns-in_err-q
rest-returns-in_err-q t c = rw c.from_residual.ensures (rest_bracket_none c.if-here.ensures (rw c.open.ensures at c.in_err-q.ensures))

pub rest-returns-in_err-shut : goal.rest-returns-in_err-shut
rest-returns-in_err-shut t c = let f = rw c.open.ensures at c.in_ok-q.ensures in rw c.from_residual-in_err-shut.ensures (rest_bracket_open c.args.s.now c.if-here.ensures f (along (λ t. byte_at t c.question.new.s.at ≡ 93 → ⊥) f.goes.same c.in_err-shut.ensures))

pub rest-returns-in_err-r : goal.rest-returns-in_err-r
rest-returns-in_err-r t c = let f = rw c.open.ensures at c.in_ok-q.ensures in rw c.from_residual-in_err-r.ensures (rest_bracket_rest c.args.s.now c.if-here.ensures f (along (λ t. Nowhere Form.rest t (c.question.new.s.at + 1)) f.goes.same (rw c.in_ok-shut.ensures.1 at c.in_err-r.ensures)))

pub rest-returns-then-here : goal.rest-returns-then-here
rest-returns-then-here t c = let f = rw c.open.ensures at c.in_ok-q.ensures in rw (c.add.ensures.grown, c.add.ensures.number) (rest_bracket c.args.s.now c.if-here.ensures f (along (λ t. byte_at t c.question.new.s.at ≡ 93) f.goes.same c.in_ok-shut.ensures.0) (along (λ t. Found Form.rest t (closed c.question.new.s) c.rest.new.s c.in_ok-r.r) f.goes.same (rw c.in_ok-shut.ensures.1 at c.in_ok-r.ensures)))

pub rest-returns-then-not-here : goal.rest-returns-then-not-here
rest-returns-then-not-here t c = rw (c.add-then-not-here.ensures.grown, c.add-then-not-here.ensures.number) (rest_end c.if-here.ensures c.if-not-here.ensures c.requires.inside)

pub rest-quoted-requires-clause-at_in_bounds : goal.rest-quoted-requires-clause-at_in_bounds
rest-quoted-requires-clause-at_in_bounds t c = rw (c.if-eat.ensures.past) ((call_bytes 0 0 (ascii "/text()=") 8 refl (lit< tt) c.decreases c.requires (sym c.if-eat.ensures.stood) (lit< tt)).1.inside)

pub rest-returns-then-eat : goal.rest-returns-then-eat
rest-returns-then-eat t c = rest_ends _ c.args.s.now _ c.if-here.ensures c.if-not-here.ensures (sym c.if-eat.ensures.stood) _ (rw c.if-eat.ensures.past at c.quoted.ensures)

pub rest-returns-in_err-r-2 : goal.rest-returns-in_err-r-2
rest-returns-in_err-r-2 t c = rw c.from_residual-in_err-r-2.ensures (rest_slashes_none c.if-here.ensures c.if-not-here.ensures (sym c.if-eat.ensures.stood) (sym (rw c.if-eat.ensures.past at c.if-eat-2.ensures.stood)) (rw (c.if-eat-2.ensures.past, c.if-eat.ensures.past) at c.in_err-r-2.ensures))

pub rest-returns-then-eat-2 : goal.rest-returns-then-eat-2
rest-returns-then-eat-2 t c = rw (c.add-then-eat-2.ensures.grown, c.add-then-eat-2.ensures.number) (rest_slashes c.if-here.ensures c.if-not-here.ensures (sym c.if-eat.ensures.stood) (sym (rw c.if-eat.ensures.past at c.if-eat-2.ensures.stood)) (rw (c.if-eat-2.ensures.past, c.if-eat.ensures.past) at c.in_ok-r-2.ensures))

pub rest-returns : goal.rest-returns
rest-returns t c = rest_slash _ c.args.s.now _ c.if-here.ensures c.if-not-here.ensures (sym c.if-eat.ensures.stood) (sym (rw c.if-eat.ensures.past at c.if-eat-2.ensures.stood)) _ (rw (c.if-eat-2.ensures.past, c.if-eat.ensures.past) at c.steps-2.ensures)
