-- The measure of each reader: nine times the bytes that are left, and its rank among the calls that take no byte.
use Prim.Native.Nat.{ℕ, ◌+◌, ◌-◌}
use lib.ListN.{length}
use Rattle.reader.proofs.Ready.{size}
use Rattle.reader.proofs.Chains.{Linked}
use Rattle.reader.specs.declared.grammar.Chain.{Chain}
use Rattle.reader.proofs.grammar.+reading.Given as goal

-- a question's reader calls that of its conjunctions, and that the units'
abbrev rank : Chain → ℕ
rank Chain.Ors = 2
rank Chain.Ands = 0

abbrev pub decreases-question : goal.decreases-question
decreases-question l = size 8 l.s.now.text.now l.s.now

abbrev pub decreases-whole_chain : goal.decreases-whole_chain
decreases-whole_chain l = size (rank l.c + 5) l.s.now.text.now l.s.now

abbrev pub decreases-chain_part : goal.decreases-chain_part
decreases-chain_part l = size (rank l.c + 4) l.s.now.text.now l.s.now

abbrev pub decreases-unit : goal.decreases-unit
decreases-unit l = size 3 l.s.now.text.now l.s.now

abbrev pub decreases-path : goal.decreases-path
decreases-path l = size 2 l.s.now.text.now l.s.now

abbrev pub decreases-steps : goal.decreases-steps
decreases-steps l = size 1 l.s.now.text.now l.s.now

abbrev pub decreases-named : goal.decreases-named
decreases-named l = size 0 l.s.now.text.now l.s.now

abbrev pub decreases-rest : goal.decreases-rest
decreases-rest l = size 0 l.s.now.text.now l.s.now

abbrev pub invariant-whole_chain-loop-c : goal.invariant-whole_chain-loop-c
invariant-whole_chain-loop-c l = Linked l.c l.fn.s.text.now l.fn.s l.s l.top

abbrev pub decreases-whole_chain-loop-c : goal.decreases-whole_chain-loop-c
decreases-whole_chain-loop-c l = length l.s.text.now - l.s.at
