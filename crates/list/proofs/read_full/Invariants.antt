use Rattle.std.proofs.Common.{◌-◌, ◌≤◌}
use Rattle.list.proofs.read_full.Given as goal

abbrev pub invariant-loop-got : goal.invariant-loop-got
invariant-loop-got g l = l.got ≤ 256

abbrev pub decreases-loop-got : goal.decreases-loop-got
decreases-loop-got g l = 256 - l.got
