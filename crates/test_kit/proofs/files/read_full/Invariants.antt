use Rattle.std.proofs.Common.{◌-◌, ◌≤◌, length}
use Rattle.test_kit.proofs.files.read_full.Given as goal

abbrev pub invariant-loop-at : goal.invariant-loop-at
invariant-loop-at l = l.at ≤ length l.to

abbrev pub decreases-loop-at : goal.decreases-loop-at
decreases-loop-at l = length l.initial.to - l.at
