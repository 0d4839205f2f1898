-- `slices::some_set` meets its contract: what has been passed has been looked at.
use Rattle.std.proofs.Common.{◌≡◌, take}
use Rattle.slices.specs.Cells.{some_set}
use Rattle.slices.proofs.some_set.Given as goal

abbrev pub invariant-loop-x : goal.invariant-loop-x
invariant-loop-x l = l.any ≡ some_set (take l.x-index l.s)
