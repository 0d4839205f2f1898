-- `slices::and_into` meets its contract: a sweep towards the ANDed list.
use Rattle.slices.proofs.Sweep.{Sweep}
use Rattle.slices.specs.Cells.{and_bytes}
use Rattle.slices.proofs.and_into.Given as goal

abbrev pub invariant-loop-i : goal.invariant-loop-i
invariant-loop-i l = Sweep (and_bytes l.initial.dst l.src) l.initial.dst l.dst l.i
