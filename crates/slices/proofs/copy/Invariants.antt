-- `slices::copy` meets its contract: a sweep towards `src`.
use Rattle.slices.proofs.Sweep.{Sweep}
use Rattle.slices.proofs.copy.Given as goal

abbrev pub invariant-loop-i : goal.invariant-loop-i
invariant-loop-i l = Sweep l.src l.initial.dst l.dst l.i
