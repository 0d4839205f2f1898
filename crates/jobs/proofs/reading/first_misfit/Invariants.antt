-- `jobs::reading::first_misfit` meets its contract.
use Rattle.std.proofs.Common.{◌-◌, length}
use Rattle.jobs.proofs.Walks.{Walking}
use Rattle.jobs.proofs.reading.first_misfit.Given as goal

abbrev pub invariant-loop-found : goal.invariant-loop-found
invariant-loop-found l = Walking l.trace l.at

abbrev pub decreases-loop-found : goal.decreases-loop-found
decreases-loop-found l = length l.trace - l.at
