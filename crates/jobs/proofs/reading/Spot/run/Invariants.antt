-- `jobs::reading::Spot::run` meets its contract.
use Rattle.jobs.proofs.Runs.{Counting}
use Rattle.jobs.proofs.reading.Spot.run.Given as goal

abbrev pub invariant-loop-k : goal.invariant-loop-k
invariant-loop-k l = Counting l.kind l.self.trace.now l.self.at l.left l.k
