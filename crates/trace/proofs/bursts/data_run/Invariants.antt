-- `trace::bursts::data_run`: the `k` records that were looked at are data.
use Rattle.trace.specs.Data.{AllData}
use Rattle.trace.proofs.bursts.data_run.Given as goal

abbrev pub invariant-loop-k : goal.invariant-loop-k
invariant-loop-k l = AllData l.out l.records l.i l.k
