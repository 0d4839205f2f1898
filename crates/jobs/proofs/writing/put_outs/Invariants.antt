-- `jobs::writing::put_outs` meets its contract.
use Rattle.jobs.proofs.Room.{Outs}
use Rattle.jobs.proofs.writing.put_outs.Given as goal

abbrev pub invariant-loop-k : goal.invariant-loop-k
invariant-loop-k l = Outs l.initial.room l.at l.count l.room l.k
