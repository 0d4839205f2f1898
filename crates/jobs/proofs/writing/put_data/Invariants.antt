-- `jobs::writing::put_data` meets its contract.
use Rattle.jobs.proofs.Room.{Data}
use Rattle.jobs.proofs.writing.put_data.Given as goal

abbrev pub invariant-loop-k : goal.invariant-loop-k
invariant-loop-k l = Data l.initial.room l.at l.bytes l.room l.k
