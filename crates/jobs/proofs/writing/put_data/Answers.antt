-- `jobs::writing::put_data` meets its contract.
use Rattle.jobs.proofs.Room.{data-turn}
use Rattle.jobs.proofs.writing.put_data.Goals as goal

pub loop-k-preserved : goal.loop-k-preserved
loop-k-preserved c = data-turn _ _ _ _ _ c.loop-k.invariant c.loop-k-test.true
