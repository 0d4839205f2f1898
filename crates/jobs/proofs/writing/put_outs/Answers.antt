-- `jobs::writing::put_outs` meets its contract.
use Rattle.jobs.proofs.Room.{outs-turn}
use Rattle.jobs.proofs.writing.put_outs.Goals as goal

pub loop-k-preserved : goal.loop-k-preserved
loop-k-preserved c = outs-turn _ _ _ _ _ c.loop-k.invariant c.loop-k-test.true
