-- `trace::bursts::give_out` meets its contract.
use mathlib.Core.Path.{refl, ◌∙◌}
use Rattle.trace.proofs.Runs.{gave_one}
use Rattle.trace.specs.Data.{given_out}
use mathlib.Core.Path.{refl}
use Rattle.trace.proofs.bursts.give_out.Goals as goal

pub loop-j-init : goal.loop-j-init
unfolding given_out
loop-j-init c = (refl, refl)

pub loop-j-preserved : goal.loop-j-preserved
loop-j-preserved c =
    (c.put_reply.auto.room ∙ c.loop-j.invariant.0, gave_one c.args.registers.now c.args.i c.args.from c.loop-j.j _ _ _ c.put_reply.ensures c.loop-j.invariant.1)
