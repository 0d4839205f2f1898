-- `trace::bursts::take_in` meets its contract.
use mathlib.Core.Path.{refl, ◌∙◌}
use Rattle.trace.specs.Data.{taken_in}
use Rattle.trace.proofs.Runs.{took_one_lem}
use Rattle.trace.specs.Data.{taken_in}
use mathlib.Core.Path.{refl}
use Rattle.trace.proofs.bursts.take_in.Goals as goal

pub loop-j-init : goal.loop-j-init
unfolding taken_in
loop-j-init c = (refl, refl, refl)

pub loop-j-preserved : goal.loop-j-preserved
loop-j-preserved c = (
  c.put_part.auto.buffer ∙ c.loop-j.invariant.0,
  c.put_reply.auto.room ∙ c.loop-j.invariant.1,
  took_one_lem c.args.page c.args.base c.args.records.now c.args.i c.args.at c.loop-j.j _ _ _ _ c.put_part.ensures c.put_reply.ensures c.loop-j.invariant.2,
)
