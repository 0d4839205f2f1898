-- `trace::turn` meets its contract.
use Rattle.trace.specs.Run.{one_more}
use Rattle.trace.proofs.turn.Goals as goal

pub returns : goal.returns
unfolding one_more
returns c =
    rw (
      c.outputs_anew.ensures,
      c.put_reply.ensures,
      ← c.step_known-s.ensures,
    )
