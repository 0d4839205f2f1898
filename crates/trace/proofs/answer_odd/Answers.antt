-- `trace::answer_odd` meets its contract.
use native.Mathlib.Omega.{arith}
use Rattle.trace.specs.Run.{needed}
use Rattle.trace.proofs.answer_odd.Goals as goal

pub put_reply-requires : goal.put_reply-requires
unfolding needed
put_reply-requires c = omega (arith, c.if-n-eq1.true, c.requires)
