-- `trace::put_reply` meets its contract.
use Rattle.trace.specs.Run.{written}
use Rattle.trace.proofs.put_reply.Goals as goal

pub returns : goal.returns
unfolding written
returns c =
    rw (
      c.reply_second.ensures,
      c.reply_first.ensures,
    )
