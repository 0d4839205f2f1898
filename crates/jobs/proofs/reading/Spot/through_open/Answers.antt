-- `jobs::reading::Spot::through_open` meets its contract.
use Rattle.jobs.proofs.Walks.{short-of-addresses, opened}
use Rattle.jobs.proofs.reading.Spot.through_open.Goals as goal

pub returns-then-a-n : goal.returns-then-a-n
returns-then-a-n c =
    short-of-addresses c.args.self.now.trace.now c.args.self.now.at c.args.n _ _ c.run-a.ensures.0 c.if-a-n.true

pub returns : goal.returns
returns c =
    opened c.args.self.now.trace.now c.args.self.now.at c.args.n _ _ c.run-a.ensures.0 c.if-a-n.false c.many-o.ensures.0
