-- `jobs::reading::Spot::many` meets its contract.
use Rattle.std.proofs.Common.{◌∙◌}
use Rattle.jobs.proofs.Runs.{many-at}
use Rattle.jobs.proofs.reading.Spot.many.Goals as goal

pub returns-then-wanted : goal.returns-then-wanted
returns-then-wanted c =
    let got = c.run.ensures in
    (got.0 ∙ many-at c.args.kind c.args.self.now.trace.now c.args.self.now.at ∙ rw c.if-wanted.true, got.1)
