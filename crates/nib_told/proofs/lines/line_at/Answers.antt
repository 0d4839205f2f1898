-- `nib_told::lines::line_at`: past the trace there is no job.
use Rattle.jobs.proofs.Walks.{job-past}
use Rattle.nib_told.specs.Lines.{line_at}
use Rattle.nib_told.proofs.lines.line_at.Goals as goal

pub returns-then-trace-at : goal.returns-then-trace-at
unfolding line_at
returns-then-trace-at c = rw (← job-past c.args.trace.now c.args.at c.if-trace-at.true)
