-- `jobs::reading::is_command` meets its contract.
use Rattle.std.proofs.Common.{◌≡◌, ◌∙◌, sym, false, ◌*◌, get_or}
use lib.Dec.{eqb}
use Rattle.jobs.proofs.Runs.{command-here, command-past}
use Rattle.jobs.proofs.reading.is_command.Goals as goal
use Rattle.jobs.proofs.reading.is_command.Goals.{then-i-trace, else-i-trace}

pub returns-else-trace-i-eq0-clause-value : goal.returns-else-trace-i-eq0-clause-value
returns-else-trace-i-eq0-clause-value c =
    let t = c.args.trace.now in
    let i = c.args.i in
    elim c.if-i-trace.branch [
      | then-i-trace w ↦
          let none : eqb (get_or t (2 * i) 0) 0 ≡ false = sym w.value-is ∙ c.if-trace-i-eq0.false in
          rw (c.if-trace-i-eq0.false, command-here c.args.command t i w.if-i-trace.true, none)
      | else-i-trace w ↦ rw (c.if-trace-i-eq0.false, command-past c.args.command t i w.if-i-trace.false)
    ]
