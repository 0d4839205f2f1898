-- `jobs::writing::write_status` meets its contract.
use mathlib.Core.Path.{sym, ◌∙◌}
use mathlib.Core.List.{[]}
use Prim.Native.Nat.{◌+◌, ◌*◌, ◌≤◌}
use lib.ListN.{length}
use Rattle.jobs.specs.declared.Job.TheVariants as job
use Rattle.jobs.specs.Writing.{records_of}
use Rattle.jobs.proofs.Room.{laid-small, laid-whole}
use Rattle.jobs.proofs.Jobs.{status-size, status-put}
use Rattle.jobs.proofs.writing.write_status.Goals as goal

pub returns-then-too_small : goal.returns-then-too_small
returns-then-too_small c =
    laid-small (records_of (job.Status c.args.row c.args.count) []) c.args.room.now (8 + 2 * c.args.count) (status-size c.args.row c.args.count []) (sym c.too_small.ensures.value ∙ c.if-too_small.true)

pub returns : goal.returns
returns c =
    let fits : 8 + 2 * c.args.count ≤ length c.args.room.now = c.too_small.ensures.fits c.if-too_small.false in
    laid-whole (records_of (job.Status c.args.row c.args.count) []) c.args.room.now _ (8 + 2 * c.args.count) (status-size c.args.row c.args.count []) fits (status-put c.args.room.now _ c.args.row c.args.count _ c.put_short_head.ensures c.put_outs.ensures)
