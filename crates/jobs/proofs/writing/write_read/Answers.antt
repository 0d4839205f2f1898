-- `jobs::writing::write_read` meets its contract.
use mathlib.Core.List.{[]}
use Prim.Native.Nat.{◌+◌, ◌*◌, ◌≤◌}
use lib.ListN.{length}
use Rattle.jobs.specs.declared.Job.TheVariants as job
use Rattle.jobs.specs.Writing.{records_of}
use Rattle.jobs.proofs.Room.{laid-whole}
use Rattle.jobs.proofs.Jobs.{read-size, read-put}
use Rattle.jobs.proofs.writing.write_read.Goals as goal

pub returns : goal.returns
returns c =
    let fits : 14 + 2 * 0 ≤ length c.args.room.now = c.too_small.ensures.fits c.if-too_small.false in
    laid-whole (records_of (job.Read c.args.column c.args.row) []) c.args.room.now _ (14 + 2 * 0) (read-size c.args.column c.args.row []) fits (read-put c.args.room.now _ c.args.column c.args.row c.put_long_head.ensures)
