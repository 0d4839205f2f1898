-- `jobs::writing::write_erase` meets its contract.
use mathlib.Core.List.{[]}
use Prim.Native.Nat.{◌+◌, ◌*◌, ◌≤◌}
use lib.ListN.{length}
use Rattle.jobs.specs.declared.Job.TheVariants as job
use Rattle.jobs.specs.Writing.{records_of}
use Rattle.jobs.proofs.Room.{laid-whole}
use Rattle.jobs.proofs.Jobs.{erase-size, erase-put}
use Rattle.jobs.proofs.writing.write_erase.Goals as goal

pub returns : goal.returns
returns c =
    let fits : 10 + 2 * 0 ≤ length c.args.room.now = c.too_small.ensures.fits c.if-too_small.false in
    laid-whole (records_of (job.Erase c.args.row) []) c.args.room.now _ (10 + 2 * 0) (erase-size c.args.row []) fits (erase-put c.args.room.now _ c.args.row c.put_short_head.ensures)
