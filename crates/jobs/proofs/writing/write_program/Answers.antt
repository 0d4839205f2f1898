-- `jobs::writing::write_program` meets its contract.
use mathlib.Core.Path.{sym, ◌∙◌}
use Prim.Native.Nat.{◌+◌, ◌*◌, ◌≤◌}
use lib.ListN.{length}
use Rattle.jobs.specs.declared.Job.TheVariants as job
use Rattle.jobs.specs.Writing.{records_of}
use Rattle.jobs.proofs.Room.{laid-small, laid-whole}
use Rattle.jobs.proofs.Jobs.{program-size, program-put}
use Rattle.jobs.proofs.writing.write_program.Goals as goal

pub returns-then-too_small : goal.returns-then-too_small
returns-then-too_small c =
    laid-small (records_of (job.Program c.args.column c.args.row) c.args.bytes.now) c.args.room.now (14 + 2 * (length c.args.bytes.now)) (program-size c.args.column c.args.row c.args.bytes.now) (sym c.too_small.ensures.value ∙ c.if-too_small.true)

pub returns : goal.returns
returns c =
    let fits : 14 + 2 * (length c.args.bytes.now) ≤ length c.args.room.now = c.too_small.ensures.fits c.if-too_small.false in
    laid-whole (records_of (job.Program c.args.column c.args.row) c.args.bytes.now) c.args.room.now _ (14 + 2 * (length c.args.bytes.now)) (program-size c.args.column c.args.row c.args.bytes.now) fits (program-put c.args.room.now _ c.args.column c.args.row c.args.bytes.now _ c.put_long_head.ensures c.put_data.ensures)
