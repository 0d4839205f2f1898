-- `jobs::writing::write_read_out` meets its contract.
use mathlib.Core.Path.{sym, ◌∙◌}
use mathlib.Core.List.{[]}
use Prim.Native.Nat.{◌+◌, ◌*◌, ◌≤◌}
use lib.ListN.{length}
use Rattle.jobs.specs.declared.Job.TheVariants as job
use Rattle.jobs.specs.Writing.{records_of}
use Rattle.jobs.proofs.Room.{laid-small, laid-whole}
use Rattle.jobs.proofs.Jobs.{read-out-size, read-out-put}
use Rattle.jobs.proofs.writing.write_read_out.Goals as goal

pub returns-then-too_small : goal.returns-then-too_small
returns-then-too_small c =
    laid-small (records_of (job.ReadOut c.args.column c.args.row c.args.count) []) c.args.room.now (14 + 2 * c.args.count) (read-out-size c.args.column c.args.row c.args.count []) (sym c.too_small.ensures.value ∙ c.if-too_small.true)

pub returns : goal.returns
returns c =
    let fits : 14 + 2 * c.args.count ≤ length c.args.room.now = c.too_small.ensures.fits c.if-too_small.false in
    laid-whole (records_of (job.ReadOut c.args.column c.args.row c.args.count) []) c.args.room.now _ (14 + 2 * c.args.count) (read-out-size c.args.column c.args.row c.args.count []) fits (read-out-put c.args.room.now _ c.args.column c.args.row c.args.count _ c.put_long_head.ensures c.put_outs.ensures)
