-- `trace::bursts::give_burst` meets its contract.
use mathlib.Core.Path.{ap, ◌∙◌}
use Prim.Native.Nat.{ℕ, ◌+◌, ◌-◌, ◌*◌, ◌/◌, ◌≤◌}
use native.Mathlib.Omega.{arith}
use lib.ListN.{length}
use Rattle.target.specs.Sizes.{page_size}
use Rattle.trace.specs.Data.{given_out}
use Rattle.trace.proofs.Runs.{within_both, give-room, given-on}
use Rattle.trace.proofs.bursts.give_burst.Goals as goal

pub overflow_sub-p : goal.overflow_sub-p
overflow_sub-p c =
    let there = give-room c.args.t c.requires.sound.0 c.args.registers.now c.requires.sound.1 c.args.lun c.args.column c.requires.seen_value.1 in
    omega (arith, there.0, c.page_size-p.ensures)

pub overflow_mul-lun : goal.overflow_mul-lun
overflow_mul-lun c =
    let there = give-room c.args.t c.requires.sound.0 c.args.registers.now c.requires.sound.1 c.args.lun c.args.column c.requires.seen_value.1 in
    rw c.page_size-p.ensures (omega (arith, there.1, there.2))

pub overflow_add-lun : goal.overflow_add-lun
overflow_add-lun c =
    let there = give-room c.args.t c.requires.sound.0 c.args.registers.now c.requires.sound.1 c.args.lun c.args.column c.requires.seen_value.1 in
    rw c.page_size-p.ensures (omega (arith, there.0, there.1, there.2))

pub give_out-requires : goal.give_out-requires
give_out-requires c =
    let there = give-room c.args.t c.requires.sound.0 c.args.registers.now c.requires.sound.1 c.args.lun c.args.column c.requires.seen_value.1 in
    let few = within_both (length c.args.records.now / 2 - c.args.i) (c.page_size-p.result - c.args.column.0) c.min-most.ensures c.data_run-k.ensures.upper_bound in
    let room : c.args.column.0 + c.data_run-k.result ≤ page_size c.args.t.geometry = omega (arith, few.1, there.0, c.page_size-p.ensures) in
    (rw c.page_size-p.ensures (omega (arith, room, there.1)), omega (arith, few.0, c.requires.i_in_bounds.0, c.requires.i_in_bounds.1))

pub returns : goal.returns
returns c params flags array counts fit =
    let there = give-room c.args.t c.requires.sound.0 c.args.registers.now c.requires.sound.1 c.args.lun c.args.column c.requires.seen_value.1 in
    let few = within_both (length c.args.records.now / 2 - c.args.i) (c.page_size-p.result - c.args.column.0) c.min-most.ensures c.data_run-k.ensures.upper_bound in
    given-on params flags c.args.records.now array c.args.registers.now counts c.args.room.now c.args.t c.args.i c.requires.i_in_bounds.0 fit c.requires.seen_value.0 c.args.lun c.args.column c.requires.seen_value.1 c.requires.seen_value.2 c.requires.seen_value.3 c.data_run-k.result _ _
    (omega (arith, few.1, there.0, c.page_size-p.ensures)) (omega (arith, few.0, c.requires.i_in_bounds.0)) c.data_run-k.ensures.all_data c.with_output.ensures
    (c.give_out.ensures
    ∙ ap (λ (n : ℕ). given_out c.args.registers.now c.args.i (c.args.lun * n + c.args.column.0) c.data_run-k.result c.args.room.now) c.page_size-p.ensures)
