-- `trace::bursts::fill_burst` meets its contract.
use mathlib.Core.Path.{ap₂, ◌∙◌}
use Prim.Native.Nat.{ℕ, ◌-◌, ◌*◌, ◌/◌}
use native.Mathlib.Omega.{arith}
use lib.ListN.{length}
use Rattle.trace.specs.Data.{taken_in}
use Rattle.trace.proofs.Runs.{within_both, fill-room, filled_on}
use Rattle.trace.proofs.bursts.fill_burst.Goals as goal

pub overflow_sub-p : goal.overflow_sub-p
overflow_sub-p c =
    let there = fill-room c.args.t c.requires.sound.0 c.args.registers.now c.requires.sound.1 c.args.fill c.requires.seen_value.1 in
    omega (arith, there.0, c.page_size-p.ensures)

pub overflow_mul-l : goal.overflow_mul-l
overflow_mul-l c =
    let there = fill-room c.args.t c.requires.sound.0 c.args.registers.now c.requires.sound.1 c.args.fill c.requires.seen_value.1 in
    rw (c.lun_of-l.ensures, c.page_size-p.ensures) (omega (arith, there.1, there.2))

pub take_in-requires : goal.take_in-requires
take_in-requires c =
    let there = fill-room c.args.t c.requires.sound.0 c.args.registers.now c.requires.sound.1 c.args.fill c.requires.seen_value.1 in
    let few = within_both (length c.args.records.now / 2 - c.args.i) (c.page_size-p.result - c.args.fill.at.0) c.min-most.ensures c.data_run-k.ensures.upper_bound in record { page_in_bounds = rw (c.lun_of-l.ensures, c.page_size-p.ensures) there.1; k_bound = (omega (arith, few.1, there.0, c.page_size-p.ensures), omega (arith, few.0, c.requires.i_in_bounds.0), c.requires.i_in_bounds.1) }

pub returns : goal.returns
returns c params flags array counts fit =
    let there = fill-room c.args.t c.requires.sound.0 c.args.registers.now c.requires.sound.1 c.args.fill c.requires.seen_value.1 in
    let few = within_both (length c.args.records.now / 2 - c.args.i) (c.page_size-p.result - c.args.fill.at.0) c.min-most.ensures c.data_run-k.ensures.upper_bound in
    filled_on params flags c.args.records.now array c.args.registers.now counts c.args.room.now c.args.t c.args.i c.requires.i_in_bounds.0 fit c.requires.seen_value.0 c.args.fill c.requires.seen_value.1 c.data_run-k.result _ _ _
    (omega (arith, few.1, there.0, c.page_size-p.ensures)) (omega (arith, few.0, c.requires.i_in_bounds.0)) c.data_run-k.ensures.all_data c.with_place.ensures
    (c.take_in.ensures
    ∙ ap₂ (λ (l n : ℕ). taken_in n (l * n) c.args.records.now c.args.i c.args.fill.at.0 c.data_run-k.result (record { registers = c.args.registers.now; room = c.args.room.now })) c.lun_of-l.ensures c.page_size-p.ensures)
