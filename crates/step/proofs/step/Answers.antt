-- `step::step` meets its contract.
use mathlib.Core.Path.{sym, ◌∙◌}
use Rattle.step.proofs.Sound.{passes}
use Rattle.step.proofs.step.Goals as goal

pub steady-requires : goal.steady-requires
steady-requires c =
    let ok = sym c.usable.ensures ∙ c.if-not-usable.false in
    let u = passes c.args.t c.args.params.now c.args.array.now c.args.registers.now c.args.counts.now c.args.flags.now ok in
    record { t_value = u.record-sound; sizes = u.sizes }
