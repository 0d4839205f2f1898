-- `trace::step_known` meets its contract.
use mathlib.Core.Path.{sym, ◌∙◌}
use Rattle.step.proofs.Sound.{passes}
use Rattle.step.specs.Step.{step_of}
use Rattle.trace.proofs.step_known.Goals as goal

pub returns-then-not-ok : goal.returns-then-not-ok
unfolding step_of
returns-then-not-ok c =
    let bad = sym c.requires ∙ c.if-not-ok.true in
    rw bad

pub steady-requires : goal.steady-requires
steady-requires c =
    let u = passes c.args.t c.args.params.now c.args.array.now c.args.registers.now c.args.counts.now c.args.flags.now (sym c.requires ∙ c.if-not-ok.false) in
    record { t_value = u.record-sound; sizes = u.sizes }

pub returns : goal.returns
unfolding step_of
returns c =
    let ok = sym c.requires ∙ c.if-not-ok.false in
    rw (ok) c.steady.ensures
