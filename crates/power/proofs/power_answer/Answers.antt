-- `power::power_answer` meets its contract.
use Rattle.std.proofs.Common.{◌∙◌, sym, ap, arith}
use Rattle.page.proofs.InLimits.{limits}
use Rattle.target.specs.Sizes.{in_limits}
use Rattle.power.proofs.Answers.{limited}
use Rattle.power.proofs.power_answer.Goals as goal

pub sized-requires : goal.sized-requires
sized-requires c =
    ap in_limits c.geometry_of.ensures ∙ limited _ (sym c.fields_in_limits.ensures ∙ c.if-not-fields_in_limits.false)

pub overflow_cast-programs_a_page : goal.overflow_cast-programs_a_page
overflow_cast-programs_a_page c =
    let f = limits _ (sym c.fields_in_limits.ensures ∙ c.if-not-fields_in_limits.false) in
    record { fits = omega (arith, f.programs-max, c.programs_a_page.ensures) }
