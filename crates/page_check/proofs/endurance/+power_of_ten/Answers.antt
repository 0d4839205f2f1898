-- `page_check::endurance::power_of_ten` meets its contract.
use Rattle.std.proofs.Common.{◌-◌}
use native.Mathlib.Omega.{arith}
use Rattle.page_check.proofs.Ten.{ten-more, ten-small}
use Rattle.page_check.proofs.endurance.+power_of_ten.Goals as goal

pub overflow_mul-result : goal.overflow_mul-result
overflow_mul-result t c =
    let m = c.args.m in
    let h = ten-small (m - 1) 15 (omega (arith, c.requires)) in
    let e = c.power_of_ten.ensures in
    record { fits = omega arith }

pub returns-else-m-eq0 : goal.returns-else-m-eq0
returns-else-m-eq0 t c = rw c.power_of_ten.ensures (ten-more c.args.m c.if-m-eq0.false)
