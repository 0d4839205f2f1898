-- `power::geometry_of` meets its contract.
use Rattle.std.proofs.Common.{arith}
use Rattle.page.proofs.InLimits.{limits}
use Rattle.power.proofs.geometry_of.Goals as goal

pub overflow_cast-result : goal.overflow_cast-result
overflow_cast-result c =
    let f = limits _ c.requires in
    record { fits = omega (arith, f.data-max, c.data_bytes.ensures) }

pub overflow_cast-result-2 : goal.overflow_cast-result-2
overflow_cast-result-2 c =
    let f = limits _ c.requires in
    record { fits = omega (arith, f.spare-max, c.spare_bytes.ensures) }
