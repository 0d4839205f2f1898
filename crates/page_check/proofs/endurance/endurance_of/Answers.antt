-- `page_check::endurance::endurance_of` meets its contract.
use Rattle.std.proofs.Common.{arith}
use Rattle.page_check.proofs.Ten.{product_small}
use Rattle.page_check.proofs.endurance.endurance_of.Goals as goal

pub overflow_mul-result : goal.overflow_mul-result
overflow_mul-result c =
    record { fits = rw c.power_of_ten.ensures (product_small c.field_1.result c.multiplier-m.result (omega arith) c.if-m-gt16.false) }
