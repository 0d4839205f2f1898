-- `page_check::page_rules::is_power_of_two` meets its contract. The invariant: n is no power of two below 2 ^ k.
use Rattle.std.proofs.Common.{◌≡◌, false}
use Rattle.page_check.specs.Check.{power_below}
use Rattle.page_check.proofs.page_rules.is_power_of_two.Given as goal

abbrev pub invariant-loop-k : goal.invariant-loop-k
invariant-loop-k l = power_below l.k l.n ≡ false
