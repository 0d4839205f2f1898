-- `target::address::bits_above` meets its contract.
use mathlib.Core.Path.{sym}
use native.Mathlib.Nat.{div-eq_of_lt}
use Rattle.target.proofs.Widths.{past-64}
use Rattle.target.proofs.address.bits_above.Goals as goal

pub returns-else-w-lt64 : goal.returns-else-w-lt64
returns-else-w-lt64 c = sym (div-eq_of_lt (past-64 _ _ c.ranges.x.fits c.if-w-lt64.false))
