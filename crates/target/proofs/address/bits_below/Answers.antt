-- `target::address::bits_below` meets its contract.
use mathlib.Core.Path.{sym}
use native.Mathlib.Nat.{mod-eq_of_lt}
use Rattle.target.proofs.Widths.{past-64, one_shifted}
use Rattle.target.proofs.address.bits_below.Goals as goal

pub returns-then-w-lt64 : goal.returns-then-w-lt64
returns-then-w-lt64 c = rw (one_shifted _ c.if-w-lt64.true)

pub returns-else-w-lt64 : goal.returns-else-w-lt64
returns-else-w-lt64 c = sym (mod-eq_of_lt (past-64 _ _ c.ranges.x.fits c.if-w-lt64.false))
