-- `target::address::width` meets its contract.
use Prim.Native.Nat.{◌-◌, ◌^◌, ◌<◌}
use native.Mathlib.Omega.{arith}
use lib.Count.{leading_le}
use Rattle.target.proofs.Widths.{width-counted}
use Rattle.target.specs.Address.{bits_of, field_width}
use Rattle.target.proofs.address.width.Goals as goal

pub overflow_sub-result-else-n-eq0 : goal.overflow_sub-result-else-n-eq0
overflow_sub-result-else-n-eq0 c = leading_le 64 _

pub returns-then-n-eq0 : goal.returns-then-n-eq0
unfolding field_width bits_of
returns-then-n-eq0 c = rw c.if-n-eq0.true

pub returns-else-n-eq0 : goal.returns-else-n-eq0
returns-else-n-eq0 c =
    let small : c.args.n - 1 < 2 ^ 64 = omega (arith, c.ranges.n.fits) in
    width-counted _ small
