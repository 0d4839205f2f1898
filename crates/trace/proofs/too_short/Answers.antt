-- `trace::too_short` meets its contract.
use mathlib.Core.Path.{◌≡◌}
use Prim.Native.Nat.{◌+◌, ◌%◌}
use native.Mathlib.Omega.{arith}
use Rattle.trace.proofs.Turns.{at_most}
use Rattle.trace.specs.Run.{needed}
use Rattle.trace.proofs.too_short.Goals as goal

pub returns-then-n-eq1 : goal.returns-then-n-eq1
unfolding needed
returns-then-n-eq1 c = rw c.if-n-eq1.true (at_most c.args.room c.args.n)

pub returns-else-n-eq1 : goal.returns-else-n-eq1
unfolding needed
returns-else-n-eq1 c =
    let even : c.args.n % 2 ≡ 0 = omega (arith, c.if-n-eq1.false) in
    let all : c.args.n + c.args.n % 2 ≡ c.args.n = omega arith in
    rw (all)
