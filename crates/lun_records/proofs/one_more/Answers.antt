-- `lun_records::one_more` meets its contract.
use native.Mathlib.Omega.{arith}
use borrow.Author.Tests.{lt-ltb, le-ltb}
use Rattle.target.proofs.Limits.{limits}
use Rattle.lun_records.proofs.one_more.Goals as goal

pub overflow_add-result : goal.overflow_add-result
overflow_add-result c =
    omega (arith, (limits _ c.requires).blocks-max, c.if-n-g.true)

pub returns-then-n-g : goal.returns-then-n-g
returns-then-n-g c = rw (lt-ltb _ _ c.if-n-g.true)

pub returns-else-n-g : goal.returns-else-n-g
returns-else-n-g c = rw (le-ltb _ _ c.if-n-g.false)
