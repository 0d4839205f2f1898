-- `target::sizes::sized` meets its contract.
use native.Mathlib.Omega.{arith}
use Rattle.target.proofs.Limits.{limits, blocks-all, pages-all, bytes-all, registers-all}
use Rattle.target.proofs.sizes.sized.Goals as goal

pub overflow_mul-blocks : goal.overflow_mul-blocks
overflow_mul-blocks c = omega (arith, blocks-all (limits c.args.g c.requires))

pub overflow_mul-pages : goal.overflow_mul-pages
overflow_mul-pages c = omega (arith, pages-all (limits c.args.g c.requires))

pub overflow_mul-bytes : goal.overflow_mul-bytes
overflow_mul-bytes c =
    rw c.page_size-p.ensures (omega (arith, bytes-all (limits c.args.g c.requires)))

pub overflow_mul-registered : goal.overflow_mul-registered
overflow_mul-registered c =
    rw c.page_size-p.ensures (omega (arith, registers-all (limits c.args.g c.requires)))
