-- `nib_sizes::lengths_of` meets its contract.
use native.Mathlib.Omega.{arith}
use Rattle.target.proofs.Limits.{limits, blocks-all, pages-all, bytes-all, registers-all}
use Rattle.nib_sizes.proofs.lengths_of.Goals as goal

pub overflow_mul-flags : goal.overflow_mul-flags
overflow_mul-flags c = omega (arith, blocks-all (limits c.args.g c.requires))

pub overflow_mul-counts : goal.overflow_mul-counts
overflow_mul-counts c = omega (arith, pages-all (limits c.args.g c.requires))

pub overflow_mul-result : goal.overflow_mul-result
overflow_mul-result c =
    let most = bytes-all (limits c.args.g c.requires) in
    rw c.page_size-p.ensures (omega (arith, most))

pub overflow_mul-result-2 : goal.overflow_mul-result-2
overflow_mul-result-2 c =
    let most = registers-all (limits c.args.g c.requires) in
    rw c.page_size-p.ensures (omega (arith, most))
