-- `blocks::block_index` meets its contract.
use native.Mathlib.Omega.{arith}
use Rattle.blocks.proofs.Places.{block-below, block-parts}
use Rattle.target.proofs.Limits.{limits, blocks-all}
use Rattle.blocks.proofs.block_index.Goals as goal

pub overflow_mul-result : goal.overflow_mul-result
overflow_mul-result c =
    let end = block-below c.args.g c.args.r c.requires.1 in
    rw c.lun_of.ensures (omega (arith, block-parts c.args.g c.args.r, end, blocks-all (limits _ c.requires.0)))

pub overflow_add-result : goal.overflow_add-result
overflow_add-result c =
    let end = block-below c.args.g c.args.r c.requires.1 in
    rw (c.block_of.ensures, c.lun_of.ensures)
    (omega (arith, block-parts c.args.g c.args.r, end, blocks-all (limits _ c.requires.0)))
