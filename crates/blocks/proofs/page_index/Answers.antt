-- `blocks::page_index` meets its contract.
use native.Mathlib.Omega.{arith}
use Rattle.blocks.proofs.Places.{page-below, page-parts, row_block}
use Rattle.target.proofs.Limits.{limits, pages-all}
use Rattle.blocks.proofs.page_index.Goals as goal

pub block_index-requires : goal.block_index-requires
block_index-requires c = (c.requires.0, row_block _ _ c.requires.1)

pub overflow_mul-result : goal.overflow_mul-result
overflow_mul-result c =
    let end = page-below c.args.g c.args.r c.requires.1 in
    rw c.block_index.ensures (omega (arith, page-parts c.args.g c.args.r, end, pages-all (limits _ c.requires.0)))

pub overflow_add-result : goal.overflow_add-result
overflow_add-result c =
    let end = page-below c.args.g c.args.r c.requires.1 in
    rw (c.page_of.ensures, c.block_index.ensures)
    (omega (arith, page-parts c.args.g c.args.r, end, pages-all (limits _ c.requires.0)))
