-- `step::buffers::wipe` meets its contract.
use native.Mathlib.Omega.{arith}
use Rattle.blocks.proofs.Places.{block-pages-end, block-bytes-end}
use Rattle.step.proofs.buffers.wipe.Goals as goal

pub overflow_mul-first : goal.overflow_mul-first
overflow_mul-first c =
    let pages = block-pages-end c.args.g c.args.r c.requires.g_value.1 in
    let bytes = block-bytes-end c.args.g c.args.r c.requires.g_value.1 in
    rw c.block_index.ensures (omega (arith, pages))

pub overflow_mul-first-2 : goal.overflow_mul-first-2
overflow_mul-first-2 c =
    let pages = block-pages-end c.args.g c.args.r c.requires.g_value.1 in
    let bytes = block-bytes-end c.args.g c.args.r c.requires.g_value.1 in
    rw (c.block_index.ensures, c.page_size-p.ensures) (omega (arith, bytes))

pub overflow_mul-n : goal.overflow_mul-n
overflow_mul-n c =
    let pages = block-pages-end c.args.g c.args.r c.requires.g_value.1 in
    let bytes = block-bytes-end c.args.g c.args.r c.requires.g_value.1 in
    rw c.page_size-p.ensures (omega (arith, bytes))

pub fill_part-requires : goal.fill_part-requires
fill_part-requires c =
    let pages = block-pages-end c.args.g c.args.r c.requires.g_value.1 in
    let bytes = block-bytes-end c.args.g c.args.r c.requires.g_value.1 in
    rw (c.block_index.ensures, c.page_size-p.ensures) (omega (arith, bytes))

pub fill_part-requires-2 : goal.fill_part-requires-2
fill_part-requires-2 c =
    let pages = block-pages-end c.args.g c.args.r c.requires.g_value.1 in
    let bytes = block-bytes-end c.args.g c.args.r c.requires.g_value.1 in
    rw c.block_index.ensures (omega (arith, pages))
