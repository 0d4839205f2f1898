-- `blocks::higher_written` meets its contract.
use native.Mathlib.Omega.{arith}
use Rattle.target.proofs.Limits.{limits, pages-all}
use Rattle.blocks.proofs.Places.{row-page, page-below}
use Rattle.blocks.proofs.higher_written.Goals as goal

pub overflow_add-first : goal.overflow_add-first
overflow_add-first c =
    let below = page-below c.args.g c.args.r c.requires.1 in
    rw c.page_index-first.ensures (omega (arith, below, pages-all (limits _ c.requires.0)))

pub overflow_add-page_of : goal.overflow_add-page_of
overflow_add-page_of c =
    let page = row-page c.args.g c.args.r c.requires.1 in
    rw c.page_of.ensures (omega (arith, page, (limits _ c.requires.0).pages-max))

pub overflow_sub-g : goal.overflow_sub-g
overflow_sub-g c =
    rw c.page_of.ensures (omega (arith, row-page c.args.g c.args.r c.requires.1))
