-- `blocks::blank_block` meets its contract.
use native.Mathlib.Omega.{arith}
use Rattle.slices.proofs.Splice.{piece}
use Rattle.target.proofs.Limits.{limits, pages-all}
use Rattle.blocks.proofs.blank_block.Goals as goal

pub overflow_mul-b : goal.overflow_mul-b
overflow_mul-b c =
    let end = piece c.args.g.pages c.requires.1 in
    omega (arith, end, pages-all (limits _ c.requires.0))
