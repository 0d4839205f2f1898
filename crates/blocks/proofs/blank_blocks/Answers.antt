-- `blocks::blank_blocks` meets its contract.
use mathlib.Core.Path.{refl}
use native.Mathlib.Omega.{arith}
use Rattle.slices.proofs.Splice.{piece}
use Rattle.target.proofs.Limits.{limits, blocks-all}
use Rattle.blocks.proofs.Walk.{one-block-more, all-walked}
use Rattle.blocks.proofs.blank_blocks.Goals as goal

pub overflow_mul-first : goal.overflow_mul-first
overflow_mul-first c =
    let end = piece c.args.g.blocks c.requires.1 in
    omega (arith, end, blocks-all (limits _ c.requires.0))

pub loop-i-init : goal.loop-i-init
loop-i-init c = record { number = refl; start = refl; small = omega arith; within = omega arith }

pub overflow_add-first : goal.overflow_add-first
overflow_add-first c =
    let end = piece c.args.g.blocks c.requires.1 in
    omega (arith, end, c.loop-i.invariant.start, c.loop-i-test.true, blocks-all (limits _ c.requires.0))

pub blank_block-requires : goal.blank_block-requires
blank_block-requires c =
    let end = piece c.args.g.blocks c.requires.1 in
    (c.requires.0, omega (arith, end, c.loop-i.invariant.start, c.loop-i-test.true))

pub overflow_add-n : goal.overflow_add-n
overflow_add-n c =
    omega (arith, c.one_if-n.ensures.1, c.loop-i.invariant.small, c.loop-i-test.true, (limits _ c.requires.0).blocks-max)

pub loop-i-preserved : goal.loop-i-preserved
loop-i-preserved c =
    let old = c.loop-i.invariant in
    record {
      number = rw (c.one_if-n.ensures.0, c.blank_block.ensures) (one-block-more _ _ _ _ _ _ old.number);
      start = old.start;
      small = omega (arith, c.one_if-n.ensures.1, old.small);
      within = omega (arith, c.loop-i-test.true);
    }

pub returns : goal.returns
returns c =
    let old = c.loop-i.invariant in
    all-walked _ _ _ _ _ _ _ old (omega (arith, c.loop-i-test.false, old.within))
