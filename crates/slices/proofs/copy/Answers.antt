-- `slices::copy` meets its contract: a sweep towards `src`.
use native.Mathlib.Omega.{arith}
use mathlib.Core.Path.{refl, sym}
use Rattle.slices.proofs.Sweep.{sweep-none, sweep-more, sweep-end}
use Rattle.slices.proofs.copy.Goals as goal

pub loop-i-init : goal.loop-i-init
loop-i-init c = sweep-none _ _

pub bounds-src-i : goal.bounds-src-i
bounds-src-i c = omega (arith, c.loop-i.invariant.as_long)

pub loop-i-preserved : goal.loop-i-preserved
loop-i-preserved c =
    sweep-more (sym c.requires) c.loop-i.invariant _ (omega (arith, c.loop-i.invariant.as_long)) refl

pub shape_of-dst : goal.shape_of-dst
shape_of-dst c = c.loop-i.invariant.as_long

pub returns : goal.returns
returns c = sweep-end (sym c.requires) c.loop-i.invariant (omega (arith, c.loop-i.invariant.as_long))
