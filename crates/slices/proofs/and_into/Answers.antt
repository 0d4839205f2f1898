-- `slices::and_into` meets its contract: a sweep towards the ANDed list.
use Prim.Native.Nat.{ℕ, ◌<◌}
use native.Mathlib.Omega.{arith}
use mathlib.Core.Path.{sym, ap, ◌∙◌}
use lib.ListN.{length, get_or}
use lib.Bits.{bit_and}
use Rattle.slices.proofs.Anded.{length-and, get_or-and}
use Rattle.slices.proofs.Sweep.{sweep-none, sweep-more, sweep-end, sweep-read}
use Rattle.slices.proofs.and_into.Goals as goal

pub loop-i-init : goal.loop-i-init
loop-i-init c = sweep-none _ _

pub bounds-src-i : goal.bounds-src-i
bounds-src-i c = omega (arith, c.loop-i.invariant.as_long)

pub loop-i-preserved : goal.loop-i-preserved
loop-i-preserved c =
    let i = c.loop-i.i in
    let old = c.args.dst.now in
    let src = c.args.src.now in
    let below : i < length old = c.loop-i-test.true in
    let test : i < length c.loop-i.dst = omega (arith, c.loop-i.invariant.as_long) in
    sweep-more (length-and old src) c.loop-i.invariant _ test
    (ap (λ (x : ℕ). bit_and x (get_or src i 0)) (sweep-read (length-and old src) c.loop-i.invariant test)
    ∙ sym (get_or-and old src i below (omega arith)))

pub shape_of-dst : goal.shape_of-dst
shape_of-dst c = c.loop-i.invariant.as_long

pub returns : goal.returns
returns c =
    sweep-end (length-and c.args.dst.now c.args.src.now) c.loop-i.invariant (omega (arith, c.loop-i.invariant.as_long))
