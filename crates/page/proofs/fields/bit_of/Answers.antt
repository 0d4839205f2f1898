-- `page::fields::bit_of` meets its contract.
use mathlib.Core.Path.{◌≡◌}
use mathlib.Core.Bool.{false}
use Prim.Native.Nat.{◌<◌, ◌^◌}
use native.Mathlib.Nat.{div-eq_of_lt, lt_of_lt_of_le}
use lib.Pow.{pow_mono}
use lib.Dec.{ltb}
use borrow.Author.Tests.{le-ltb}
use Rattle.page.specs.Page.{bit_of}
use Rattle.page.proofs.fields.bit_of.Goals as goal

pub returns-else-k-lt16 : goal.returns-else-k-lt16
unfolding bit_of
returns-else-k-lt16 c =
    let x = c.args.x in
    let k = c.args.k in
    let small : x < 2 ^ k = lt_of_lt_of_le c.ranges.x.fits (pow_mono c.if-k-lt16.false) in
    let past : ltb k 16 ≡ false = le-ltb k 16 c.if-k-lt16.false in
    rw (past, div-eq_of_lt small)
