-- Columns and rows as their bytes; a row of each LUN.
-- Assumes nothing.
use mathlib.Core.Path.{◌≡◌}
use mathlib.Core.Bool.{true, ◌&&◌}
use Prim.Native.Nat.{ℕ, ◌+◌, ◌*◌, ◌/◌, ◌%◌, ◌^◌, ◌≤◌, ◌<◌}
use native.Mathlib.Nat.{div-lt_iff_lt-mul, mul-le-mul, mul-mod_left}
use native.Mathlib.Omega.{arith}
use lib.Dec.{ltb}
use lib.Pow.{pow_pos, pow_mono, shl-shr}
use borrow.Author.Tests.{lt-ltb}
use Rattle.target.specs.Address.{field_width, column_from, row_from, page_of, block_of, lun_of, lun_exists, block_exists, row_exists}
use Rattle.target.specs.declared.Column.{Column}
use Rattle.target.specs.declared.Row.{Row}
use Rattle.target.specs.declared.Geometry.{Geometry}
use Rattle.target.proofs.Limits.{Limits}
use Rattle.target.proofs.Widths.{width-fewest}
use Rattle.thm_kept.proofs.Choice.{and-true}

pub column-bytes : (c : Column) → column_from (c.0 % 256) (c.0 / 256) ≡ c
unfolding column_from
column-bytes c =
    let whole : c.0 % 256 + 256 * (c.0 / 256) ≡ c.0 = omega arith in
    λ i. record { 0 = whole i }

pub row-bytes : (r : Row) → row_from (r.0 % 256) (r.0 / 256 % 256) (r.0 / 256 / 256) ≡ r
unfolding row_from
row-bytes r =
    let whole : r.0 % 256 + 256 * (r.0 / 256 % 256) + 65536 * (r.0 / 256 / 256) ≡ r.0 = omega arith in
    λ i. record { 0 = whole i }

module _ (g : Geometry) (m : Limits g) where
  -- page, block and LUN field together are at most 22 bits
  pub row_small : (r : Row) → lun_of g r < g.luns → r.0 / 256 / 256 ≤ 255
  unfolding lun_of
  row_small r h =
      let p = 2 ^ field_width g.pages in
      let b = 2 ^ field_width g.blocks in
      let pages : p ≤ 2 ^ 8 = pow_mono (width-fewest g.pages 8 (omega arith)) in
      let blocks : b ≤ 2 ^ 12 = pow_mono (width-fewest g.blocks 12 (omega arith)) in
      let within : r.0 / p < g.luns * b = (div-lt_iff_lt-mul (pow_pos (field_width g.blocks))).0 h in
      let below : r.0 < g.luns * b * p = (div-lt_iff_lt-mul (pow_pos (field_width g.pages))).0 within in
      let most : g.luns * b * p ≤ 4 * 2 ^ 12 * 2 ^ 8 = mul-le-mul (mul-le-mul m.luns-max blocks) pages in
      omega arith

-- the first page of the first block of a LUN
pub row_at : Geometry → ℕ → Row
row_at g l = record { 0 = l * 2 ^ field_width g.blocks * 2 ^ field_width g.pages }

pub lun-at : (g : Geometry) (l : ℕ) → lun_of g (row_at g l) ≡ l
unfolding lun_of row_at
lun-at g l = rw (shl-shr (l * 2 ^ field_width g.blocks) (field_width g.pages)) (shl-shr l (field_width g.blocks))

block_at : (g : Geometry) (l : ℕ) → block_of g (row_at g l) ≡ 0
unfolding block_of row_at
block_at g l = rw (shl-shr (l * 2 ^ field_width g.blocks) (field_width g.pages)) (mul-mod_left l (2 ^ field_width g.blocks))

page-at : (g : Geometry) (l : ℕ) → page_of g (row_at g l) ≡ 0
unfolding page_of row_at
page-at g l = mul-mod_left (l * 2 ^ field_width g.blocks) (2 ^ field_width g.pages)

module _ (g : Geometry) (m : Limits g) (l : ℕ) (h : l < g.luns) where
  pub lun-there : lun_exists g (row_at g l) ≡ true
  unfolding lun_exists
  lun-there = rw (lun-at g l) (lt-ltb l g.luns h)

  pub row-there : row_exists g (row_at g l) ≡ true
  unfolding row_exists block_exists
  row-there =
      and-true (ltb (page_of g (row_at g l)) g.pages) (ltb (block_of g (row_at g l)) g.blocks && lun_exists g (row_at g l))
      (rw (page-at g l) (lt-ltb 0 g.pages m.pages-min))
      (and-true (ltb (block_of g (row_at g l)) g.blocks) (lun_exists g (row_at g l)) (rw (block_at g l) (lt-ltb 0 g.blocks m.blocks-min)) lun-there)
