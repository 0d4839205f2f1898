-- Places in the buffers: a row that exists has its block, its page and its register within, and no product on the way wraps.
-- Assumes nothing.
use mathlib.Core.Path.{◌≡◌, refl}
use mathlib.Core.Bool.{true}
use Prim.Native.Nat.{◌+◌, ◌*◌, ◌≤◌, ◌<◌}
use native.Mathlib.Nat.{mul-le-mul_right, add-mul}
use lib.Arith.{digits_lt}
use lib.Dec.{ltb}
use borrow.Author.Tests.{ltb-true}
use Rattle.slices.proofs.Splice.{piece}
use Rattle.target.specs.declared.Geometry.{Geometry}
use Rattle.target.specs.declared.Row.{Row}
use Rattle.target.specs.Sizes.{page_size}
use Rattle.target.specs.Address.{page_of, block_of, lun_of, lun_exists, block_exists, row_exists}
use Rattle.target.proofs.Both.{both}
use Rattle.blocks.specs.Blocks.{block_index, page_index}

pub lun-below : (g : Geometry) (r : Row) → lun_exists g r ≡ true → lun_of g r < g.luns
unfolding lun_exists
lun-below g r h = ltb-true _ _ h

pub record Block (g : Geometry) (r : Row) : Type 0 where
  pub lun : lun_of g r < g.luns
  pub block : block_of g r < g.blocks

pub block-there : (g : Geometry) (r : Row) → block_exists g r ≡ true → Block g r
unfolding block_exists
block-there g r h =
    let p = both (ltb (block_of g r) g.blocks) (lun_exists g r) h in
    record { lun = lun-below g r p.1; block = ltb-true _ _ p.0 }

pub row_block : (g : Geometry) (r : Row) → row_exists g r ≡ true → block_exists g r ≡ true
unfolding row_exists
row_block g r h = (both (ltb (page_of g r) g.pages) (block_exists g r) h).1

pub row-page : (g : Geometry) (r : Row) → row_exists g r ≡ true → page_of g r < g.pages
unfolding row_exists
row-page g r h = ltb-true _ _ (both (ltb (page_of g r) g.pages) (block_exists g r) h).0

pub row-lun : (g : Geometry) (r : Row) → row_exists g r ≡ true → lun_of g r < g.luns
row-lun g r h = (block-there g r (row_block g r h)).lun

module _ (g : Geometry) (r : Row) (there : block_exists g r ≡ true) where
  pub block-below : block_index g r < g.luns * g.blocks
  unfolding block_index
  block-below = digits_lt (block-there g r there).lun (block-there g r there).block

  -- the block's pages, and its bytes
  pub block-pages-end : block_index g r * g.pages + g.pages ≤ g.luns * g.blocks * g.pages
  block-pages-end = piece g.pages block-below

  pub block-bytes-end : block_index g r * g.pages * page_size g + g.pages * page_size g ≤ g.luns * g.blocks * g.pages * page_size g
  block-bytes-end = rw (← add-mul (block_index g r * g.pages) g.pages (page_size g)) (mul-le-mul_right (page_size g) block-pages-end)

module _ (g : Geometry) (r : Row) (there : row_exists g r ≡ true) where
  pub page-below : page_index g r < g.luns * g.blocks * g.pages
  unfolding page_index
  page-below = digits_lt (block-below g r (row_block g r there)) (row-page g r there)

  pub page-bytes-end : page_index g r * page_size g + page_size g ≤ g.luns * g.blocks * g.pages * page_size g
  page-bytes-end = piece (page_size g) page-below

  pub register-end : lun_of g r * page_size g + page_size g ≤ g.luns * page_size g
  register-end = piece (page_size g) (row-lun g r there)

-- an index is the sum of its parts
pub block-parts : (g : Geometry) (r : Row) → block_index g r ≡ lun_of g r * g.blocks + block_of g r
unfolding block_index
block-parts g r = refl

pub page-parts : (g : Geometry) (r : Row) → page_index g r ≡ block_index g r * g.pages + page_of g r
unfolding page_index
page-parts g r = refl
