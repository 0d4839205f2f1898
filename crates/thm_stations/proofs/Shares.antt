-- Where a row's page and block lie within the share of its LUN, in the array and in the counts.
-- Assumes nothing.
use mathlib.Core.Path.{◌≡◌}
use mathlib.Core.Bool.{true}
use Prim.Native.Nat.{ℕ, ◌+◌, ◌*◌, ◌≤◌, ◌<◌}
use native.Mathlib.Nat.{add-mul, mul_assoc, add_assoc}
use native.Mathlib.Omega.{arith}
use lib.Arith.{digits_lt}
use Rattle.slices.proofs.Splice.{piece}
use Rattle.target.specs.Address.{page_of, block_of, lun_of, block_exists, row_exists}
use Rattle.target.specs.Sizes.{page_size}
use Rattle.target.specs.declared.Geometry.{Geometry}
use Rattle.target.specs.declared.Row.{Row}
use Rattle.blocks.specs.Blocks.{block_index, page_index}
use Rattle.blocks.proofs.Places.{block-there, row_block, row-page, block-parts, page-parts}
use Rattle.thm_stations.specs.Isolated.{lun_bytes, lun_pages}

-- the i-th of b pieces of n within the l-th piece of b * n
module _ (l b i n : ℕ) where
  split : (l * b + i) * n ≡ l * (b * n) + i * n
  split = simp (add-mul, mul_assoc)

  nested-low : l * (b * n) ≤ (l * b + i) * n
  nested-low = omega (arith, split)

  nested-high : i < b → (l * b + i) * n + n ≤ l * (b * n) + b * n
  nested-high h = omega (arith, split, piece n h)

module _ (g : Geometry) (r : Row) where
  -- the row's page, counted from its LUN's first
  pub page_within : ℕ
  page_within = block_of g r * g.pages + page_of g r

  -- a block's counts
  pub block-low : lun_of g r * lun_pages g ≤ block_index g r * g.pages
  block-low = rw (block-parts g r) (nested-low (lun_of g r) g.blocks (block_of g r) g.pages)

  -- a block's bytes
  pub block-bytes-low : lun_of g r * lun_bytes g ≤ block_index g r * g.pages * page_size g
  block-bytes-low =
      rw (mul_assoc (block_index g r) g.pages (page_size g), mul_assoc g.blocks g.pages (page_size g), block-parts g r)
      (nested-low (lun_of g r) g.blocks (block_of g r) (g.pages * page_size g))

  -- a page's count
  pub page-place : page_index g r ≡ lun_of g r * lun_pages g + page_within
  unfolding page_within
  page-place =
      rw (page-parts g r, block-parts g r, split (lun_of g r) g.blocks (block_of g r) g.pages) (add_assoc _ _ _)

  pub page-low : lun_of g r * lun_pages g ≤ page_index g r
  page-low = omega (arith, page-place)

  -- a page's bytes
  pub page-bytes-low : lun_of g r * lun_bytes g ≤ page_index g r * page_size g
  page-bytes-low = rw page-place (nested-low (lun_of g r) (lun_pages g) page_within (page_size g))

  module _ (there : block_exists g r ≡ true) where
    pub block-high : block_index g r * g.pages + g.pages ≤ lun_of g r * lun_pages g + lun_pages g
    block-high = rw (block-parts g r) (nested-high (lun_of g r) g.blocks (block_of g r) g.pages (block-there g r there).block)

    pub block-bytes-high : block_index g r * g.pages * page_size g + g.pages * page_size g ≤ lun_of g r * lun_bytes g + lun_bytes g
    block-bytes-high =
        rw (mul_assoc (block_index g r) g.pages (page_size g), mul_assoc g.blocks g.pages (page_size g), block-parts g r)
        (nested-high (lun_of g r) g.blocks (block_of g r) (g.pages * page_size g) (block-there g r there).block)

  module _ (there : row_exists g r ≡ true) where
    pub page-within : page_within < lun_pages g
    unfolding page_within
    page-within = digits_lt (block-there g r (row_block g r there)).block (row-page g r there)

    pub page-high : page_index g r + 1 ≤ lun_of g r * lun_pages g + lun_pages g
    page-high = omega (arith, page-place, page-within)

    pub page-bytes-high : page_index g r * page_size g + page_size g ≤ lun_of g r * lun_bytes g + lun_bytes g
    page-bytes-high = rw page-place (nested-high (lun_of g r) (lun_pages g) page_within (page_size g) page-within)
