-- Where a page and its block stand in the counts and flags, and what those say of them (document 01, "Addresses", "Program"; document
-- 02, A4, A7). Pages lie in order of LUN, block, page.
use Rattle.std.specs.Prelude.{Bool, ◌&&◌, not, List, ℕ, zero, suc, ◌+◌, ◌-◌, ◌*◌, get_or, eqb, leb}
use Rattle.slices.specs.Cells.{part, some_set}
use Rattle.target.specs.Pick.{pick}
use Rattle.target.specs.Words.{has_feature}
use Rattle.target.specs.Address.{page_of, block_of, lun_of}
use Rattle.target.specs.declared.Row.{Row}
use Rattle.target.specs.declared.Geometry.{Geometry}
use Rattle.target.specs.declared.Words.{Words}

-- the row's block and page, counted over all LUNs
unfoldable pub block_index : Geometry → Row → ℕ
block_index g r = lun_of g r * g.blocks + block_of g r

unfoldable pub page_index : Geometry → Row → ℕ
page_index g r = block_index g r * g.pages + page_of g r

-- the block's flag is not 0
unfoldable pub block_bad : Geometry → Row → List ℕ → Bool
block_bad g r flags = not (eqb (get_or flags (block_index g r) 0) 0)

-- the page's count is at or above programs a page
unfoldable pub page_full : Geometry → Row → List ℕ → Bool
page_full g r counts = leb g.programs (get_or counts (page_index g r) 0)

-- a higher page of its block has a count above 0
unfoldable pub higher_written : Geometry → Row → List ℕ → Bool
higher_written g r counts = some_set (part counts (page_index g r + 1) (g.pages - (page_of g r + 1)))

-- pages are programmed upward within a block, unless feature bit 2 offers any order (document 02, A4)
unfoldable pub out_of_order : Geometry → Words → Row → List ℕ → Bool
out_of_order g w r counts = not (has_feature w 2) && higher_written g r counts

-- A7: the block, counted over all LUNs, is not bad and all its counts are 0
unfoldable pub blank_block : Geometry → ℕ → List ℕ → List ℕ → Bool
blank_block g b counts flags = eqb (get_or flags b 0) 0 && not (some_set (part counts (b * g.pages) g.pages))

-- how many of the n blocks from this one on are blank
abbrev pub blanks_from : Geometry → ℕ → ℕ → List ℕ → List ℕ → ℕ
blanks_from g first zero counts flags = 0
blanks_from g first (suc n) counts flags = blanks_from g first n counts flags + pick (blank_block g (first + n) counts flags) 1 0

-- how many blocks of the LUN are blank: the walk over all its counts
unfoldable pub blank_blocks : Geometry → ℕ → List ℕ → List ℕ → ℕ
blank_blocks g l counts flags = blanks_from g (l * g.blocks) g.blocks counts flags
