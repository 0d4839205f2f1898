-- The house limits on a geometry, and the lengths of the lent buffers (document 01, "Power-on and the parameter page").
use Rattle.std.specs.Prelude.{ℕ, ◌+◌, ◌*◌, Bool, ◌&&◌, eqb, leb}
use Rattle.target.specs.Pick.{pick}
use Rattle.target.specs.declared.Geometry.{Geometry}

-- page size P is data plus spare
unfoldable pub page_size : Geometry → ℕ
page_size g = g.bytes + g.spare

-- columns are below P; those of the parameter page, which comes three times over, below 768
abbrev pub column_end : Geometry → Bool → ℕ
column_end g page = pick page 768 (page_size g)

abbrev pub within : ℕ → ℕ → ℕ → Bool
within low x high = leb low x && leb x high

-- data 16 to 16,384; spare 0 to 2,048; pages a block 1 to 256; blocks 1 to 4,096; LUNs 1 to 4;
-- programs a page 1 to 8
unfoldable pub in_limits : Geometry → Bool
in_limits g =
    within 16 g.bytes 16384
    && leb g.spare 2048
    && within 1 g.pages 256
    && within 1 g.blocks 4096
    && within 1 g.luns 4
    && within 1 g.programs 8

-- array LUNs × blocks × pages × P; registers LUNs × P; counts LUNs × blocks × pages; flags LUNs × blocks
unfoldable pub sized : Geometry → ℕ → ℕ → ℕ → ℕ → Bool
sized g array registers counts flags =
    eqb array (g.luns * g.blocks * g.pages * page_size g)
    && eqb registers (g.luns * page_size g)
    && eqb counts (g.luns * g.blocks * g.pages)
    && eqb flags (g.luns * g.blocks)
