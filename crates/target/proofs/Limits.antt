-- The house limits as facts on numbers, and the bound that they put on the buffers' lengths.
-- Assumes nothing.
use mathlib.Core.Path.{◌≡◌}
use mathlib.Core.Bool.{true, ◌&&◌}
use Prim.Native.Nat.{ℕ, ◌*◌, ◌≤◌}
use native.Mathlib.Nat.{mul-le-mul}
use native.Mathlib.Omega.{arith}
use lib.Dec.{leb}
use borrow.Author.Tests.{leb-true}
use Rattle.target.specs.declared.Geometry.{Geometry}
use Rattle.target.specs.Sizes.{page_size, within, in_limits}
use Rattle.target.proofs.Both.{both, both5}

pub record Limits (g : Geometry) : Type 0 where
  pub page-min : 16 ≤ page_size g
  pub page-max : page_size g ≤ 18432
  pub bytes-min : 16 ≤ g.bytes
  pub bytes-max : g.bytes ≤ 16384
  pub spare-max : g.spare ≤ 2048
  pub pages-min : 1 ≤ g.pages
  pub pages-max : g.pages ≤ 256
  pub blocks-min : 1 ≤ g.blocks
  pub blocks-max : g.blocks ≤ 4096
  pub luns-min : 1 ≤ g.luns
  pub luns-max : g.luns ≤ 4
  pub programs-min : 1 ≤ g.programs
  pub programs-max : g.programs ≤ 8

bounds : (low x high : ℕ) → within low x high ≡ true → (low ≤ x) × (x ≤ high)
bounds low x high h =
    let p = both (leb low x) (leb x high) h in
    (leb-true low x p.0, leb-true x high p.1)

least : (g : Geometry) → 16 ≤ g.bytes → 16 ≤ page_size g
unfolding page_size
least g h = omega arith

most : (g : Geometry) → g.bytes ≤ 16384 → g.spare ≤ 2048 → page_size g ≤ 18432
unfolding page_size
most g h k = omega arith

pub limits : (g : Geometry) → in_limits g ≡ true → Limits g
unfolding in_limits
limits g h =
    let q = both5 (within 16 g.bytes 16384 && leb g.spare 2048) (within 1 g.pages 256) (within 1 g.blocks 4096) (within 1 g.luns 4) (within 1 g.programs 8) h in
    let p = both (within 16 g.bytes 16384) (leb g.spare 2048) q.0 in
    let main = bounds 16 g.bytes 16384 p.0 in
    let spare = leb-true g.spare 2048 p.1 in
    let pages = bounds 1 g.pages 256 q.1 in
    let blocks = bounds 1 g.blocks 4096 q.2 in
    let luns = bounds 1 g.luns 4 q.3 in
    let programs = bounds 1 g.programs 8 q.4 in
    record {
      page-min = least g main.0;
      page-max = most g main.1 spare;
      bytes-min = main.0;
      bytes-max = main.1;
      spare-max = spare;
      pages-min = pages.0;
      pages-max = pages.1;
      blocks-min = blocks.0;
      blocks-max = blocks.1;
      luns-min = luns.0;
      luns-max = luns.1;
      programs-min = programs.0;
      programs-max = programs.1;
    }

-- how many blocks, pages and bytes there are at most
module _ {g : Geometry} (m : Limits g) where
  pub blocks-all : g.luns * g.blocks ≤ 4 * 4096
  blocks-all = mul-le-mul m.luns-max m.blocks-max

  pub pages-all : g.luns * g.blocks * g.pages ≤ 4 * 4096 * 256
  pages-all = mul-le-mul blocks-all m.pages-max

  pub bytes-all : g.luns * g.blocks * g.pages * page_size g ≤ 4 * 4096 * 256 * 18432
  bytes-all = mul-le-mul pages-all m.page-max

  pub registers-all : g.luns * page_size g ≤ 4 * 18432
  registers-all = mul-le-mul m.luns-max m.page-max
