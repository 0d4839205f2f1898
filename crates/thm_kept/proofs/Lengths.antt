-- Work that stays within the buffers keeps their lengths.
-- Assumes nothing.
use mathlib.Core.Path.{◌≡◌, refl, ◌∙◌}
use mathlib.Core.List.{List}
use Prim.Native.Nat.{ℕ, ◌+◌, ◌*◌, ◌≤◌}
use native.Mathlib.Omega.{arith}
use lib.ListN.{length, length-set, length-replicate}
use Rattle.slices.specs.Cells.{part}
use Rattle.slices.proofs.Splice.{length-splice, length_part, piece}
use Rattle.slices.proofs.Anded.{length-and}
use Rattle.target.specs.Address.{lun_of}
use Rattle.target.specs.Sizes.{page_size}
use Rattle.target.specs.declared.Geometry.{Geometry}
use Rattle.target.specs.declared.Work.{Work}
use Rattle.target.specs.declared.Work.TheVariants as work
use Rattle.blocks.specs.Blocks.{block_index, page_index}
use Rattle.step.specs.Buffers.{registers_after, array_after, counts_after}
use Rattle.step.specs.Step.{Sizes, Ready}
use Rattle.blocks.proofs.Places.{block-pages-end, block-bytes-end, page-bytes-end, register-end}

-- the length of a part, by its name
pub part_length : (xs : List ℕ) (at n : ℕ) → at + n ≤ length xs → length (part xs at n) ≡ n
unfolding part
part_length xs at n h = length_part xs at n h

module _ (g : Geometry) (array registers counts : List ℕ) (sizes : Sizes g array registers counts) where
  pub array-length : (w : Work) → Ready g w counts → length (array_after g w array registers) ≡ length array
  unfolding array_after Ready
  array-length work.Nothing ok = refl
  array-length work.ClearAll ok = refl
  array-length (work.ClearOne l) ok = refl
  array-length (work.Load r) ok = refl
  array-length (work.Put l c v) ok = refl
  array-length (work.Program r) ok =
      let at = page_index g r * page_size g in
      let fits : at + page_size g ≤ length array = omega (arith, page-bytes-end g r ok.0, sizes.array_size) in
      length-splice array at (page_size g) _ fits (length-and (part array at (page_size g)) (part registers (lun_of g r * page_size g) (page_size g)) ∙ part_length array at (page_size g) fits)
  array-length (work.Erase r) ok =
      let fits : block_index g r * g.pages * page_size g + g.pages * page_size g ≤ length array = omega (arith, block-bytes-end g r ok, sizes.array_size) in
      length-splice array _ (g.pages * page_size g) _ fits (length-replicate _ _)

  pub registers-length : (w : Work) → Ready g w counts → length (registers_after g w array registers) ≡ length registers
  unfolding registers_after Ready
  registers-length work.Nothing ok = refl
  registers-length work.ClearAll ok = length-replicate _ _
  registers-length (work.ClearOne l) ok =
      let fits : l * page_size g + page_size g ≤ length registers = omega (arith, piece (page_size g) ok, sizes.registers-size) in
      length-splice registers _ (page_size g) _ fits (length-replicate _ _)
  registers-length (work.Load r) ok =
      let fits : lun_of g r * page_size g + page_size g ≤ length registers = omega (arith, register-end g r ok, sizes.registers-size) in
      let from : page_index g r * page_size g + page_size g ≤ length array = omega (arith, page-bytes-end g r ok, sizes.array_size) in
      length-splice registers _ (page_size g) _ fits (part_length array _ (page_size g) from)
  registers-length (work.Put l c v) ok =
      let fits : l * page_size g + page_size g ≤ length registers = omega (arith, piece (page_size g) ok.0, sizes.registers-size) in
      length-splice registers _ (page_size g) _ fits (length-set (part registers (l * page_size g) (page_size g)) c.0 v ∙ part_length registers _ (page_size g) fits)
  registers-length (work.Program r) ok = refl
  registers-length (work.Erase r) ok = refl

  pub counts-length : (w : Work) → Ready g w counts → length (counts_after g w counts) ≡ length counts
  unfolding counts_after Ready
  counts-length work.Nothing ok = refl
  counts-length work.ClearAll ok = refl
  counts-length (work.ClearOne l) ok = refl
  counts-length (work.Load r) ok = refl
  counts-length (work.Put l c v) ok = refl
  counts-length (work.Program r) ok = length-set counts _ _
  counts-length (work.Erase r) ok =
      let fits : block_index g r * g.pages + g.pages ≤ length counts = omega (arith, block-pages-end g r ok, sizes.counts-size) in
      length-splice counts _ g.pages _ fits (length-replicate _ _)
