-- Work of one LUN, done to two sets of buffers that agree on that LUN: each buffer gets the same bytes at the same place within
-- that LUN's share.
-- Assumes nothing.
use mathlib.Core.Path.{◌≡◌, refl, ap, ◌∙◌}
use mathlib.Core.List.{List, [], ◌∷◌}
use mathlib.Core.Bool.{Bool, true, false, ◌&&◌, not}
use Prim.Native.Nat.{ℕ, ◌+◌, ◌-◌, ◌*◌, ◌<◌}
use native.Mathlib.Nat.{le_refl}
use native.Mathlib.Omega.{arith}
use lib.ListN.{length, get_or, set, length-replicate, length-set}
use lib.Dec.{eqb}
use Rattle.slices.specs.Cells.{splice, part, and_bytes, some_set}
use Rattle.slices.proofs.Anded.{length-and}
use Rattle.slices.proofs.Splice.{piece}
use Rattle.slices.proofs.Parts.{parts-alike, get_or-alike, set-splice}
use Rattle.target.specs.Address.{lun_of, page_of, block_exists, row_exists}
use Rattle.target.specs.Sizes.{page_size}
use Rattle.target.specs.declared.Geometry.{Geometry}
use Rattle.target.specs.declared.Row.{Row}
use Rattle.target.specs.declared.Work.{Work}
use Rattle.target.specs.declared.Work.TheVariants.{Nothing, ClearAll, ClearOne, Load, Put, Program, Erase}
use Rattle.blocks.specs.Blocks.{block_index, page_index, higher_written, blank_block}
use Rattle.step.specs.Buffers.{registers_after, array_after, counts_after}
use Rattle.step.specs.Step.{Buffers, worked, Ready}
use Rattle.blocks.proofs.Places.{page-below, page-bytes-end, page-parts, row-page, row_block}
use Rattle.thm_kept.proofs.Lengths.{part_length}
use Rattle.thm_stations.specs.Isolated.{lun_bytes, lun_pages}
use Rattle.thm_stations.proofs.Edits.{Edit, as_is, put, put-alike}
use Rattle.thm_stations.proofs.Shares.{page_within, block-low, block-bytes-low, block-high, block-bytes-high, page-place, page-low, page-bytes-low, page-within, page-high, page-bytes-high}
use Rattle.thm_stations.proofs.Agreement.{ArrayAgrees, RegisterAgrees, CountsAgree, Parts, SizesOf, Edited}

-- the work has to do with no LUN but the l-th
unfoldable pub Mine : Geometry → ℕ → Work → Type 0
Mine g l Nothing = Unit
Mine g l ClearAll = ⊥
Mine g l (ClearOne m) = m ≡ l
Mine g l (Load r) = lun_of g r ≡ l
Mine g l (Put m c v) = m ≡ l
Mine g l (Program r) = lun_of g r ≡ l
Mine g l (Erase r) = lun_of g r ≡ l

-- the work puts the register into the array
abbrev pub burns : Work → Bool
burns Nothing = false
burns ClearAll = false
burns (ClearOne m) = false
burns (Load r) = false
burns (Put m c v) = false
burns (Program r) = true
burns (Erase r) = false

module _ (g : Geometry) (b c : Buffers) (sizes : SizesOf g b) (sizesʳ : SizesOf g c) where
  -- the page and the count of a row
  page-alike : (r : Row) → row_exists g r ≡ true → ArrayAgrees g (lun_of g r) b c
      → part b.array (page_index g r * page_size g) (page_size g) ≡ part c.array (page_index g r * page_size g) (page_size g)
  page-alike r there a =
      parts-alike b.array c.array (lun_of g r * lun_bytes g) (lun_bytes g) a _ (page_size g) (page-bytes-low g r)
      (page-bytes-high g r there)

  pub count-alike : (r : Row) → row_exists g r ≡ true → CountsAgree g (lun_of g r) b c
      → get_or b.counts (page_index g r) 0 ≡ get_or c.counts (page_index g r) 0
  count-alike r there a = rw (page-place g r) (get_or-alike b.counts c.counts (lun_of g r * lun_pages g) (lun_pages g) a (page_within g r) (page-within g r there))

  -- the counts of the higher pages of its block
  pub higher-alike : (r : Row) → row_exists g r ≡ true → CountsAgree g (lun_of g r) b c
      → higher_written g r b.counts ≡ higher_written g r c.counts
  unfolding higher_written
  higher-alike r there a =
      let high = block-high g r (row_block g r there) in
      ap some_set
      (parts-alike b.counts c.counts (lun_of g r * lun_pages g) (lun_pages g) a (page_index g r + 1) (g.pages - (page_of g r + 1))
      (omega (arith, page-low g r))
      (omega (arith, page-parts g r, row-page g r there, high)))

  -- the counts of the whole block, and so whether it is blank
  pub blank-alike : (flags : List ℕ) (r : Row) → block_exists g r ≡ true → CountsAgree g (lun_of g r) b c
      → blank_block g (block_index g r) b.counts flags ≡ blank_block g (block_index g r) c.counts flags
  unfolding blank_block
  blank-alike flags r there a =
      ap (λ (x : List ℕ). eqb (get_or flags (block_index g r) 0) 0 && not (some_set x))
      (parts-alike b.counts c.counts (lun_of g r * lun_pages g) (lun_pages g) a (block_index g r * g.pages) g.pages
      (block-low g r) (block-high g r there))

  -- a whole register is replaced
  replaced : (l : ℕ) (new newʳ : List ℕ) → new ≡ newʳ → length new ≡ page_size g
      → Edit (page_size g) l b.registers c.registers (splice b.registers (l * page_size g) (page_size g) new) (splice c.registers (l * page_size g) (page_size g) newʳ)
  replaced l new newʳ e same = put-alike (l * page_size g) (page_size g) new newʳ e (le_refl _) (le_refl _) same

  register-length : (l : ℕ) → l < g.luns → length (part b.registers (l * page_size g) (page_size g)) ≡ page_size g
  register-length l h =
      part_length b.registers (l * page_size g) (page_size g)
      (omega (arith, piece (page_size g) h, sizes.registers-size))

  page-length : (r : Row) → row_exists g r ≡ true
      → length (part b.array (page_index g r * page_size g) (page_size g)) ≡ page_size g
  page-length r there =
      part_length b.array (page_index g r * page_size g) (page_size g)
      (omega (arith, page-bytes-end g r there, sizes.array_size))

  pub registers-edit : (w : Work) (l : ℕ) → Ready g w b.counts → Mine g l w → ArrayAgrees g l b c
      → RegisterAgrees g l b c
      → Edit (page_size g) l b.registers c.registers (registers_after g w b.array b.registers) (registers_after g w c.array c.registers)
  unfolding registers_after Ready Mine
  registers-edit Nothing l ok mine a own = as_is
  registers-edit ClearAll l ok mine a own = absurd mine
  registers-edit (ClearOne m) l ok mine a own = rw (← mine) (replaced m _ _ refl (length-replicate (page_size g) 0xff))
  registers-edit (Load r) l ok mine a own =
      rw (← mine) (replaced (lun_of g r) _ _ (page-alike r ok (rw mine a)) (page-length r ok))
  registers-edit (Put m k v) l ok mine a own =
      let here : RegisterAgrees g m b c = rw mine own in
      rw (← mine)
      (replaced m _ _ (ap (λ (s : List ℕ). set s k.0 v) here) (length-set (part b.registers (m * page_size g) (page_size g)) k.0 v ∙ register-length m ok.0))
  registers-edit (Program r) l ok mine a own = as_is
  registers-edit (Erase r) l ok mine a own = as_is

  pub array-edit : (w : Work) (l : ℕ) → Ready g w b.counts → Mine g l w → ArrayAgrees g l b c
      → (burns w ≡ true → RegisterAgrees g l b c)
      → Edit (lun_bytes g) l b.array c.array (array_after g w b.array b.registers) (array_after g w c.array c.registers)
  unfolding array_after Ready Mine
  array-edit Nothing l ok mine a own = as_is
  array-edit ClearAll l ok mine a own = absurd mine
  array-edit (ClearOne m) l ok mine a own = as_is
  array-edit (Load r) l ok mine a own = as_is
  array-edit (Put m k v) l ok mine a own = as_is
  array-edit (Program r) l ok mine a own =
      let here : ArrayAgrees g (lun_of g r) b c = rw mine a in
      let register : RegisterAgrees g (lun_of g r) b c = rw mine (own refl) in
      let old = part b.array (page_index g r * page_size g) (page_size g) in
      rw (← mine)
      (put-alike _ (page_size g) _ _ (λ i. and_bytes (page-alike r ok.0 here i) (register i)) (page-bytes-low g r) (page-bytes-high g r ok.0) (length-and old _ ∙ page-length r ok.0))
  array-edit (Erase r) l ok mine a own =
      rw (← mine) (put _ (g.pages * page_size g) _ (block-bytes-low g r) (block-bytes-high g r ok) (length-replicate _ _))

  pub counts-edit : (w : Work) (l : ℕ) → Ready g w b.counts → Mine g l w → CountsAgree g l b c
      → Edit (lun_pages g) l b.counts c.counts (counts_after g w b.counts) (counts_after g w c.counts)
  unfolding counts_after Ready Mine
  counts-edit Nothing l ok mine a = as_is
  counts-edit ClearAll l ok mine a = absurd mine
  counts-edit (ClearOne m) l ok mine a = as_is
  counts-edit (Load r) l ok mine a = as_is
  counts-edit (Put m k v) l ok mine a = as_is
  counts-edit (Program r) l ok mine a =
      let here : CountsAgree g (lun_of g r) b c = rw mine a in
      let at = page_index g r in
      let new = get_or b.counts at 0 + 1 in
      let room = page-below g r ok.0 in
      rw (← mine, ← count-alike r ok.0 here, set-splice b.counts at new (omega (arith, sizes.counts-size)), set-splice c.counts at new (omega (arith, sizesʳ.counts-size)))
      (put at 1 (new ∷ []) (page-low g r) (page-high g r ok.0) refl)
  counts-edit (Erase r) l ok mine a =
      rw (← mine) (put _ g.pages _ (block-low g r) (block-high g r ok) (length-replicate _ _))

  pub worked-edited : (w : Work) (l : ℕ) → Ready g w b.counts → Mine g l w → Parts g l b c
      → Edited g l b c (worked g w b) (worked g w c)
  unfolding worked
  worked-edited w l ok mine a =
      record { array = array-edit w l ok mine a.array (λ _. a.registers); registers = registers-edit w l ok mine a.array a.registers; counts = counts-edit w l ok mine a.counts }
