-- The walk where one block has changed, and where none has.
-- Assumes nothing.
use mathlib.Core.Path.{◌≡◌, refl, sym, ap}
use mathlib.Core.Bool.{Bool, true, false, ◌&&◌, not}
use mathlib.Core.List.{List}
use Prim.Native.Nat.{ℕ, zero, suc, ◌+◌, ◌*◌, ◌<◌}
use native.Mathlib.Omega.{arith}
use lib.Arith.{lt_of_le-ne}
use lib.Dec.{eqb, ltb}
use lib.ListN.{get_or}
use borrow.Author.Tests.{eqb-true, eqb-false, ltb-true, ltb-false}
use Rattle.slices.specs.Cells.{part, some_set}
use Rattle.slices.proofs.Splice.{piece}
use Rattle.target.specs.Pick.{pick}
use Rattle.target.specs.Address.{lun_of, block_of, block_exists}
use Rattle.target.specs.declared.Geometry.{Geometry}
use Rattle.target.specs.declared.Row.{Row}
use Rattle.blocks.specs.Blocks.{block_index, blank_block, blanks_from, blank_blocks}
use Rattle.blocks.proofs.Places.{block-there, block-parts}

-- a block among so many, counted or not
abbrev pub one : Bool → ℕ
one b = pick b 1 0

module _ (g : Geometry) (counts now flags : List ℕ) where
  abbrev was : ℕ → Bool
  was b = blank_block g b counts flags

  abbrev is : ℕ → Bool
  is b = blank_block g b now flags

  walk-alike : (first n : ℕ) → ((i : ℕ) → i < n → is (first + i) ≡ was (first + i))
      → blanks_from g first n now flags ≡ blanks_from g first n counts flags
  walk-alike first zero same = refl
  walk-alike first (suc n) same =
      let before = walk-alike first n (λ i h. same i (omega (arith, h))) in
      let last : one (is (first + n)) ≡ one (was (first + n)) = ap one (same n (omega arith)) in
      omega (arith, before, last)

  abbrev ButOne : ℕ → ℕ → ℕ → Type 0
  ButOne first n k =
      blanks_from g first n now flags + one (was (first + k)) ≡ blanks_from g first n counts flags + one (is (first + k))

  -- the last block is the one that changed, or it stands among those before
  last-or-before : (first n k : ℕ) → k < suc n → ((i : ℕ) → i < suc n → (i ≡ k → ⊥) → is (first + i) ≡ was (first + i))
      → (k < n → ButOne first n k) → (b : Bool) → eqb n k ≡ b → ButOne first (suc n) k
  last-or-before first n k h same before true e =
      let at : n ≡ k = eqb-true n k e in
      let rest = walk-alike first n (λ i low. same i (omega (arith, low)) (λ (q : i ≡ k). omega (arith, low, q, at))) in
      let old : one (was (first + n)) ≡ one (was (first + k)) = ap (λ (m : ℕ). one (was (first + m))) at in
      let new : one (is (first + n)) ≡ one (is (first + k)) = ap (λ (m : ℕ). one (is (first + m))) at in
      omega (arith, rest, old, new)
  last-or-before first n k h same before false e =
      let apart = eqb-false n k e in
      let below : k < n = lt_of_le-ne (omega (arith, h)) (λ (q : k ≡ n). apart (sym q)) in
      let last : one (is (first + n)) ≡ one (was (first + n)) = ap one (same n (omega arith) apart) in
      omega (arith, before below, last)

  walk-but-one : (first n k : ℕ) → k < n → ((i : ℕ) → i < n → (i ≡ k → ⊥) → is (first + i) ≡ was (first + i)) → ButOne first n k
  walk-but-one first zero k h same = absurd (omega (arith, h))
  walk-but-one first (suc n) k h same =
      last-or-before first n k h same
      (λ below. walk-but-one first n k below (λ i low other. same i (omega (arith, low)) other))
      (eqb n k) refl

  -- the block of a row has changed, and no other
  module _ (r : Row) (there : block_exists g r ≡ true) (others : (m : ℕ) → (block_index g r ≡ m → ⊥) → is m ≡ was m) where
    abbrev home : ℕ
    home = lun_of g r

    pub own-walk : blank_blocks g home now flags + one (was (block_index g r)) ≡ blank_blocks g home counts flags + one (is (block_index g r))
    unfolding blank_blocks block_index
    own-walk =
        walk-but-one (home * g.blocks) g.blocks (block_of g r) (block-there g r there).block
        (λ i h other. others (home * g.blocks + i) (λ q. other (omega (arith, q))))

    -- a block of another LUN is another block
    elsewhere : (l i : ℕ) → i < g.blocks → (l ≡ home → ⊥) → block_index g r ≡ l * g.blocks + i → ⊥
    elsewhere l i low other q = by_side (ltb l home) refl
      where
        by_side : (b : Bool) → ltb l home ≡ b → ⊥
        by_side true e =
            let end = piece g.blocks (ltb-true l home e) in
            omega (arith, end, low, q, block-parts g r)
        by_side false e =
            let above : home < l = lt_of_le-ne (ltb-false l home e) (λ (p : home ≡ l). other (sym p)) in
            let end = piece g.blocks above in
            omega (arith, end, q, block-parts g r, (block-there g r there).block)

    pub other-walk : (l : ℕ) → (l ≡ home → ⊥) → blank_blocks g l now flags ≡ blank_blocks g l counts flags
    unfolding blank_blocks
    other-walk l other =
        walk-alike (l * g.blocks) g.blocks (λ i low. others (l * g.blocks + i) (elsewhere l i low other))

-- a block whose counts are the same is blank as it was
pub blank-same : (g : Geometry) (counts now flags : List ℕ) (m : ℕ) → part now (m * g.pages) g.pages ≡ part counts (m * g.pages) g.pages
    → blank_block g m now flags ≡ blank_block g m counts flags
unfolding blank_block
blank-same g counts now flags m same = ap (λ (xs : List ℕ). eqb (get_or flags m 0) 0 && not (some_set xs)) same
