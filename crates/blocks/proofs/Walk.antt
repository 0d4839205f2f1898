-- The walk over a LUN's blocks, halfway.
-- Assumes nothing.
use mathlib.Core.Path.{◌≡◌, ap}
use mathlib.Core.List.{List}
use Prim.Native.Nat.{ℕ, ◌+◌, ◌*◌, ◌≤◌}
use native.Mathlib.Numerals.{unary_clauses}
use Rattle.target.specs.Pick.{pick}
use Rattle.target.specs.declared.Geometry.{Geometry}
use Rattle.blocks.specs.Blocks.{blank_block, blanks_from, blank_blocks}

-- after i of the LUN's blocks
pub record Walked (g : Geometry) (l : ℕ) (counts flags : List ℕ) (first n i : ℕ) : Type 0 where
  pub number : n ≡ blanks_from g first i counts flags
  pub start : first ≡ l * g.blocks
  pub small : n ≤ i
  pub within : i ≤ g.blocks

pub one-block-more : (g : Geometry) (counts flags : List ℕ) (first n i : ℕ) → n ≡ blanks_from g first i counts flags
    → n + pick (blank_block g (first + i) counts flags) 1 0 ≡ blanks_from g first (i + 1) counts flags
one-block-more g counts flags first n i h =
    simp unary_clauses (ap (λ (m : ℕ). m + pick (blank_block g (first + i) counts flags) 1 0) h)

pub all-walked : (g : Geometry) (l : ℕ) (counts flags : List ℕ) (first n i : ℕ) → Walked g l counts flags first n i → i ≡ g.blocks
    → n ≡ blank_blocks g l counts flags
unfolding blank_blocks
all-walked g l counts flags first n i w ended = rw (w.number, w.start, ended)
