-- Any number of blank blocks from 0 to all is that of a part: nothing is programmed, and the LUN's other blocks are factory bad.
-- Assumes nothing.
use mathlib.Core.Path.{◌≡◌, refl}
use mathlib.Core.Bool.{Bool, true, false, ◌&&◌, not}
use Prim.Native.Nat.{ℕ, zero, suc, ◌+◌, ◌-◌, ◌*◌, ◌≤◌, ◌<◌}
use native.Mathlib.Omega.{arith}
use lib.ListN.{take, drop, get_or, replicate}
use lib.Dec.{eqb, ltb}
use borrow.Author.Tests.{ltb-true, ltb-false, lt-ltb, le-ltb}
use Rattle.slices.specs.Cells.{part, some_set}
use Rattle.target.specs.Luns.{blank_at}
use Rattle.blocks.specs.Blocks.{blank_block, blanks_from, blank_blocks}
use Rattle.power.specs.Power.{walked}
use Rattle.thm_tight.proofs.Part.{Part, counts_of, flags_of, flag-bad, flag-good}
use Rattle.thm_tight.proofs.Ways.{found_in}

-- no count is set
none-front : (n m : ℕ) → some_set (take n (replicate m 0)) ≡ false
unfolding some_set
none-front zero m = refl
none-front (suc n) zero = refl
none-front (suc n) (suc m) = none-front n m

none-behind : (m at n : ℕ) → some_set (take n (drop at (replicate m 0))) ≡ false
none-behind m zero n = none-front n m
none-behind zero (suc at) n = none-front n zero
none-behind (suc m) (suc at) n = none-behind m at n

none-set : (m at n : ℕ) → some_set (part (replicate m 0) at n) ≡ false
unfolding part
none-set m at n = none-behind m at n

and-not-false : (a : Bool) → (a && not false) ≡ a
and-not-false true = refl
and-not-false false = refl

module _ (k : Part) where
  -- so that the flag alone says whether a block is blank
  by_flag : (b : ℕ) → blank_block k.geometry b (counts_of k) (flags_of k) ≡ eqb (get_or (flags_of k) b 0) 0
  unfolding blank_block counts_of
  by_flag b = rw (none-set (k.geometry.luns * k.geometry.blocks * k.geometry.pages) (b * k.geometry.pages) k.geometry.pages) (and-not-false _)

  abbrev Blanks : ℕ → ℕ → ℕ
  Blanks first i = blanks_from k.geometry first i (counts_of k) (flags_of k)

  -- of the blocks from here on the first few are bad
  blanks : (first few : ℕ) → k.bad ≡ first + few → (i : ℕ) → Blanks first i ≡ i - few
  blanks first few h zero = omega arith
  blanks first few h (suc i) = by (blanks first few h i) (ltb i few) refl
    where
      by : Blanks first i ≡ i - few → (b : Bool) → ltb i few ≡ b → Blanks first (suc i) ≡ suc i - few
      by so true e =
          let below : i < few = ltb-true i few e in
          rw (by_flag (first + i), flag-bad k (first + i) (omega arith)) (omega arith)
      by so false e =
          let past : few ≤ i = ltb-false i few e in
          rw (by_flag (first + i), flag-good k (first + i) (omega arith)) (omega arith)

  -- a LUN that is there, with n blocks that are not bad
  pub walk-there : (l n : ℕ) → l < k.geometry.luns → n ≤ k.geometry.blocks → k.bad ≡ l * k.geometry.blocks + (k.geometry.blocks - n)
      → walked k.geometry (counts_of k) (flags_of k) l ≡ n
  unfolding walked blank_blocks
  walk-there l n there most h =
      rw (lt-ltb l k.geometry.luns there)
      (omega (arith, blanks (l * k.geometry.blocks) (k.geometry.blocks - n) h k.geometry.blocks))

  -- one past the count
  pub walk-past : (l : ℕ) → k.geometry.luns ≤ l → walked k.geometry (counts_of k) (flags_of k) l ≡ 0
  unfolding walked
  walk-past l past = rw (le-ltb l k.geometry.luns past)

  pub found_at : (l : ℕ) → l < 4 → blank_at (found_in k) l ≡ walked k.geometry (counts_of k) (flags_of k) l
  found_at zero h = refl
  found_at (suc zero) h = refl
  found_at (suc (suc zero)) h = refl
  found_at (suc (suc (suc zero))) h = refl
  found_at (suc (suc (suc (suc l)))) h = absurd (omega arith)
