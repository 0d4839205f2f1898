-- "Page order", as specs/Steps.antt states it: the definition, count by count.
-- Assumes nothing.
use mathlib.Core.Path.{◌≡◌, refl, sym, ap, subst, ◌∙◌}
use mathlib.Core.Bool.{Bool, true, false, ◌&&◌, ◌||◌, not}
use mathlib.Core.List.{List, [], ◌∷◌}
use Prim.Native.Nat.{ℕ, zero, suc, ◌+◌, ◌-◌, ◌*◌, ◌≤◌, ◌<◌}
use native.Mathlib.Omega.{arith}
use native.Mathlib.Nat.{min-le_left}
use lib.ListN.{length, get_or, drop, length-take}
use lib.Dec.{ltb}
use borrow.Author.Tests.{lt-ltb, le-ltb}
use Rattle.slices.specs.Cells.{part, some_set}
use Rattle.target.specs.Words.{has_feature}
use Rattle.target.specs.Address.{page_of}
use Rattle.target.specs.declared.Geometry.{Geometry}
use Rattle.target.specs.declared.Row.{Row}
use Rattle.target.specs.declared.Target.{Target}
use Rattle.blocks.specs.Blocks.{block_index, page_index, block_bad, page_full, higher_written, out_of_order}
use Rattle.step.specs.Step.{Buffers}
use Rattle.blocks.proofs.Places.{page-parts}
use Rattle.thm_steps.specs.Steps.{PageOrder}
use Rattle.thm_steps.proofs.Program.{part-byte, program}

-- a byte above 0, wherever it stands, is some byte; and where each is 0 there is none
pub some-here : (xs : List ℕ) (i : ℕ) → 0 < get_or xs i 0 → some_set xs ≡ true
unfolding some_set
some-here [] i h = absurd (omega (arith, h))
some-here (x ∷ xs) zero h = rw (lt-ltb 0 x h)
some-here (x ∷ xs) (suc i) h = rw (some-here xs i h) (either (ltb 0 x))
  where
    either : (a : Bool) → (a || true) ≡ true
    either true = refl
    either false = refl

pub none-set : (xs : List ℕ) → ((i : ℕ) → i < length xs → get_or xs i 0 ≡ 0) → some_set xs ≡ false
unfolding some_set
none-set [] h = refl
none-set (x ∷ xs) h =
    let first : x ≤ 0 = omega (arith, h 0 (omega arith)) in
    rw (le-ltb 0 x first) (none-set xs (λ i k. h (suc i) (omega arith)))

-- a part is no longer than what was asked for
pub part-short : (xs : List ℕ) (at n : ℕ) → length (part xs at n) ≤ n
unfolding part
part-short xs at n = omega (arith, length-take n (drop at xs), min-le_left n (length (drop at xs)))

or-true : (a : Bool) → (a || true) ≡ true
or-true true = refl
or-true false = refl

module _ (g : Geometry) (r : Row) (counts : List ℕ) where
  -- the count of a higher page stands in the part that is looked at
  higher-count : (i : ℕ) → i < g.pages - (page_of g r + 1)
      → get_or (part counts (page_index g r + 1) (g.pages - (page_of g r + 1))) i 0 ≡ get_or counts (block_index g r * g.pages + (page_of g r + 1 + i)) 0
  higher-count i h =
      let there : page_index g r + 1 + i ≡ block_index g r * g.pages + (page_of g r + 1 + i) = omega (arith, page-parts g r) in
      part-byte counts (page_index g r + 1) (g.pages - (page_of g r + 1)) i h ∙ ap (λ (n : ℕ). get_or counts n 0) there

  higher : (p : ℕ) → page_of g r < p → p < g.pages → 0 < get_or counts (block_index g r * g.pages + p) 0 → higher_written g r counts ≡ true
  unfolding higher_written
  higher p above below set =
      let i = p - (page_of g r + 1) in
      let same : page_of g r + 1 + i ≡ p = omega arith in
      some-here (part counts (page_index g r + 1) (g.pages - (page_of g r + 1))) i
      (subst (λ (n : ℕ). 0 < n) (ap (λ (n : ℕ). get_or counts (block_index g r * g.pages + n) 0) (sym same) ∙ sym (higher-count i (omega arith))) set)

  none-higher : ((p : ℕ) → page_of g r < p → p < g.pages → get_or counts (block_index g r * g.pages + p) 0 ≡ 0) → higher_written g r counts ≡ false
  unfolding higher_written
  none-higher each =
      let seen = part counts (page_index g r + 1) (g.pages - (page_of g r + 1)) in
      let short = part-short counts (page_index g r + 1) (g.pages - (page_of g r + 1)) in
      none-set seen (λ i h.
      let low : i < g.pages - (page_of g r + 1) = omega (arith, short, h) in
      higher-count i low ∙ each (page_of g r + 1 + i) (omega arith) (omega arith))

pub page-order : (t : Target) (params : List ℕ) (b : Buffers) (flags : List ℕ) → PageOrder t params b flags
unfolding out_of_order
page-order t params b flags =
    let g = t.geometry in
    record {
      stays = λ f r c s h bound p above below set.
          let out : out_of_order g t.words r b.counts ≡ true = rw (bound) (higher g r b.counts p above below set) in
          (program t params b flags).stays f r c s h (rw (out) (or-true (block_bad g r flags || page_full g r b.counts)));
      in_order = λ r each. rw (none-higher g r b.counts each) (and-false (not (has_feature t.words 2)));
      any_order = λ r free. rw (free);
    }
  where
    and-false : (a : Bool) → (a && false) ≡ false
    and-false true = refl
    and-false false = refl
