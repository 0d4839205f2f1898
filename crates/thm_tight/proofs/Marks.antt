-- Each mark of a LUN that rule 13 lets pass: 10h on a factory bad block makes the LUN work and fail, 35h opens its copyback; and its
-- number of blank blocks, which power-on counts.
-- Assumes nothing.
use mathlib.Core.Path.{◌≡◌, refl, ap, ◌∙◌, subst}
use mathlib.Core.Bool.{Bool, true, false, ◌&&◌, ◌||◌, not, false≢true}
use mathlib.Core.List.{List}
use Prim.Native.Nat.{ℕ, zero, suc, ◌+◌, ◌-◌, ◌*◌, ◌≤◌, ◌<◌}
use native.Mathlib.Omega.{arith}
use lib.Seq.{get_or-set_same}
use lib.Dec.{eqb, ltb, leb}
use borrow.Author.Tests.{eqb-true, ltb-true, ltb-false, leb-true}
use Rattle.slices.proofs.Splice.{piece}
use Rattle.target.specs.Pick.{pick}
use Rattle.target.specs.Address.{lun_of, row_exists}
use Rattle.target.specs.Commands.{row_of, takes_program_data, needs_copyback, second_of, second_row}
use Rattle.target.specs.Luns.{lun_ready, lun_unused, is_unused, lun_at, works, failed, copyback_at, blank_at}
use Rattle.target.specs.declared.Lun.{Lun}
use Rattle.target.specs.declared.Geometry.{Geometry}
use Rattle.target.specs.declared.Target.{Target}
use Rattle.target.specs.declared.First.TheVariants.{Program}
use Rattle.target.specs.declared.Sequence.TheVariants.{Filling}
use Rattle.target.specs.declared.Output.TheVariants as output
use Rattle.target.proofs.Both.{both, both4}
use Rattle.target.proofs.Limits.{limits}
use Rattle.rules.proofs.ByKind.{event}
use Rattle.lun_records.specs.LunsAfter.{luns_after}
use Rattle.effects.specs.Effects.{target_after}
use Rattle.step.specs.Usable.{mark_sound, marks_sound}
use Rattle.blocks.specs.Blocks.{block_index, block_bad, blank_block}
use Rattle.step.specs.Buffers.{findings}
use Rattle.blocks.proofs.Places.{row_block, block-below}
use Rattle.thm_kept.proofs.Choice.{or-true}
use Rattle.thm_tight.specs.Tight.{Reached}
use Rattle.thm_tight.proofs.Part.{Part, Fine, flags_of, flag-bad}
use Rattle.thm_tight.proofs.Ways.{Way, at-power, reached}
use Rattle.thm_tight.proofs.Blank.{walk-there, walk-past, found_at}
use Rattle.thm_tight.proofs.Cycles.{programming, second, full, ready_luns, stand, ready_at, still}
use Rattle.thm_tight.proofs.Addresses.{row_at, lun-at, row-there}
use Rattle.thm_tight.proofs.Sequences.{filling-at, ready-free, begin, filling-first, copied-luns, finishes, copied-open}

-- 80h takes data, and asks for no copyback
program-is : (takes_program_data Program ≡ true) × (needs_copyback Program ≡ false)
unfolding row_of
program-is = (refl, refl)

-- a program of the first page of a LUN, where all blocks are factory bad
module _ (g : Geometry) (l : ℕ) where
  abbrev all : ℕ
  all = g.luns * g.blocks

  abbrev ruin : Part
  ruin = full g all

  abbrev filled : Target
  filled = stand g all (lun_of g (row_at g l)) (Filling (filling-at Program (row_at g l) (record { 0 = 0 }))) output.Nothing

  abbrev failing : Target
  failing = target_after filled (event 0 0x10) (record { proceeds = false; blank = false })

  refuses : row_exists g (row_at g l) ≡ true → (counts : List ℕ)
      → findings g filled.words filled.decoder.sequence (event 0 0x10) counts (flags_of ruin) ≡ record { proceeds = false; blank = false }
  unfolding findings block_bad blank_block second_of second_row
  refuses there counts = rw (flag-bad ruin (block_index g (row_at g l)) (block-below g (row_at g l) (row_block g (row_at g l) there)))

  -- sets both marks
  abbrev failed-lun : Lun
  failed-lun = record { working = true; fail = true; copyback = false; blank = blank_at (ready_luns g all) l }

  marked : l < 4 → lun_at failing.luns l ≡ failed-lun
  unfolding target_after luns_after row_of second_of second_row
  marked h = rw (lun-at g l, ready_at g all l) (get_or-set_same (ready_luns g all) l failed-lun lun_unused h)

-- rule 13's test of one LUN's marks
pub one-mark : (g : Geometry) (luns : List Lun) → marks_sound g luns ≡ true → (l : ℕ) → l < 4 → mark_sound g luns l ≡ true
one-mark g luns h l k = by (both4 (mark_sound g luns 0) (mark_sound g luns 1) (mark_sound g luns 2) (mark_sound g luns 3) h) l k
  where
    by : (mark_sound g luns 0 ≡ true) × (mark_sound g luns 1 ≡ true) × (mark_sound g luns 2 ≡ true) × (mark_sound g luns 3 ≡ true) → (l : ℕ) → l < 4 → mark_sound g luns l ≡ true
    by p zero h = p.0
    by p (suc zero) h = p.1
    by p (suc (suc zero)) h = p.2
    by p (suc (suc (suc zero))) h = p.3
    by p (suc (suc (suc (suc n)))) h = absurd (omega arith)

-- it lets a mark be set where the LUN exists
set-exists : (a few b c d none : Bool) → pick a few (not b && not c && not d && none) ≡ true → (b || c || d) ≡ true → a ≡ true
set-exists true few b c d none h k = refl
set-exists false few true c d none h k = absurd (false≢true h)
set-exists false few false true d none h k = absurd (false≢true h)
set-exists false few false false true none h k = absurd (false≢true h)
set-exists false few false false false none h k = absurd (false≢true k)

-- and one that does not exist has no blank block
none-past : (x : Lun) → is_unused x ≡ true → x.blank ≡ 0
none-past x h = eqb-true x.blank 0 (both (not x.working && not x.fail && not x.copyback) (eqb x.blank 0) h).1

module _ (g : Geometry) (part : (bad : ℕ) → bad ≤ g.luns * g.blocks → Fine (full g bad)) (l : ℕ) (h : l < 4) where
  fine : Fine (full g 0)
  fine = part 0 (omega arith)

  ruined : Fine (ruin g l)
  ruined = part (all g l) (omega arith)

  fails : l < g.luns → Way (ruin g l) (failing g l)
  fails k =
      let there = row-there g (limits g fine.limited) l k in
      second g (all g l) ruined (ready_luns g (all g l)) (lun_of g (row_at g l)) _ output.Nothing 0x10 programming (failing g l)
      (λ counts. ap (target_after (filled g l) (event 0 0x10)) (refuses g l there counts))
      (filling-first g (all g l) ruined Program (begin g (all g l) ruined Program) program-is.0 (row_at g l) there
      (ready-free g (all g l) Program (row_at g l) program-is.1))

  -- a mark that is off where a LUN is ready and on where it fails
  mark-given : (mark : Lun → Bool) → ((n : ℕ) → mark (lun_ready n) ≡ false) → mark (failed-lun g l) ≡ true
      → (b : Bool) → (b ≡ true → l < g.luns) → Reached g (λ t. mark (lun_at t.luns l) ≡ b)
  mark-given mark off on true k =
      reached (λ (t : Target). mark (lun_at t.luns l) ≡ true) ruined (fails (k refl)) (ap mark (marked g l h) ∙ on)
  mark-given mark off on false k =
      reached (λ (t : Target). mark (lun_at t.luns l) ≡ false) fine (still g 0 fine) (ap mark (ready_at g 0 l) ∙ off _)

  -- a number of blank blocks, as power-on counts them
  blanks-there : (n : ℕ) → l < g.luns → n ≤ g.blocks → Reached g (λ t. blank_at t.luns l ≡ n)
  blanks-there n there most =
      let bad = l * g.blocks + (g.blocks - n) in
      let within : bad ≤ g.luns * g.blocks = omega (arith, piece g.blocks there) in
      reached (λ (t : Target). blank_at t.luns l ≡ n) (part bad within) (at-power (full g bad))
      (found_at (full g bad) l h ∙ walk-there (full g bad) l n there most refl)

  blanks-past : g.luns ≤ l → Reached g (λ t. blank_at t.luns l ≡ 0)
  blanks-past past =
      reached (λ (t : Target). blank_at t.luns l ≡ 0) fine (at-power (full g 0)) (found_at (full g 0) l h ∙ walk-past (full g 0) l past)

  module _ (luns : List Lun) (k : marks_sound g luns ≡ true) where
    exists : (works luns l || failed luns l || copyback_at luns l) ≡ true → l < g.luns
    exists e =
        ltb-true l g.luns
        (set-exists (ltb l g.luns) _ (works luns l) (failed luns l) (copyback_at luns l) _ (one-mark g luns k l h) e)

    pub working-given : Reached g (λ t. works t.luns l ≡ works luns l)
    working-given = mark-given (λ (x : Lun). x.working) (λ _. refl) refl (works luns l) (λ e. exists (rw (e)))

    pub fail-given : Reached g (λ t. failed t.luns l ≡ failed luns l)
    fail-given = mark-given (λ (x : Lun). x.fail) (λ _. refl) refl (failed luns l)
        (λ e. exists (rw (e, or-true (works luns l)) refl))

    -- 35h on the LUN's first page, and its finish event
    copied : l < g.luns → Reached g (λ t. copyback_at t.luns l ≡ true)
    copied there =
        let row = row-there g (limits g fine.limited) l there in
        reached (λ (t : Target). copyback_at t.luns l ≡ true) fine (finishes g 0 fine (row_at g l) row)
        (subst (λ (n : ℕ). copyback_at (copied-luns g 0 fine (row_at g l) row) n ≡ true) (lun-at g l) (copied-open g 0 fine (row_at g l) row))

    copyback-by : (b : Bool) → (b ≡ true → l < g.luns) → Reached g (λ t. copyback_at t.luns l ≡ b)
    copyback-by true there = copied (there refl)
    copyback-by false there =
        reached (λ (t : Target). copyback_at t.luns l ≡ false) fine (still g 0 fine) (ap (λ (x : Lun). x.copyback) (ready_at g 0 l))

    pub copyback-given : Reached g (λ t. copyback_at t.luns l ≡ copyback_at luns l)
    copyback-given = copyback-by (copyback_at luns l) (λ e. exists (rw (e) (or-true (works luns l || failed luns l))))

    pub blank-given : Reached g (λ t. blank_at t.luns l ≡ blank_at luns l)
    blank-given = by (ltb l g.luns) refl (one-mark g luns k l h)
      where
        by : (b : Bool) → ltb l g.luns ≡ b → pick b (leb (blank_at luns l) g.blocks) (is_unused (lun_at luns l)) ≡ true
            → Reached g (λ t. blank_at t.luns l ≡ blank_at luns l)
        by true e m = blanks-there (blank_at luns l) (ltb-true l g.luns e) (leb-true _ _ m)
        by false e m = rw (none-past (lun_at luns l) m) (blanks-past (ltb-false l g.luns e))
