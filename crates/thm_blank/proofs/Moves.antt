-- 10h and D0h: the number moves as the walk does.
-- Assumes nothing.
use mathlib.Core.Path.{◌≡◌, refl, sym, ap, subst, ◌∙◌}
use mathlib.Core.Bool.{Bool, true, false, ◌&&◌, not}
use mathlib.Core.List.{List, [], ◌∷◌}
use Prim.Native.Nat.{ℕ, zero, suc, ◌+◌, ◌-◌, ◌*◌, ◌≤◌, ◌<◌}
use native.Mathlib.Omega.{arith}
use lib.Dec.{eqb}
use lib.ListN.{length, get_or, set, replicate, length-replicate}
use lib.Seq.{get_or-set_same, get_or-set_other}
use borrow.Author.Tests.{eqb-true, eqb-false, lt-ltb, not-true, not-false}
use Rattle.slices.specs.Cells.{part}
use Rattle.slices.proofs.Parts.{set-splice}
use Rattle.slices.proofs.Splice.{part-splice, part_apart}
use Rattle.target.specs.Pick.{pick}
use Rattle.target.specs.Address.{lun_of, page_of, block_exists, row_exists}
use Rattle.target.specs.Luns.{lun_unused, lun_at, blank_at, lun_begun}
use Rattle.target.specs.declared.Geometry.{Geometry}
use Rattle.target.specs.declared.Lun.{Lun}
use Rattle.target.specs.declared.Row.{Row}
use Rattle.target.specs.declared.Words.{Words}
use Rattle.target.specs.declared.Findings.{Findings}
use Rattle.target.specs.declared.Work.{Work}
use Rattle.target.specs.declared.Work.TheVariants as work
use Rattle.target.specs.declared.commands.Act.{Act}
use Rattle.target.specs.declared.commands.Act.TheVariants as act
use Rattle.blocks.specs.Blocks.{block_index, page_index, block_bad, blank_block, blank_blocks}
use Rattle.blocks.proofs.Places.{row_block, row-page, row-lun, block-there, page-below, page-parts, block-pages-end}
use Rattle.lun_records.specs.LunsAfter.{one_more, blank_after, begun}
use Rattle.effects.specs.Effects.{acted}
use Rattle.step.specs.Buffers.{counts_after, proceeds, was_blank}
use Rattle.step.specs.Step.{Reaches}
use Rattle.thm_kept.proofs.Choice.{by-pick}
use Rattle.thm_steps.proofs.Program.{part-byte}
use Rattle.thm_steps.proofs.PageOrder.{some-here, none-set}
use Rattle.thm_steps.proofs.Status.{stored-leaves}
use Rattle.thm_steps.proofs.Blank.{moves_act}
use Rattle.thm_demands.proofs.Promised.{blanks-few}
use Rattle.thm_blank.specs.Walked as statement
use Rattle.thm_blank.proofs.Walks.{one, own-walk, other-walk, blank-same}

-- a byte of a list of zeros
zero-byte : (n i : ℕ) → ◌≡◌ {A = ℕ} (get_or (replicate n 0) i 0) 0
zero-byte zero i = refl
zero-byte (suc n) zero = refl
zero-byte (suc n) (suc i) = zero-byte n i

and-not : (a : Bool) → (a && not true) ≡ false
and-not true = refl
and-not false = refl

module _ (g : Geometry) (words : Words) (flags : List ℕ) where
  -- the numbers are the walk's
  abbrev pub Counted : List Lun → List ℕ → Type 0
  Counted luns counts = statement.Counted g luns counts flags

  module _ (luns : List Lun) (counts : List ℕ) (four : g.luns ≤ 4) (all : length luns ≡ 4) (full : length counts ≡ g.luns * g.blocks * g.pages)
      (true-so-far : Counted luns counts) where
    -- neither a number nor a count has moved
    pub still : (after : List Lun) (w : Work) → ((l : ℕ) → blank_at after l ≡ blank_at luns l) → counts_after g w counts ≡ counts
        → Counted after (counts_after g w counts)
    still after w same counted l h = same l ∙ true-so-far l h ∙ ap (λ (xs : List ℕ). blank_blocks g l xs flags) (sym counted)

    -- the row's LUN has a new number, and the walks of the others are as they were
    moved : (r : Row) (x : Lun) (now : List ℕ) → lun_of g r < g.luns → x.blank ≡ blank_blocks g (lun_of g r) now flags
        → ((l : ℕ) → (l ≡ lun_of g r → ⊥) → blank_blocks g l now flags ≡ blank_blocks g l counts flags)
        → Counted (set luns (lun_of g r) x) now
    moved r x now named own others l h = by-lun (eqb l (lun_of g r)) refl
      where
        by-lun : (b : Bool) → eqb l (lun_of g r) ≡ b → blank_at (set luns (lun_of g r) x) l ≡ blank_blocks g l now flags
        by-lun true e =
            let at : l ≡ lun_of g r = eqb-true l (lun_of g r) e in
            subst (λ (i : ℕ). blank_at (set luns (lun_of g r) x) i ≡ blank_blocks g i now flags) (sym at)
            (ap (λ (y : Lun). y.blank) (get_or-set_same luns (lun_of g r) x lun_unused (omega (arith, named, four, all))) ∙ own)
        by-lun false e =
            let apart = eqb-false l (lun_of g r) e in
            ap (λ (y : Lun). y.blank) (get_or-set_other luns (lun_of g r) l x lun_unused apart) ∙ true-so-far l h ∙ sym (others l apart)

    -- 10h: its block is not blank afterwards, and no other has changed
    module _ (r : Row) (there : row_exists g r ≡ true) where
      abbrev programmed : List ℕ
      programmed = counts_after g (work.Program r) counts

      abbrev home : ℕ
      home = block_index g r

      program-apart : (m : ℕ) → (home ≡ m → ⊥) → blank_block g m programmed flags ≡ blank_block g m counts flags
      unfolding counts_after
      program-apart m other =
          let at = page_index g r in
          let byte = get_or counts at 0 + 1 in
          let fits : at + 1 ≤ length counts = omega (arith, page-below g r there, full) in
          let low : home * g.pages ≤ at = omega (arith, page-parts g r) in
          let high : at + 1 ≤ home * g.pages + g.pages = omega (arith, page-parts g r, row-page g r there) in
          blank-same g counts _ flags m
          (ap (λ (xs : List ℕ). part xs (m * g.pages) g.pages) (set-splice counts at byte (omega (arith, page-below g r there, full)))
          ∙ part_apart counts at 1 (byte ∷ []) fits refl g.pages home m low high other)

      program-fills : blank_block g home programmed flags ≡ false
      unfolding blank_block counts_after
      program-fills =
          let at = page_index g r in
          let p = page_of g r in
          let low = row-page g r there in
          let here : 0 < get_or (set counts at (get_or counts at 0 + 1)) (home * g.pages + p) 0 =
          rw (sym (page-parts g r), get_or-set_same counts at (get_or counts at 0 + 1) 0 (omega (arith, page-below g r there, full))) (omega arith) in
          rw (some-here (part (set counts at (get_or counts at 0 + 1)) (home * g.pages) g.pages) p (rw (part-byte (set counts at (get_or counts at 0 + 1)) (home * g.pages) g.pages p low) here))
          (and-not (eqb (get_or flags home 0) 0))

      abbrev n : ℕ
      n = blank_at luns (lun_of g r)

      program-walk : (b : Bool) → blank_block g home counts flags ≡ b
          → blank_blocks g (lun_of g r) programmed flags + one b ≡ blank_blocks g (lun_of g r) counts flags + one false
      program-walk b e =
          subst (λ (x : Bool). blank_blocks g (lun_of g r) programmed flags + one b ≡ blank_blocks g (lun_of g r) counts flags + one x) program-fills
          (subst (λ (x : Bool). blank_blocks g (lun_of g r) programmed flags + one x ≡ blank_blocks g (lun_of g r) counts flags + one (blank_block g home programmed flags)) e
          (own-walk g counts programmed flags r (row_block g r there) program-apart))

      program-number : (b : Bool) → blank_block g home counts flags ≡ b
          → pick b (n - 1) n ≡ blank_blocks g (lun_of g r) programmed flags
      program-number true e = omega (arith, program-walk true e, true-so-far (lun_of g r) (row-lun g r there))
      program-number false e = omega (arith, program-walk false e, true-so-far (lun_of g r) (row-lun g r there))

      pub after-program : (x : Lun) → x.blank ≡ pick (blank_block g home counts flags) (n - 1) n
          → Counted (set luns (lun_of g r) x) programmed
      after-program x told =
          moved r x programmed (row-lun g r there) (told ∙ program-number (blank_block g home counts flags) refl)
          (other-walk g counts programmed flags r (row_block g r there) program-apart)

    -- D0h on a good block: it is blank afterwards, and no other has changed
    module _ (r : Row) (there : block_exists g r ≡ true) (good : block_bad g r flags ≡ false) where
      abbrev erased : List ℕ
      erased = counts_after g (work.Erase r) counts

      abbrev place : ℕ
      place = block_index g r

      erase-fits : place * g.pages + g.pages ≤ length counts
      erase-fits = omega (arith, block-pages-end g r there, full)

      erase-apart : (m : ℕ) → (place ≡ m → ⊥) → blank_block g m erased flags ≡ blank_block g m counts flags
      unfolding counts_after
      erase-apart m other =
          blank-same g counts _ flags m
          (part_apart counts (place * g.pages) g.pages (replicate g.pages 0) erase-fits (length-replicate _ _) g.pages place m (omega arith) (omega arith) other)

      erase-blanks : blank_block g place erased flags ≡ true
      unfolding blank_block counts_after block_bad
      erase-blanks =
          let zeros = part-splice counts (place * g.pages) g.pages (replicate g.pages 0) erase-fits (length-replicate _ _) in
          rw (zeros, none-set (replicate g.pages 0) (λ i _. zero-byte g.pages i), not-false (eqb (get_or flags place 0) 0) good)

      abbrev number : ℕ
      number = blank_at luns (lun_of g r)

      erase-walk : (b : Bool) → blank_block g place counts flags ≡ b
          → blank_blocks g (lun_of g r) erased flags + one b ≡ blank_blocks g (lun_of g r) counts flags + one true
      erase-walk b e =
          subst (λ (x : Bool). blank_blocks g (lun_of g r) erased flags + one b ≡ blank_blocks g (lun_of g r) counts flags + one x) erase-blanks
          (subst (λ (x : Bool). blank_blocks g (lun_of g r) erased flags + one x ≡ blank_blocks g (lun_of g r) counts flags + one (blank_block g place erased flags)) e
          (own-walk g counts erased flags r there erase-apart))

      few : blank_blocks g (lun_of g r) erased flags ≤ g.blocks
      unfolding blank_blocks
      few = blanks-few g (lun_of g r * g.blocks) g.blocks erased flags

      erase-number : (b : Bool) → blank_block g place counts flags ≡ b
          → pick (not b) (one_more g number) number ≡ blank_blocks g (lun_of g r) erased flags
      erase-number true e =
          omega (arith, erase-walk true e, true-so-far (lun_of g r) (block-there g r there).lun)
      erase-number false e =
          let walk = erase-walk false e in
          let before = true-so-far (lun_of g r) (block-there g r there).lun in
          rw (lt-ltb number g.blocks (omega (arith, walk, before, few))) (omega (arith, walk, before))

      pub after-erase : (x : Lun) → x.blank ≡ pick (not (blank_block g place counts flags)) (one_more g number) number
          → Counted (set luns (lun_of g r) x) erased
      after-erase x told =
          moved r x erased (block-there g r there).lun (told ∙ erase-number (blank_block g place counts flags) refl)
          (other-walk g counts erased flags r there erase-apart)

    -- a second command, by what it does; only one that starts work programs or erases
    abbrev pub found_for : Act → Row → Findings
    found_for a r = record { proceeds = proceeds g words a r counts flags; blank = was_blank g a r counts flags }

    abbrev pub luns_begun : Act → Bool → Row → Bool → Bool → List Lun
    luns_begun a starts r opens closes =
        pick starts (begun g luns r (not (found_for a r).proceeds) opens closes (blank_after g a (found_for a r) (blank_at luns (lun_of g r)))) luns

    -- where the number is not to move
    kept-begun : (starts : Bool) (r : Row) (fail opens closes : Bool) (w : Work) → counts_after g w counts ≡ counts
        → Counted (pick starts (begun g luns r fail opens closes (blank_at luns (lun_of g r))) luns) (counts_after g w counts)
    kept-begun starts r fail opens closes w same =
        let x = lun_begun (lun_at luns (lun_of g r)) fail opens closes (blank_at luns (lun_of g r)) in
        by-pick (λ (x : List Lun). Counted x (counts_after g w counts)) starts _ _
        (λ _. still (set luns (lun_of g r) x) w (λ l. stored-leaves (λ (y : Lun). y.blank) luns (lun_of g r) l x refl) same)
        (λ _. still luns w (λ l. refl) same)

    program-ended : (r : Row) (opens closes : Bool) → row_exists g r ≡ true → (go : Bool) → (found_for act.Program r).proceeds ≡ go
        → Counted
        (begun g luns r (not go) opens closes (pick (go && (found_for act.Program r).blank) (blank_at luns (lun_of g r) - 1) (blank_at luns (lun_of g r))))
        (counts_after g (pick go (work.Program r) work.Nothing) counts)
    unfolding counts_after
    program-ended r opens closes there true e = after-program r there _ refl
    program-ended r opens closes there false e = kept-begun true r true opens closes work.Nothing refl

    erase-ended : (r : Row) (opens closes : Bool) → block_exists g r ≡ true → (go : Bool) → (found_for act.Erase r).proceeds ≡ go
        → Counted
        (begun g luns r (not go) opens closes (pick (go && not (found_for act.Erase r).blank) (one_more g (blank_at luns (lun_of g r))) (blank_at luns (lun_of g r))))
        (counts_after g (pick go (work.Erase r) work.Nothing) counts)
    unfolding counts_after
    erase-ended r opens closes there true e = after-erase r there (not-true (block_bad g r flags) e) _ refl
    erase-ended r opens closes there false e = kept-begun true r true opens closes work.Nothing refl

    pub ended : (a : Act) (starts : Bool) → (moves_act a ≡ true → starts ≡ true) → (r : Row) (opens closes : Bool) → Reaches g a r
        → Counted (luns_begun a starts r opens closes) (counts_after g (acted a r (found_for a r)) counts)
    unfolding Reaches counts_after
    ended act.Nothing starts h r opens closes there = kept-begun starts r _ opens closes work.Nothing refl
    ended act.Load starts h r opens closes there = kept-begun starts r _ opens closes (work.Load r) refl
    ended act.Program starts h r opens closes there =
        rw (h refl) (program-ended r opens closes there (found_for act.Program r).proceeds refl)
    ended act.Erase starts h r opens closes there =
        rw (h refl) (erase-ended r opens closes there (found_for act.Erase r).proceeds refl)
    ended act.Move starts h r opens closes there = kept-begun starts r _ opens closes work.Nothing refl
