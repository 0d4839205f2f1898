-- "Blank blocks" (document 02, A7), as specs/Steps.antt states it.
-- Assumes nothing.
use mathlib.Core.Path.{◌≡◌, refl, sym, ap, ◌∙◌}
use mathlib.Core.Bool.{Bool, true, false, ◌||◌, false≢true}
use mathlib.Core.List.{List}
use Prim.Native.Nat.{ℕ, zero, suc, ◌+◌, ◌*◌, ◌<◌}
use native.Mathlib.Omega.{arith}
use lib.ListN.{get_or}
use lib.Dec.{eqb}
use borrow.Author.Tests.{not-true, not-false}
use Rattle.slices.specs.Cells.{part}
use Rattle.target.specs.Pick.{pick}
use Rattle.target.specs.Address.{lun_of}
use Rattle.target.specs.Events.{is_reset}
use Rattle.target.specs.Commands.{second_of, second_row}
use Rattle.target.specs.Luns.{blank_at, all_readied}
use Rattle.target.specs.Views.{completed, ended_with}
use Rattle.target.specs.declared.Column.{Column}
use Rattle.target.specs.declared.Row.{Row}
use Rattle.target.specs.declared.Lun.{Lun}
use Rattle.target.specs.declared.Geometry.{Geometry}
use Rattle.target.specs.declared.Event.{Event}
use Rattle.target.specs.declared.Findings.{Findings}
use Rattle.target.specs.declared.Target.{Target}
use Rattle.target.specs.declared.First.{First}
use Rattle.target.specs.declared.Second.TheVariants.{StartRead, StartOutput, StartProgram, StartErase, Move, StartCopyback}
use Rattle.target.specs.declared.Sequence.{Sequence}
use Rattle.target.specs.declared.commands.Act.{Act}
use Rattle.target.specs.declared.commands.Act.TheVariants as act
use Rattle.lun_records.specs.LunsAfter.{blank_after, ended_luns, luns_after}
use Rattle.effects.specs.Effects.{target_after}
use Rattle.blocks.specs.Blocks.{block_index, block_bad, blank_block}
use Rattle.step.specs.Step.{Buffers, Outcome, accepted_by, accepted}
use Rattle.thm_kept.proofs.Choice.{by-pick, then-not}
use Rattle.thm_steps.specs.Steps.{moves_number, Blank}
use Rattle.thm_steps.proofs.Places.{by-ending}
use Rattle.thm_steps.proofs.Program.{part-byte}
use Rattle.thm_steps.proofs.PageOrder.{some-here, none-set, part-short}
use Rattle.thm_steps.proofs.Status.{stored-leaves, row-leaves}
use Rattle.thm_steps.proofs.Taken.{left_by, left-refused, and_none}
use Rattle.std.specs.Prelude.{None, Option, Some}
use Rattle.target.specs.declared.views.Ended.{Ended}
use Rattle.target.specs.declared.Second.{Second}

-- The definition, count by count.
module _ (g : Geometry) (r : Row) (counts flags : List ℕ) where
  abbrev count_at : ℕ → ℕ
  count_at p = get_or counts (block_index g r * g.pages + p) 0

  abbrev blank : Bool
  blank = blank_block g (block_index g r) counts flags

  all-zero : block_bad g r flags ≡ false → ((p : ℕ) → p < g.pages → count_at p ≡ 0) → blank ≡ true
  unfolding blank_block block_bad
  all-zero good each =
      let at = block_index g r * g.pages in
      let none = none-set (part counts at g.pages) (λ i h.
      let low : i < g.pages = omega (arith, h, part-short counts at g.pages) in
      part-byte counts at g.pages i low ∙ each i low) in
      rw (none, not-false (eqb (get_or flags (block_index g r) 0) 0) good)

  one-above : (p : ℕ) → p < g.pages → 0 < count_at p → blank ≡ false
  unfolding blank_block
  one-above p low above =
      let at = block_index g r * g.pages in
      rw (some-here (part counts at g.pages) p (rw (part-byte counts at g.pages p low) above))
      (and_none (eqb (get_or flags (block_index g r) 0) 0))

  never-bad : block_bad g r flags ≡ true → blank ≡ false
  unfolding blank_block block_bad
  never-bad bad = rw (not-true (eqb (get_or flags (block_index g r) 0) 0) bad)

-- FFh leaves each number
pub readied-leaves : (luns : List Lun) (l : ℕ) → l < 4 → blank_at (all_readied luns) l ≡ blank_at luns l
readied-leaves luns zero h = refl
readied-leaves luns (suc zero) h = refl
readied-leaves luns (suc (suc zero)) h = refl
readied-leaves luns (suc (suc (suc zero))) h = refl
readied-leaves luns (suc (suc (suc (suc l)))) h = absurd (omega (arith, h))

-- a second command that is neither 10h nor D0h neither programs nor erases
abbrev pub moves_act : Act → Bool
moves_act act.Nothing = false
moves_act act.Load = false
moves_act act.Program = true
moves_act act.Erase = true
moves_act act.Move = false

abbrev moves_found : Option Second → Bool
moves_found None = false
moves_found (Some s) = moves_act (second_row s).act

by_tests : (a o p q m c : Bool) → (p || q) ≡ false
    → moves_found (pick a (Some StartRead) (pick o (Some StartOutput) (pick p (Some StartProgram)
    (pick q (Some StartErase) (pick m (Some Move) (pick c (Some StartCopyback) None))))))
    ≡ false
unfolding second_row
by_tests true o p q m c h = refl
by_tests false true p q m c h = refl
by_tests false false true q m c h = absurd (false≢true (sym h))
by_tests false false false true m c h = absurd (false≢true (sym h))
by_tests false false false false true c h = refl
by_tests false false false false false true h = refl
by_tests false false false false false false h = refl

moves-none : (v : ℕ) → (eqb v 0x10 || eqb v 0xd0) ≡ false → moves_found (second_of v) ≡ false
unfolding second_of second_row
moves-none v h = by_tests (eqb v 0x30) (eqb v 0xe0) (eqb v 0x10) (eqb v 0xd0) (eqb v 0x85) (eqb v 0x35) h

module _ (g : Geometry) (luns : List Lun) (found : Findings) (l : ℕ) where
  abbrev Leaves : List Lun → Type 0
  Leaves x = blank_at x l ≡ blank_at luns l

  act-leaves : (a : Act) (n : ℕ) → moves_act a ≡ false → blank_after g a found n ≡ n
  act-leaves act.Nothing n h = refl
  act-leaves act.Load n h = refl
  act-leaves act.Program n h = absurd (false≢true (sym h))
  act-leaves act.Erase n h = absurd (false≢true (sym h))
  act-leaves act.Move n h = refl

  found-leaves : (k : Option Second) (f : First) (c : Column) (r : Row) → moves_found k ≡ false
      → Leaves (ended_luns g luns (ended_with k f c r) found)
  found-leaves None f c r h = refl
  found-leaves (Some s) f c r h =
      by-pick Leaves (second_row s).starts _ _
      (λ _. stored-leaves (λ (x : Lun). x.blank) luns (lun_of g r) l _ (act-leaves (second_row s).act (blank_at luns (lun_of g r)) h))
      (λ _. refl)

  number-stays : (s : Sequence) (e : Event) → moves_number e ≡ false → l < 4 → Leaves (luns_after g luns s e found)
  unfolding luns_after
  number-stays s e h low =
      by-pick Leaves (is_reset e) _ _ (λ _. readied-leaves luns l low)
      (λ _. by-pick Leaves (eqb e.kind 0) _ _
      (λ is. let none = moves-none e.value (then-not (eqb e.kind 0) (eqb e.value 0x10 || eqb e.value 0xd0) h is) in
      by-ending (λ (x : Option Ended). Leaves (ended_luns g luns x found)) e.value refl (λ f c r. found-leaves (second_of e.value) f c r none) s)
      (λ _. by-pick Leaves (eqb e.kind 1) _ _ (λ _. row-leaves g luns (λ (x : Lun). x.blank) (λ _. refl) (completed s e.value) l)
      (λ _. by-pick Leaves (eqb e.kind 4) _ _ (λ _. stored-leaves (λ (x : Lun). x.blank) luns e.value l _ refl) (λ _. refl))))

pub blank-blocks : (t : Target) (params : List ℕ) (b : Buffers) (flags : List ℕ) → Blank t params b flags
unfolding accepted accepted_by target_after
blank-blocks t params b flags = record {
  blank = λ r good each. all-zero t.geometry r b.counts flags good each;
  written = λ r p low above. one-above t.geometry r b.counts flags p low above;
  bad = λ r is. never-bad t.geometry r b.counts flags is;
  else-stays = λ e h other l low.
      ap (λ (o : Outcome). blank_at o.target.luns l) (left_by t e params b flags h)
      ∙ number-stays t.geometry t.luns _ l t.decoder.sequence e other low;
  refused = λ e q h l. ap (λ (x : List Lun). blank_at x l) (left-refused t e params b flags q h).1;
}
