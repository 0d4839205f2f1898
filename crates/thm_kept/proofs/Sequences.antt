-- The sequence after an accepted event is sound where the one before it is.
-- Assumes nothing.
use mathlib.Core.Path.{◌≡◌, refl, sym, subst}
use mathlib.Core.Bool.{Bool, true, false, ◌&&◌, ◌||◌, not, false≢true}
use Prim.Native.Nat.{ℕ, ◌+◌, ◌≤◌}
use native.Mathlib.Omega.{arith}
use lib.Dec.{eqb, ltb, leb}
use borrow.Author.Tests.{leb-false, lt-ltb, le-leb, eqb-true, not-false}
use Rattle.target.specs.Address.{column_from, row_from, row_exists}
use Rattle.target.specs.Sizes.{page_size, column_end}
use Rattle.target.specs.Words.{has_feature}
use Rattle.target.specs.Commands.{looks_of, then_of, takes_column, takes_row, cycles_of, waits_second, is_data, takes_program_data, in_page, second_row}
use Rattle.target.specs.Views.{completed, taking, ending}
use Rattle.target.specs.Place.{is_open, is_bare, first_here}
use Rattle.target.specs.Events.{is_reset}
use Rattle.target.specs.declared.Column.{Column}
use Rattle.target.specs.declared.Row.{Row}
use Rattle.target.specs.declared.Event.{Event}
use Rattle.target.specs.declared.Decoder.{Decoder}
use Rattle.target.specs.declared.Geometry.{Geometry}
use Rattle.target.specs.declared.Words.{Words}
use Rattle.target.specs.declared.First.{First}
use Rattle.target.specs.declared.ColumnCycles.{ColumnCycles}
use Rattle.target.specs.declared.RowCycles.{RowCycles}
use Rattle.target.specs.declared.Moved.{Moved}
use Rattle.target.specs.declared.Sequence.{Sequence}
use Rattle.target.specs.declared.Sequence.TheVariants.{Idle, Columns, Rows, Single, Due, Filling, Moving, Setting}
use Rattle.target.specs.declared.commands.Then.{Then}
use Rattle.target.specs.declared.commands.Then.TheVariants as then
use Rattle.target.specs.declared.views.Taker.{Taker}
use Rattle.target.specs.declared.views.Taker.TheVariants as taker
use Rattle.target.proofs.Both.{both, both3}
use Rattle.rules.specs.Rules.{row_fits, beyond, data_ended, unoffered}
use Rattle.effects.specs.Effects.{started, opened, is_move, ended_sequence, commanded, followed, column_given, addressed, filled, sequence_after}
use Rattle.step.specs.Usable.{column_held, row_held, sequence_sound}
use Rattle.thm_kept.proofs.Choice.{by-pick, and-true, one_of_two, two-of-three, below-at-most}
use Rattle.thm_kept.proofs.Commands.{data-row, data-outside}
use Rattle.thm_kept.proofs.Views.{column-most, page-looked, taker_sound, taker-sound, Ending, ends}
use Rattle.std.specs.Prelude.{None, Option, Some}
use Rattle.target.specs.declared.views.Ended.{Ended}

module _ (g : Geometry) where
  abbrev Sound : Sequence → Type 0
  Sound s = sequence_sound g s ≡ true

  -- A command.

  started-sound : (f : First) → Sound (started f)
  started-sound f =
      by-pick Sound (takes_column f) _ _
      (λ is. and-true (takes_column f) true is refl)
      (λ no. by-pick Sound (takes_row f) _ _
      (λ is. and-true (takes_row f && true) (column_held g f (record { 0 = 0 })) (and-true (takes_row f) true is refl) (rw (no)))
      (λ _. by-pick Sound (eqb (cycles_of f) 1) _ _ (λ is. is) (λ _. refl)))

  opened-sound : (found : Option First) → Sound (opened found)
  opened-sound None = refl
  opened-sound (Some f) = started-sound f

  ended-sound : (found : Option Ended) → Ending g found → Sound (ended_sequence found)
  ended-sound None h = refl
  ended-sound (Some k) h =
      by-pick Sound (is_move (second_row k.second).act) _ _
      (λ is. and-true (takes_program_data k.first && true) (row_exists g k.row) (and-true (takes_program_data k.first) true (h.moves is).0 refl) (h.moves is).1)
      (λ _. refl)

  commanded-sound : (d : Decoder) (v : ℕ) → Sound d.sequence → Sound (commanded d v)
  commanded-sound d v h =
      let s = d.sequence in
      by-pick Sound (is_open s) (ended_sequence (ending s v)) (opened (first_here d v))
      (λ _. ended-sound (ending s v) (ends g s v h))
      (λ _. opened-sound (first_here d v))

  -- An address cycle.

  -- a program's row is whole
  data-held : (f : First) (r : Row) → is_data (then_of f) ≡ true → row_held g f r ≡ true → row_exists g r ≡ true
  data-held f r is h =
      let p = data-row f is in
      page-looked g (looks_of f) r p.1 (rw p.0 at h)

  module _ (f : First) (c : Column) (r : Row) (h : column_held g f c ≡ true) (k : row_held g f r ≡ true) where
    follows : (next : Then) → then_of f ≡ next → Sound (followed next f c r)
    follows then.Second told =
        and-true (waits_second f && column_held g f c) (row_held g f r) (and-true (waits_second f) (column_held g f c) (rw (told)) h) k
    follows then.Data told =
        and-true (takes_program_data f && leb c.0 (page_size g)) (row_exists g r)
        (and-true (takes_program_data f) (leb c.0 (page_size g)) (rw (told)) (le-leb _ _ (subst (λ (b : Bool). c.0 ≤ column_end g b) (data-outside f (rw (told))) (column-most g f c h))))
        (data-held f r (rw (told)) k)
    follows then.FeatureIn told = refl
    follows then.Status told = refl
    follows then.Id told = refl
    follows then.ParameterPage told = refl
    follows then.FeatureOut told = refl

  column-given-sound : (f : First) (c : Column) → column_held g f c ≡ true → Sound (column_given f c)
  column-given-sound f c h =
      by-pick Sound (takes_row f) _ _
      (λ is. and-true (takes_row f && true) (column_held g f c) (and-true (takes_row f) true is refl) h)
      (λ no. follows f c (record { 0 = 0 }) h (rw (no)) (then_of f) refl)

  -- a column that is not refused at its second cycle
  before-end : (end : ℕ) (c : Column) → leb end c.0 ≡ false → ltb c.0 end ≡ true
  before-end end c h = lt-ltb c.0 end (leb-false _ _ h)

  columns-sound : (k : ColumnCycles) (v : ℕ) → Sound (Columns k) → beyond g (completed (Columns k) v) ≡ false → Sound (addressed (Columns k) v)
  columns-sound k v h near =
      let c = column_from k.low v in
      let p = both (takes_column k.first) (ltb k.got 2) h in
      by-pick Sound (eqb k.got 0) _ _
      (λ _. and-true (takes_column k.first) true p.0 refl)
      (λ no. column-given-sound k.first c (rw p.0 (before-end (column_end g (in_page k.first)) c (rw (one_of_two k.got p.1 no) at near))))

  rows-sound : (k : RowCycles) (v : ℕ) → Sound (Rows k) → beyond g (completed (Rows k) v) ≡ false → Sound (addressed (Rows k) v)
  rows-sound k v h near =
      let f = k.first in
      let c = k.column in
      let r = row_from k.low k.mid v in
      let p = both3 (takes_row f) (ltb k.got 3) (column_held g f c) h in
      let again = and-true (takes_row f && true) (column_held g f c) (and-true (takes_row f) true p.0 refl) p.2 in
      by-pick Sound (eqb k.got 0) _ _ (λ _. again)
      (λ no. by-pick Sound (eqb k.got 1) _ _ (λ _. again)
      (λ nor. follows f c r p.2 (rw p.0 (not-false (row_fits g f r) (rw (two-of-three k.got p.1 no nor) at near))) (then_of f) refl))

  single-sound : (f : First) → cycles_of f ≡ 1 → Sound (followed (then_of f) f (record { 0 = 0 }) (record { 0 = 0 }))
  single-sound f one = follows f (record { 0 = 0 }) (record { 0 = 0 }) (rw (one)) (rw (one)) (then_of f) refl

  moving-sound : (k : Moved) (v : ℕ) → Sound (Moving k) → beyond g (completed (Moving k) v) ≡ false → Sound (addressed (Moving k) v)
  moving-sound k v h near =
      let c = column_from k.low v in
      let opener = takes_program_data k.first in
      let p = both3 opener (ltb k.got 2) (row_exists g k.row) h in
      by-pick Sound (eqb k.got 0) _ _
      (λ _. and-true (opener && true) (row_exists g k.row) (and-true opener true p.0 refl) p.2)
      (λ no. and-true (opener && leb c.0 (page_size g)) (row_exists g k.row)
      (and-true opener (leb c.0 (page_size g)) p.0
      (below-at-most c.0 (page_size g) (before-end (page_size g) c (rw (one_of_two k.got p.1 no) at near))))
      p.2)

  addressed-sound : (s : Sequence) (v : ℕ) → Sound s → beyond g (completed s v) ≡ false → Sound (addressed s v)
  addressed-sound Idle v h near = refl
  addressed-sound (Columns k) v h near = columns-sound k v h near
  addressed-sound (Rows k) v h near = rows-sound k v h near
  addressed-sound (Single f) v h near = single-sound f (eqb-true (cycles_of f) 1 h)
  addressed-sound (Due k) v h near = h
  addressed-sound (Filling k) v h near = h
  addressed-sound (Moving k) v h near = moving-sound k v h near
  addressed-sound (Setting k) v h near = h

  -- Data in.

  -- a feature byte that is offered is 0 or 40h
  feature-byte : (a b c d : Bool) → not (a || b && c && d) ≡ false → (a || c) ≡ true
  feature-byte true b c d h = refl
  feature-byte false true true d h = refl
  feature-byte false true false d h = absurd (false≢true (sym h))
  feature-byte false false c d h = absurd (false≢true (sym h))

  filled-sound : (w : Words) (s : Sequence) (k : Option Taker) (v : ℕ) → Sound s → taker_sound g k ≡ true → data_ended g k ≡ false → unoffered w k v ≡ false → Sound (filled s k v)
  filled-sound w s None v h t more fine = h
  filled-sound w s (Some (taker.Program k)) v h t more fine =
      let opener = takes_program_data k.first in
      let p = both3 opener (leb k.at.0 (page_size g)) (row_exists g k.row) t in
      and-true (opener && leb (k.at.0 + 1) (page_size g)) (row_exists g k.row)
      (and-true opener (leb (k.at.0 + 1) (page_size g)) p.0
      (le-leb (k.at.0 + 1) (page_size g) (omega (arith, leb-false (page_size g) k.at.0 more))))
      p.2
  filled-sound w s (Some (taker.Feature k)) v h t more fine =
      let p = both (ltb k.got 4) (eqb k.value 0 || eqb k.value 0x40) t in
      by-pick Sound (eqb k.got 0) _ _ (λ _. feature-byte (eqb v 0) (eqb k.got 0) (eqb v 0x40) (has_feature w 8) fine)
      (λ _. by-pick Sound (eqb k.got 1) _ _ (λ _. p.1)
      (λ _. by-pick Sound (eqb k.got 2) _ _ (λ _. p.1) (λ _. refl)))

  pub sequence-kept : (w : Words) (d : Decoder) (e : Event) → sequence_sound g d.sequence ≡ true
      → (eqb e.kind 1 ≡ true → beyond g (completed d.sequence e.value) ≡ false)
      → (eqb e.kind 2 ≡ true → (data_ended g (taking d.sequence) ≡ false) × (unoffered w (taking d.sequence) e.value ≡ false))
      → sequence_sound g (sequence_after d e) ≡ true
  unfolding sequence_after
  sequence-kept w d e h near offered =
      let s = d.sequence in
      let v = e.value in
      by-pick Sound (is_reset e) _ _ (λ _. refl)
      (λ _. by-pick Sound (eqb e.kind 0) _ _ (λ _. commanded-sound d v h)
      (λ _. by-pick Sound (eqb e.kind 1) _ _ (λ is. addressed-sound s v h (near is))
      (λ _. by-pick Sound (eqb e.kind 2) _ _ (λ is. filled-sound w s (taking s) v h (taker-sound g s h) (offered is).0 (offered is).1)
      (λ _. by-pick Sound (eqb e.kind 3 && is_bare s) Idle s (λ _. refl) (λ _. h)))))
