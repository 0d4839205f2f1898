-- What the views of a sound sequence hold: the row that an address cycle completes, what takes data, what a second command ends.
--     row_named     a row that a command takes names a LUN that exists
--     completes     a row that an address cycle completes belongs to a command that takes one
--     taker-sound   what takes data is sound
--     ends          a second command has a column within its page, and the row that it needs
-- Assumes nothing.
use mathlib.Core.Path.{◌≡◌, refl}
use mathlib.Core.Bool.{Bool, true, false, ◌||◌, false≢true}
use Prim.Native.Nat.{ℕ, ◌≤◌, ◌<◌}
use native.Mathlib.Omega.{arith}
use lib.Dec.{eqb, ltb, leb}
use borrow.Author.Tests.{eqb-true, ltb-true, leb-true}
use Rattle.target.specs.Pick.{pick}
use Rattle.target.specs.Address.{lun_of, row_exists}
use Rattle.target.specs.Sizes.{page_size, column_end}
use Rattle.target.specs.Commands.{looks_of, takes_column, takes_row, waits_second, takes_program_data, in_page, second_of, second_row}
use Rattle.target.specs.Views.{completed, taking, ended_with, ends_with, ending}
use Rattle.target.specs.declared.Column.{Column}
use Rattle.target.specs.declared.Row.{Row}
use Rattle.target.specs.declared.Geometry.{Geometry}
use Rattle.target.specs.declared.First.{First}
use Rattle.target.specs.declared.Wait.{Wait}
use Rattle.target.specs.declared.Fill.{Fill}
use Rattle.target.specs.declared.Sequence.{Sequence}
use Rattle.target.specs.declared.Sequence.TheVariants.{Idle, Columns, Rows, Single, Due, Filling, Moving, Setting}
use Rattle.target.specs.declared.commands.Looks.{Looks}
use Rattle.target.specs.declared.commands.Looks.TheVariants as looks
use Rattle.target.specs.declared.views.Given.{Given}
use Rattle.target.specs.declared.views.Given.TheVariants as given
use Rattle.target.specs.declared.views.Taker.{Taker}
use Rattle.target.specs.declared.views.Taker.TheVariants as taker
use Rattle.target.specs.declared.views.Ended.{Ended}
use Rattle.target.proofs.Both.{both3}
use Rattle.rules.specs.Rules.{exists, row_fits}
use Rattle.effects.specs.Effects.{is_move}
use Rattle.step.specs.Usable.{column_held, row_held, sequence_sound}
use Rattle.blocks.proofs.Places.{lun-below, block-there, row-lun}
use Rattle.thm_kept.proofs.Choice.{by-pick, opposite}
use Rattle.thm_kept.proofs.Commands.{looks_at_lun, looks_at_page, row-looks, data-outside, starts-rowed, never-moves}
use Rattle.std.specs.Prelude.{None, Option, Some}
use Rattle.target.specs.declared.Second.{Second}

module _ (g : Geometry) where
  -- Columns and rows that are held.

  -- a column is below its end, or 0
  pub column-most : (f : First) (c : Column) → column_held g f c ≡ true → c.0 ≤ column_end g (in_page f)
  column-most f c h = by (column_end g (in_page f)) (takes_column f) h
    where
      by : (end : ℕ) (b : Bool) → pick b (ltb c.0 end) (eqb c.0 0) ≡ true → c.0 ≤ end
      by end true k = omega (arith, ltb-true c.0 end k)
      by end false k = omega (arith, eqb-true c.0 0 k)

  -- a row that is looked at names a LUN, and a page, that exists
  lun-looked : (l : Looks) (r : Row) → looks_at_lun l ≡ true → exists g l r ≡ true → lun_of g r < g.luns
  lun-looked looks.Nothing r p h = absurd (false≢true p)
  lun-looked looks.Lun r p h = lun-below g r h
  lun-looked looks.Block r p h = (block-there g r h).lun
  lun-looked looks.Page r p h = row-lun g r h

  pub page-looked : (l : Looks) (r : Row) → looks_at_page l ≡ true → exists g l r ≡ true → row_exists g r ≡ true
  page-looked looks.Nothing r p h = absurd (false≢true p)
  page-looked looks.Lun r p h = absurd (false≢true p)
  page-looked looks.Block r p h = absurd (false≢true p)
  page-looked looks.Page r p h = h

  pub row_named : (f : First) (r : Row) → takes_row f ≡ true → row_fits g f r ≡ true → lun_of g r < g.luns
  row_named f r p h = lun-looked (looks_of f) r (row-looks f p) h

  -- What an address cycle completes.

  -- a whole row belongs to a command that takes one
  abbrev pub Completes : Option Given → Type 0
  Completes None = Unit
  Completes (Some (given.Column k)) = Unit
  Completes (Some (given.Row k)) = takes_row k.first ≡ true
  Completes (Some (given.Single k)) = Unit

  pub completes : (s : Sequence) (v : ℕ) → sequence_sound g s ≡ true → Completes (completed s v)
  completes Idle v h = tt
  completes (Columns k) v h = by-pick Completes (eqb k.got 1) _ None (λ _. tt) (λ _. tt)
  completes (Rows k) v h =
      by-pick Completes (eqb k.got 2) _ None
      (λ _. (both3 (takes_row k.first) (ltb k.got 3) (column_held g k.first k.column) h).0)
      (λ _. tt)
  completes (Single f) v h = tt
  completes (Due k) v h = tt
  completes (Filling k) v h = tt
  completes (Moving k) v h = by-pick Completes (eqb k.got 1) _ None (λ _. tt) (λ _. tt)
  completes (Setting k) v h = tt

  -- What takes data.

  abbrev pub taker_sound : Option Taker → Bool
  taker_sound None = true
  taker_sound (Some (taker.Program k)) = sequence_sound g (Filling k)
  taker_sound (Some (taker.Feature k)) = sequence_sound g (Setting k)

  pub taker-sound : (s : Sequence) → sequence_sound g s ≡ true → taker_sound (taking s) ≡ true
  taker-sound Idle h = refl
  taker-sound (Columns k) h = refl
  taker-sound (Rows k) h = refl
  taker-sound (Single f) h = refl
  taker-sound (Due k) h = refl
  taker-sound (Filling k) h = h
  taker-sound (Moving k) h = refl
  taker-sound (Setting k) h = h

  -- What a second command ends.

  pub record Ends (k : Ended) : Type 0 where
    pub column : k.column.0 ≤ column_end g (in_page k.first)
    pub row : takes_row k.first ≡ true → lun_of g k.row < g.luns
    pub starts : (second_row k.second).starts ≡ true → lun_of g k.row < g.luns
    pub moves : is_move (second_row k.second).act ≡ true → (takes_program_data k.first ≡ true) × (row_exists g k.row ≡ true)

  abbrev pub Ending : Option Ended → Type 0
  Ending None = Unit
  Ending (Some k) = Ends k

  -- the second command that a first one waits for
  due-ends : (k : Wait) (v : ℕ) → sequence_sound g (Due k) ≡ true → ends_with k.first v ≡ true → (found : Option Second)
      → second_of v ≡ found → Ending (ended_with found k.first k.column k.row)
  due-ends k v h fits None told = tt
  due-ends k v h fits (Some s) told =
      let f = k.first in
      let p = both3 (waits_second f) (column_held g f k.column) (row_held g f k.row) h in
      let named : takes_row f ≡ true → lun_of g k.row < g.luns = λ is. row_named f k.row is (rw is at p).2 in
      record {
        column = column-most f k.column p.1;
        row = named;
        starts = λ is. named (starts-rowed f p.0 v fits s told is);
        moves = λ is. absurd (opposite (is_move (second_row s).act) is (never-moves f p.0 v fits s told));
      }

  -- 10h and 85h inside a program
  filling-ends : (k : Fill) → sequence_sound g (Filling k) ≡ true → (found : Option Second) → Ending (ended_with found k.first k.at k.row)
  filling-ends k h None = tt
  filling-ends k h (Some s) =
      let p = both3 (takes_program_data k.first) (leb k.at.0 (page_size g)) (row_exists g k.row) h in
      let named = row-lun g k.row p.2 in
      record { column = rw (data-outside k.first p.0) (leb-true _ _ p.1); row = λ _. named; starts = λ _. named; moves = λ _. (p.0, p.2) }

  pub ends : (s : Sequence) (v : ℕ) → sequence_sound g s ≡ true → Ending (ending s v)
  ends Idle v h = tt
  ends (Columns k) v h = tt
  ends (Rows k) v h = tt
  ends (Single f) v h = tt
  ends (Due k) v h =
      by-pick Ending (ends_with k.first v) _ _ (λ is. due-ends k v h is (second_of v) refl) (λ _. tt)
  ends (Filling k) v h = by-pick Ending (eqb v 0x10 || eqb v 0x85) _ _ (λ _. filling-ends k h (second_of v)) (λ _. tt)
  ends (Moving k) v h = tt
  ends (Setting k) v h = tt
