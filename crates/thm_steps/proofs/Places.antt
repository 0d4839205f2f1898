-- Where 30h, 35h, D0h, 85h and 10h are accepted. What a second command says of its first is one test, computed at every
-- first command.
-- Assumes nothing.
use mathlib.Core.Path.{◌≡◌, refl, sym, ap, ◌∙◌}
use mathlib.Core.Bool.{Bool, true, false, ◌&&◌, ◌||◌, not, false≢true}
use Prim.Native.Nat.{ℕ}
use lib.Dec.{eqb}
use borrow.Author.Tests.{eqb-true, not-true}
use Rattle.target.specs.Pick.{pick}
use Rattle.target.specs.Commands.{first_commands, row_of, first_of, byte_of, second_row, class_of, is_first, in_page, closes_copyback, waits_second}
use Rattle.target.specs.Views.{ended_by, ends_with, ending}
use Rattle.target.specs.Place.{is_open, is_ended, command_fits}
use Rattle.target.specs.declared.Column.{Column}
use Rattle.target.specs.declared.Row.{Row}
use Rattle.target.specs.declared.First.{First}
use Rattle.target.specs.declared.First.TheVariants as first
use Rattle.target.specs.declared.Geometry.{Geometry}
use Rattle.target.specs.declared.Wait.{Wait}
use Rattle.target.specs.declared.Fill.{Fill}
use Rattle.target.specs.declared.Sequence.{Sequence}
use Rattle.target.specs.declared.Sequence.TheVariants.{Idle, Columns, Rows, Single, Due, Filling, Moving, Setting}
use Rattle.target.proofs.Both.{both, both3}
use Rattle.target.proofs.Firsts.{every, each_first, named}
use Rattle.step.specs.Usable.{column_held, row_held, sequence_sound}
use Rattle.thm_kept.proofs.Choice.{by-pick}
use Rattle.std.specs.Prelude.{None, Option, Some}
use Rattle.target.specs.declared.views.Ended.{Ended}

modus : (a b : Bool) → (not a || b) ≡ true → a ≡ true → b ≡ true
modus true b h k = h
modus false b h k = absurd (false≢true k)

opposed : (a b : Bool) → (not a || not b) ≡ true → a ≡ true → b ≡ true → ⊥
opposed true true h k l = false≢true h
opposed true false h k l = false≢true l
opposed false b h k l = false≢true k

-- what holds where a command ends nothing, and where it ends a first command, holds at every place
pub by-ending : (P : Option Ended → Type 0) (v : ℕ) → P None → ((f : First) (c : Column) (r : Row) → P (ended_by v f c r))
    → (s : Sequence) → P (ending s v)
by-ending P v none some Idle = none
by-ending P v none some (Columns k) = none
by-ending P v none some (Rows k) = none
by-ending P v none some (Single f) = none
by-ending P v none some (Due k) =
    by-pick P (ends_with k.first v) _ _ (λ _. some k.first k.column k.row) (λ _. none)
by-ending P v none some (Filling k) =
    by-pick P (eqb v 0x10 || eqb v 0x85) _ _ (λ _. some k.first k.at k.row) (λ _. none)
by-ending P v none some (Moving k) = none
by-ending P v none some (Setting k) = none

ended-test : (x : Bool) (k : Option Ended) → is_ended (pick x k None) ≡ true → x ≡ true
ended-test true k h = refl
ended-test false k h = absurd (false≢true h)

-- this first command has this byte, and is not 05h within the parameter page, whose byte names another
abbrev has_byte : ℕ → First → Bool
has_byte w f = eqb (byte_of f) w && not (in_page f)

-- of the first commands only the one of this byte passes this test
only-first : (p : First → Bool) (w : ℕ) (g : First) → every (λ (x : First). not (p x) || has_byte w x) first_commands ≡ true → first_of w ≡ Some g
    → (f : First) → p f ≡ true → f ≡ g
only-first p w g test told f h =
    let is = both (eqb (byte_of f) w) (not (in_page f)) (modus (p f) (has_byte w f) (each_first (λ (x : First). not (p x) || has_byte w x) test f) h) in
    let both_found : Some f ≡ Some g = sym (named f (not-true (in_page f) is.1)) ∙ ap first_of (eqb-true (byte_of f) w is.0) ∙ told in
    cc

-- a second command that is neither 10h nor 85h
due-only : (s : Sequence) (v : ℕ) → is_first (class_of v) ≡ false → (eqb v 0x10 || eqb v 0x85) ≡ false → command_fits s v ≡ true
    → (k : Wait) × ((s ≡ Due k) × (ends_with k.first v ≡ true))
due-only Idle v h z fits = absurd (false≢true (sym h ∙ fits))
due-only (Columns k) v h z fits = absurd (false≢true fits)
due-only (Rows k) v h z fits = absurd (false≢true fits)
due-only (Single f) v h z fits = absurd (false≢true fits)
due-only (Due k) v h z fits = (k, (refl, ended-test (ends_with k.first v) (ended_by v k.first k.column k.row) fits))
due-only (Filling k) v h z fits = absurd (false≢true (sym z ∙ ended-test (eqb v 0x10 || eqb v 0x85) (ended_by v k.first k.at k.row) fits))
due-only (Moving k) v h z fits = absurd (false≢true fits)
due-only (Setting k) v h z fits = absurd (false≢true fits)

second-30 : is_first (class_of 0x30) ≡ false
unfolding class_of row_of second_row
second-30 = refl

second-35 : is_first (class_of 0x35) ≡ false
unfolding class_of row_of second_row
second-35 = refl

second-d0 : is_first (class_of 0xd0) ≡ false
unfolding class_of row_of second_row
second-d0 = refl

second-10 : is_first (class_of 0x10) ≡ false
unfolding class_of row_of second_row
second-10 = refl

read-30 : (f : First) → ends_with f 0x30 ≡ true → f ≡ first.Read
unfolding row_of first_of
read-30 f h = only-first (λ (x : First). ends_with x 0x30) 0x00 first.Read refl refl f h

read-35 : (f : First) → ends_with f 0x35 ≡ true → f ≡ first.Read
unfolding row_of first_of
read-35 f h = only-first (λ (x : First). ends_with x 0x35) 0x00 first.Read refl refl f h

erase-d0 : (f : First) → ends_with f 0xd0 ≡ true → f ≡ first.Erase
unfolding row_of first_of
erase-d0 f h = only-first (λ (x : First). ends_with x 0xd0) 0x60 first.Erase refl refl f h

pub closes-80 : (f : First) → closes_copyback f ≡ true → f ≡ first.Program
unfolding row_of first_of
closes-80 f h = only-first closes_copyback 0x80 first.Program refl refl f h

-- and a first command with 10h does not wait for it with its addresses, but takes data
data-10 : (f : First) → ends_with f 0x10 ≡ true → waits_second f ≡ true → ⊥
unfolding row_of
data-10 f h k = opposed (ends_with f 0x10) (waits_second f) (each_first (λ (x : First). not (ends_with x 0x10) || not (waits_second x)) refl f) h k

pub place-30 : (s : Sequence) → command_fits s 0x30 ≡ true → (k : Wait) × ((s ≡ Due k) × (k.first ≡ first.Read))
place-30 s h = let p = due-only s 0x30 second-30 refl h in (p.0, (p.1.0, read-30 p.0.first p.1.1))

pub place-35 : (s : Sequence) → command_fits s 0x35 ≡ true → (k : Wait) × ((s ≡ Due k) × (k.first ≡ first.Read))
place-35 s h = let p = due-only s 0x35 second-35 refl h in (p.0, (p.1.0, read-35 p.0.first p.1.1))

pub place-d0 : (s : Sequence) → command_fits s 0xd0 ≡ true → (k : Wait) × ((s ≡ Due k) × (k.first ≡ first.Erase))
place-d0 s h = let p = due-only s 0xd0 second-d0 refl h in (p.0, (p.1.0, erase-d0 p.0.first p.1.1))

-- 85h ends no first command that waits for its second one
never-85 : (f : First) → ends_with f 0x85 ≡ false
unfolding row_of
never-85 f = not-true (ends_with f 0x85) (each_first (λ (x : First). not (ends_with x 0x85)) refl f)

pub place-85 : (s : Sequence) → is_open s ≡ true → command_fits s 0x85 ≡ true → (k : Fill) × (s ≡ Filling k)
place-85 Idle inside fits = absurd (false≢true inside)
place-85 (Columns k) inside fits = absurd (false≢true fits)
place-85 (Rows k) inside fits = absurd (false≢true fits)
place-85 (Single f) inside fits = absurd (false≢true fits)
place-85 (Due k) inside fits =
    absurd (false≢true (sym (never-85 k.first) ∙ ended-test (ends_with k.first 0x85) (ended_by 0x85 k.first k.column k.row) fits))
place-85 (Filling k) inside fits = (k, refl)
place-85 (Moving k) inside fits = absurd (false≢true fits)
place-85 (Setting k) inside fits = absurd (false≢true fits)

pub place-10 : (g : Geometry) (s : Sequence) → sequence_sound g s ≡ true → command_fits s 0x10 ≡ true → (k : Fill) × (s ≡ Filling k)
place-10 g Idle sound fits = absurd (false≢true (sym second-10 ∙ fits))
place-10 g (Columns k) sound fits = absurd (false≢true fits)
place-10 g (Rows k) sound fits = absurd (false≢true fits)
place-10 g (Single f) sound fits = absurd (false≢true fits)
place-10 g (Due k) sound fits =
    absurd (data-10 k.first
    (ended-test (ends_with k.first 0x10) (ended_by 0x10 k.first k.column k.row) fits)
    (both3 (waits_second k.first) (column_held g k.first k.column) (row_held g k.first k.row) sound).0)
place-10 g (Filling k) sound fits = (k, refl)
place-10 g (Moving k) sound fits = absurd (false≢true fits)
place-10 g (Setting k) sound fits = absurd (false≢true fits)
