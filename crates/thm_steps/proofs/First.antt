-- "Place", as specs/Steps.antt states it: what holds of every first command is one test, computed over their list.
-- Assumes nothing.
use mathlib.Core.Path.{◌≡◌, refl, sym, ap, ◌∙◌}
use mathlib.Core.Bool.{Bool, false, ◌||◌, not, false≢true}
use mathlib.Core.List.{List}
use Prim.Native.Nat.{ℕ}
use lib.Dec.{eqb}
use borrow.Author.Tests.{not-true}
use Rattle.target.specs.Pick.{pick}
use Rattle.target.specs.Commands.{row_of, first_of, byte_of, second_of, second_row, is_second_found, cycles_of, then_of}
use Rattle.target.specs.Views.{ended_with, ending}
use Rattle.target.specs.Place.{is_open}
use Rattle.target.specs.declared.Column.{Column}
use Rattle.target.specs.declared.Row.{Row}
use Rattle.target.specs.declared.Geometry.{Geometry}
use Rattle.target.specs.declared.Target.{Target}
use Rattle.target.specs.declared.First.{First}
use Rattle.target.specs.declared.Sequence.{Sequence}
use Rattle.target.specs.declared.Output.{Output}
use Rattle.target.specs.declared.Output.TheVariants as output
use Rattle.target.proofs.Both.{other}
use Rattle.target.proofs.Firsts.{each_first}
use Rattle.effects.specs.Effects.{shown, ended_output, first_output, command_output, target_after, output_after}
use Rattle.step.specs.Step.{Buffers, Outcome, accepted_by, accepted}
use Rattle.thm_kept.proofs.Choice.{by-pick}
use Rattle.thm_steps.specs.Steps.{command, Place}
use Rattle.thm_steps.proofs.Places.{by-ending}
use Rattle.thm_steps.proofs.Taken.{idle-before, left_by}
use Rattle.std.specs.Prelude.{None, Option, Some}
use Rattle.target.specs.declared.views.Ended.{Ended}
use Rattle.target.specs.declared.Second.{Second}

no_second : (k : Option Second) → is_second_found k ≡ false → k ≡ None
no_second None h = refl
no_second (Some s) h = absurd (false≢true (sym h))

no-reset : (f : First) → eqb (byte_of f) 0xff ≡ false
unfolding row_of
no-reset f = not-true (eqb (byte_of f) 0xff) (each_first (λ (x : First). not (eqb (byte_of x) 0xff)) refl f)

-- the command that a byte names waits for address cycles where a command of that byte does: 05h stands for two
abbrev at_once : Option First → Bool
at_once None = false
at_once (Some f) = eqb (cycles_of f) 0

waits-too : (f : First) → eqb (cycles_of f) 0 ≡ false → at_once (first_of (byte_of f)) ≡ false
unfolding row_of first_of
waits-too f some =
    not-true (at_once (first_of (byte_of f)))
    (other (eqb (cycles_of f) 0) (not (at_once (first_of (byte_of f))))
    (each_first (λ (x : First). eqb (cycles_of x) 0 || not (at_once (first_of (byte_of x)))) refl f) some)

-- where a first command's byte is a second command too, it puts no register out
abbrev shows_found : Option Second → Bool
shows_found None = false
shows_found (Some s) = (second_row s).shows

shows-none : (f : First) → shows_found (second_of (byte_of f)) ≡ false
unfolding row_of second_of second_row
shows-none f = not-true (shows_found (second_of (byte_of f))) (each_first (λ (x : First). not (shows_found (second_of (byte_of x)))) refl f)

module _ (g : Geometry) (selected : ℕ) where
  found-ends : (k : Option Second) (f : First) (c : Column) (r : Row) → shows_found k ≡ false → ended_output g selected (ended_with k f c r) ≡ output.Nothing
  found-ends None f c r h = refl
  found-ends (Some s) f c r h = rw (h)

  second-ends : (v : ℕ) → shows_found (second_of v) ≡ false → (s : Sequence) → ended_output g selected (ending s v) ≡ output.Nothing
  second-ends v h s =
      by-ending (λ (x : Option Ended). ended_output g selected x ≡ output.Nothing) v refl (λ f c r. found-ends (second_of v) f c r h) s

  found-opens : (k : Option First) → at_once k ≡ false → first_output selected k ≡ output.Nothing
  found-opens None h = refl
  found-opens (Some f) h = ap (λ (x : Bool). pick x (shown (then_of f) selected 0 output.Nothing) output.Nothing) h

  first_ends : (f : First) → eqb (cycles_of f) 0 ≡ false → first_output selected (first_of (byte_of f)) ≡ output.Nothing
  first_ends f some = found-opens (first_of (byte_of f)) (waits-too f some)

  command-ends : (f : First) → eqb (cycles_of f) 0 ≡ false → (s : Sequence) → command_output g selected s (byte_of f) ≡ output.Nothing
  command-ends f some s =
      by-pick (λ (o : Output). o ≡ output.Nothing) (is_open s) _ _ (λ _. second-ends (byte_of f) (shows-none f) s) (λ _. first_ends f some)

module _ (t : Target) (params : List ℕ) (b : Buffers) (flags : List ℕ) where
  pub place : Place t params b flags
  unfolding accepted accepted_by target_after output_after
  place = record {
    none_open = λ f none h. idle-before t params b flags (byte_of f) (no-reset f) (no_second (second_of (byte_of f)) none) h;
    ends-output = λ f some h.
        ap (λ (o : Outcome). o.target.decoder.output) (left_by t (command (byte_of f)) params b flags h)
        ∙ ap (λ (x : Bool). pick x output.Nothing (command_output t.geometry t.selected t.decoder.sequence (byte_of f))) (no-reset f)
        ∙ command-ends t.geometry t.selected f some t.decoder.sequence;
  }
