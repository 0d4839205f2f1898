-- The output, what is kept of it and the selected LUN after an accepted event are sound where those before it are.
-- Assumes nothing.
use mathlib.Core.Path.{◌≡◌, refl, subst}
use mathlib.Core.Bool.{Bool, true, false, ◌&&◌, not}
use Prim.Native.Nat.{ℕ, ◌+◌, ◌≤◌, ◌<◌}
use native.Mathlib.Omega.{arith}
use lib.Dec.{eqb, ltb, leb}
use borrow.Author.Tests.{leb-false, lt-ltb, le-leb, not-false}
use Rattle.target.specs.Address.{lun_of}
use Rattle.target.specs.Sizes.{page_size, column_end}
use Rattle.target.specs.Commands.{byte_of, cycles_of, then_of, gives_status, in_page, takes_row, first_of, second_row}
use Rattle.target.specs.Views.{completed, ending}
use Rattle.target.specs.Place.{is_open, is_bare, put_out, shows_status, is_register_of}
use Rattle.target.specs.Events.{is_reset}
use Rattle.target.specs.declared.Event.{Event}
use Rattle.target.specs.declared.Decoder.{Decoder}
use Rattle.target.specs.declared.Geometry.{Geometry}
use Rattle.target.specs.declared.Sequence.{Sequence}
use Rattle.target.specs.declared.Output.{Output}
use Rattle.target.specs.declared.Output.TheVariants as output
use Rattle.target.specs.declared.commands.Then.{Then}
use Rattle.target.specs.declared.commands.Then.TheVariants as then
use Rattle.target.specs.declared.views.RowGiven.{RowGiven}
use Rattle.target.specs.declared.views.Given.{Given}
use Rattle.target.specs.declared.views.Given.TheVariants as given
use Rattle.target.specs.declared.views.Ended.{Ended}
use Rattle.target.proofs.Both.{both}
use Rattle.rules.specs.Rules.{row_fits, beyond, output_ended}
use Rattle.effects.specs.Effects.{ended_lun, ended_place, ended_output, shown, first_output, command_output, addressed_output, advanced, output_after, row_selects, selected_after}
use Rattle.memory.specs.Memory.{remembered, first_kept, row_kept, kept_after}
use Rattle.step.specs.Usable.{sequence_sound, output_sound, kept_sound}
use Rattle.thm_kept.proofs.Choice.{by-pick, and-true}
use Rattle.thm_kept.proofs.Views.{row_named, Completes, completes, Ends, Ending, ends}
use Rattle.std.specs.Prelude.{None, Option, Some}
use Rattle.target.specs.declared.First.{First}

module _ (g : Geometry) where
  abbrev Sound : Output → Type 0
  Sound o = output_sound g o ≡ true

  -- What comes out after a command's last address cycle.
  shown-sound : (next : Then) (l v : ℕ) (o : Output) → l < g.luns → Sound o → Sound (shown next l v o)
  shown-sound then.Second l v o h k = k
  shown-sound then.Data l v o h k = k
  shown-sound then.FeatureIn l v o h k = k
  shown-sound then.Status l v o h k = lt-ltb l g.luns h
  shown-sound then.Id l v o h k = by-pick Sound (eqb v 0x00) _ _ (λ _. refl) (λ _. refl)
  shown-sound then.ParameterPage l v o h k = refl
  shown-sound then.FeatureOut l v o h k = refl

  module _ (selected : ℕ) (one : selected < g.luns) where
    -- A command.

    first-sound : (found : Option First) → Sound (first_output selected found)
    first-sound None = refl
    first-sound (Some f) =
        by-pick Sound (eqb (cycles_of f) 0) _ _ (λ _. shown-sound (then_of f) selected 0 output.Nothing one refl) (λ _. refl)

    place-sound : (k : Ended) → Ends g k → Sound (ended_place g selected k)
    place-sound k h =
        let named : ended_lun g selected k < g.luns = by-pick (λ (l : ℕ). l < g.luns) (takes_row k.first) (lun_of g k.row) selected h.row (λ _. one) in
        by-pick Sound (in_page k.first) _ _
        (λ is. le-leb k.column.0 768 (subst (λ (b : Bool). k.column.0 ≤ column_end g b) is h.column))
        (λ no. and-true (ltb (ended_lun g selected k) g.luns) (leb k.column.0 (page_size g)) (lt-ltb _ _ named) (le-leb _ _ (subst (λ (b : Bool). k.column.0 ≤ column_end g b) no h.column)))

    ended-sound : (found : Option Ended) → Ending g found → Sound (ended_output g selected found)
    ended-sound None h = refl
    ended-sound (Some k) h = by-pick Sound (second_row k.second).shows _ _ (λ _. place-sound k h) (λ _. refl)

    command-sound : (s : Sequence) (v : ℕ) → sequence_sound g s ≡ true → Sound (command_output g selected s v)
    command-sound s v h =
        by-pick Sound (is_open s) _ _ (λ _. ended-sound (ending s v) (ends g s v h)) (λ _. first-sound (first_of v))

    -- An address cycle.

    -- a row that is whole and in range names a LUN that exists
    given-lun : (k : RowGiven) → takes_row k.first ≡ true → beyond g (Some (given.Row k)) ≡ false → lun_of g k.row < g.luns
    given-lun k t near = row_named g k.first k.row t (not-false (row_fits g k.first k.row) near)

    addressed-sound : (k : Option Given) (o : Output) → Completes g k → beyond g k ≡ false → Sound o → Sound (addressed_output g k o)
    addressed-sound None o h near s = s
    addressed-sound (Some (given.Column k)) o h near s = s
    addressed-sound (Some (given.Row k)) o h near s = shown-sound (then_of k.first) (lun_of g k.row) 0 o (given-lun k h near) s
    addressed-sound (Some (given.Single k)) o h near s = shown-sound (then_of k.first) 0 k.value o (omega (arith, one)) s

    -- it selects that LUN
    selects : (k : Option Given) → Completes g k → beyond g k ≡ false → row_selects g selected k < g.luns
    selects None h near = one
    selects (Some (given.Column k)) h near = one
    selects (Some (given.Row k)) h near = given-lun k h near
    selects (Some (given.Single k)) h near = one

  -- Data out: one place further, where the end has not come.

  further : (end n : ℕ) → leb end n ≡ false → leb (n + 1) end ≡ true
  further end n h = le-leb (n + 1) end (omega (arith, leb-false end n h))

  advanced-sound : (o : Output) → Sound o → output_ended g o ≡ false → Sound (advanced o)
  advanced-sound output.Nothing h more = refl
  advanced-sound (output.Register l c) h more =
      and-true (ltb l g.luns) (leb (c.0 + 1) (page_size g)) (both (ltb l g.luns) (leb c.0 (page_size g)) h).0 (further (page_size g) c.0 more)
  advanced-sound (output.Parameters at) h more = further 768 at more
  advanced-sound (output.Status l) h more = h
  advanced-sound (output.Ids at) h more = further 2 at more
  advanced-sound (output.Signature at) h more = further 4 at more
  advanced-sound (output.Feature at) h more = further 4 at more

  pub output-kept : (selected : ℕ) (d : Decoder) (e : Event) → selected < g.luns → sequence_sound g d.sequence ≡ true → output_sound g d.output ≡ true
      → output_sound g (put_out d) ≡ true
      → (eqb e.kind 1 ≡ true → beyond g (completed d.sequence e.value) ≡ false)
      → (eqb e.kind 3 ≡ true → output_ended g (put_out d) ≡ false)
      → output_sound g (output_after g selected d e) ≡ true
  unfolding output_after
  output-kept selected d e l h k put near more =
      let v = e.value in
      let s = d.sequence in
      by-pick Sound (is_reset e) _ _ (λ _. refl)
      (λ _. by-pick Sound (eqb e.kind 0) _ _ (λ _. command-sound selected l s v h)
      (λ _. by-pick Sound (eqb e.kind 1) _ _ (λ is. addressed-sound selected l (completed s v) d.output (completes g s v h) (near is) k)
      (λ _. by-pick Sound (eqb e.kind 3) _ _ (λ is. advanced-sound (put_out d) put (more is))
      (λ _. k))))

  -- The memory.

  abbrev KeptSound : Output → Type 0
  KeptSound o = kept_sound g o ≡ true

  remembered-sound : (d : Decoder) → Sound d.output → KeptSound d.kept → KeptSound (remembered d)
  remembered-sound d h k =
      by-pick KeptSound (shows_status d.output) _ _ (λ _. k)
      (λ no. and-true (output_sound g d.output) (not (shows_status d.output)) h (rw (no)))

  first-kept-sound : (d : Decoder) (found : Option First) → Sound d.output → KeptSound d.kept → KeptSound (first_kept d found)
  first-kept-sound d None h k = refl
  first-kept-sound d (Some f) h k =
      by-pick KeptSound (gives_status f) _ _ (λ _. remembered-sound d h k)
      (λ _. by-pick KeptSound (eqb (byte_of f) 0x00 && shows_status d.output) _ _ (λ _. k) (λ _. refl))

  row-kept-sound : (found : Option Given) (o : Output) → KeptSound o → KeptSound (row_kept g found o)
  row-kept-sound None o k = k
  row-kept-sound (Some (given.Column c)) o k = k
  row-kept-sound (Some (given.Row r)) o k =
      by-pick KeptSound (gives_status r.first && not (is_register_of (lun_of g r.row) o)) _ _ (λ _. refl) (λ _. k)
  row-kept-sound (Some (given.Single c)) o k = k

  pub memory_kept : (d : Decoder) (e : Event) → output_sound g d.output ≡ true → kept_sound g d.kept ≡ true → kept_sound g (kept_after g d e) ≡ true
  unfolding kept_after
  memory_kept d e h k =
      let v = e.value in
      let s = d.sequence in
      by-pick KeptSound (is_reset e) _ _ (λ _. refl)
      (λ _. by-pick KeptSound (eqb e.kind 0) _ _
      (λ _. by-pick KeptSound (is_open s) _ _ (λ _. k) (λ _. first-kept-sound d (first_of v) h k))
      (λ _. by-pick KeptSound (eqb e.kind 1) _ _
      (λ _. by-pick KeptSound (is_bare s) _ _ (λ _. refl) (λ _. row-kept-sound (completed s v) d.kept k))
      (λ _. by-pick KeptSound (eqb e.kind 3 && is_bare s) _ _ (λ _. refl) (λ _. k))))

  -- the selected LUN exists
  pub selected-kept : (selected : ℕ) (s : Sequence) (e : Event) → 1 ≤ g.luns → selected < g.luns → sequence_sound g s ≡ true
      → (eqb e.kind 1 ≡ true → beyond g (completed s e.value) ≡ false)
      → selected_after g selected s e < g.luns
  unfolding selected_after
  selected-kept selected s e some l h near =
      by-pick (λ (x : ℕ). x < g.luns) (is_reset e) _ _ (λ _. some)
      (λ _. by-pick (λ (x : ℕ). x < g.luns) (eqb e.kind 1) _ _
      (λ is. selects selected l (completed s e.value) (completes g s e.value h) (near is))
      (λ _. l))
