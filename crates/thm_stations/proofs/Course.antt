-- The course of a job through the decoder: each cycle still to come has to do with no LUN but the job's, and after the last
-- no sequence is open. It is told by the views of the open sequence and by the commands' attributes. No cycle of a job reads
-- what is kept behind a status (document 02, A2): none is data out after a bare 00h, and none is 05h. So the course goes by
-- sequence and output alone.
-- Assumes nothing.
use mathlib.Core.Path.{◌≡◌, refl, sym, ◌∙◌}
use mathlib.Core.Bool.{Bool, true, false, ◌&&◌, not, false≢true}
use mathlib.Core.List.{List, [], ◌∷◌}
use Prim.Native.Nat.{ℕ}
use lib.Dec.{eqb}
use borrow.Author.Tests.{not-true}
use Rattle.target.specs.Address.{lun_of}
use Rattle.target.specs.Commands.{first_of, waits_for, cycles_of, takes_row}
use Rattle.target.specs.Views.{completed, taking, ending}
use Rattle.target.specs.Place.{takes_command, is_bare}
use Rattle.target.specs.declared.Decoder.{Decoder}
use Rattle.target.specs.declared.First.{First}
use Rattle.target.specs.declared.Geometry.{Geometry}
use Rattle.target.specs.declared.Sequence.{Sequence}
use Rattle.target.specs.declared.Sequence.TheVariants.{Idle}
use Rattle.target.specs.declared.Output.{Output}
use Rattle.target.specs.declared.Output.TheVariants as output
use Rattle.target.specs.declared.commands.Waits.{Waits}
use Rattle.target.specs.declared.commands.Waits.TheVariants as waits
use Rattle.target.specs.declared.views.Given.{Given}
use Rattle.target.specs.declared.views.Given.TheVariants as given
use Rattle.target.specs.declared.views.Taker.{Taker}
use Rattle.target.specs.declared.views.Taker.TheVariants as taker
use Rattle.target.proofs.Both.{both3}
use Rattle.rules.specs.Rules.{fits}
use Rattle.effects.specs.Effects.{sequence_after, output_after}
use Rattle.jobs.specs.Cycles.{Cycle, command, address, data_in, data_out}
use Rattle.thm_stations.specs.Jobs.{event_of}
use Rattle.std.specs.Prelude.{None, Option, Some}
use Rattle.target.specs.declared.views.Ended.{Ended}

abbrev pub held : Sequence → Output → Output → Decoder
held s o kept = record { sequence = s; output = o; kept = kept }

abbrev pub decoder : Sequence → Output → Decoder
decoder s o = held s o output.Nothing

abbrev pub is_nobody : Waits → Bool
is_nobody waits.Nobody = true
is_nobody waits.Others = false
is_nobody waits.All = false

-- a first command that waits for no LUN, and does not show the selected one's status at once
abbrev pub aimed : First → Bool
aimed f = is_nobody (waits_for f) && not (eqb (cycles_of f) 0)

abbrev pub aimed_found : Option First → Bool
aimed_found None = true
aimed_found (Some f) = aimed f

-- a command byte that is no reset, nor 05h, which looks at the output, and if it is a first command, an aimed one
abbrev pub plain : ℕ → Bool
plain v = not (eqb v 0xff) && not (eqb v 0x05) && aimed_found (first_of v)

pub record Plain (v : ℕ) : Type 0 where
  pub no-reset : eqb v 0xff ≡ false
  pub no-page : eqb v 0x05 ≡ false
  pub is-aimed : aimed_found (first_of v) ≡ true

pub plainly : (v : ℕ) → plain v ≡ true → Plain v
plainly v h =
    let p = both3 (not (eqb v 0xff)) (not (eqb v 0x05)) (aimed_found (first_of v)) h in
    record { no-reset = not-true _ p.0; no-page = not-true _ p.1; is-aimed = p.2 }

-- a second command with a row of the l-th LUN
unfoldable pub EndedOf : Geometry → ℕ → Option Ended → Type 0
EndedOf g l None = Unit
EndedOf g l (Some k) = (takes_row k.first ≡ true) × (lun_of g k.row ≡ l)

-- an address that completes a row of the l-th LUN, or a column of which nothing is asked
unfoldable pub GivenOf : Geometry → ℕ → Option Given → Type 0
GivenOf g l None = Unit
GivenOf g l (Some (given.Column k)) = k.asks ≡ false
GivenOf g l (Some (given.Row k)) = lun_of g k.row ≡ l
GivenOf g l (Some (given.Single k)) = ⊥

-- data for a program of the l-th LUN
unfoldable pub TakerOf : Geometry → ℕ → Option Taker → Type 0
TakerOf g l None = Unit
TakerOf g l (Some (taker.Program k)) = lun_of g k.row ≡ l
TakerOf g l (Some (taker.Feature k)) = ⊥

-- output that is the l-th LUN's
unfoldable pub OutputOf : ℕ → Output → Type 0
OutputOf l output.Nothing = Unit
OutputOf l (output.Register m c) = m ≡ l
OutputOf l (output.Parameters at) = ⊥
OutputOf l (output.Status m) = m ≡ l
OutputOf l (output.Ids at) = ⊥
OutputOf l (output.Signature at) = ⊥
OutputOf l (output.Feature at) = ⊥

-- the cycle has to do with no LUN but the l-th
unfoldable pub CycleOf : Geometry → ℕ → Cycle → Sequence → Output → Type 0
CycleOf g l (command v) s o = (plain v ≡ true) × EndedOf g l (ending s v)
CycleOf g l (address v) s o = GivenOf g l (completed s v)
CycleOf g l (data_in v) s o = TakerOf g l (taking s)
CycleOf g l data_out s o = (is_bare s ≡ false) × OutputOf l o

-- so does every cycle to come, as long as they fit
unfoldable pub Course : Geometry → ℕ → List Cycle → Sequence → Output → Type 0
Course g l [] s o = s ≡ Idle
Course g l (c ∷ cs) s o =
    CycleOf g l c s o
    × (fits (decoder s o) (event_of c) ≡ true
    → Course g l cs (sequence_after (decoder s o) (event_of c)) (output_after g l (decoder s o) (event_of c)))

-- a refusal anywhere among the cycles drops sequence and output: those behind it have a course from there too
unfoldable pub Spared : Geometry → ℕ → List Cycle → Type 0
Spared g l [] = Unit
Spared g l (c ∷ cs) = Course g l (c ∷ cs) Idle output.Nothing × Spared g l cs

pub spared-all : (g : Geometry) (l : ℕ) (cs : List Cycle) → Spared g l cs → Course g l cs Idle output.Nothing
unfolding Spared Course
spared-all g l [] h = refl
spared-all g l (c ∷ cs) h = h.0

-- the cycles behind the next
abbrev pub behind : List Cycle → List Cycle
behind [] = []
behind (c ∷ cs) = cs

pub spared-behind : (g : Geometry) (l : ℕ) (cs : List Cycle) → Spared g l cs → Spared g l (behind cs)
unfolding Spared
spared-behind g l [] h = tt
spared-behind g l (c ∷ cs) h = h.1

-- with no sequence open and no output, only a command fits
module _ (g : Geometry) (l : ℕ) (cs : List Cycle) (h : Spared g l cs) where
  pub spared-address : (v : ℕ) → Spared g l (address v ∷ cs)
  unfolding Spared Course CycleOf GivenOf fits
  spared-address v = ((tt, λ fit. absurd (false≢true fit)), h)

  pub spared-in : (v : ℕ) → Spared g l (data_in v ∷ cs)
  unfolding Spared Course CycleOf TakerOf fits
  spared-in v = ((tt, λ fit. absurd (false≢true fit)), h)

  pub spared-out : Spared g l (data_out ∷ cs)
  unfolding Spared Course CycleOf OutputOf fits
  spared-out = (((refl, tt), λ fit. absurd (false≢true fit)), h)

  -- and no command that opens no sequence
  pub spared-command : (v : ℕ) → plain v ≡ true → takes_command Idle v ≡ false → Spared g l (command v ∷ cs)
  unfolding Spared Course CycleOf EndedOf fits
  spared-command v known not_first = (((known, tt), λ fit. absurd (false≢true (sym not_first ∙ fit))), h)

-- Whatever is kept.

module _ (g : Geometry) (l : ℕ) (s : Sequence) where
  -- the sequence after a cycle of a job, whatever was put out or kept before
  pub sequence-any : (c : Cycle) (o p i j : Output) → CycleOf g l c s o
      → sequence_after (held s o i) (event_of c) ≡ sequence_after (held s p j) (event_of c)
  unfolding CycleOf sequence_after
  sequence-any (command v) o p i j keeps = rw ((plainly v keeps.0).no-reset, (plainly v keeps.0).no-page)
  sequence-any (address v) o p i j keeps = refl
  sequence-any (data_in v) o p i j keeps = refl
  sequence-any data_out o p i j keeps = refl

  -- and whether the cycle fits
  pub fits-any : (c : Cycle) (o i j : Output) → CycleOf g l c s o → fits (held s o i) (event_of c) ≡ fits (held s o j) (event_of c)
  unfolding CycleOf fits
  fits-any (command v) o i j keeps = refl
  fits-any (address v) o i j keeps = refl
  fits-any (data_in v) o i j keeps = refl
  fits-any data_out o i j keeps = rw keeps.0

-- two outputs differ only before a job's first command and after its last cycle, where no cycle of the job reads them
pub data Standing : List Cycle → Output → Output → Type 0 where
  equal : {cs : List Cycle} {o : Output} → Standing cs o o
  at-start : {v : ℕ} {cs : List Cycle} {o p : Output} → Standing (command v ∷ cs) o p
  at-end : {o p : Output} → Standing [] o p

-- two decoders do alike over the cycles
pub record Alike (g : Geometry) (l : ℕ) (cs : List Cycle) (d e : Decoder) : Type 0 where
  pub sequence : d.sequence ≡ e.sequence
  pub standing : Standing cs d.output e.output
  pub course : Course g l cs d.sequence d.output
  pub rest : Spared g l (behind cs)
