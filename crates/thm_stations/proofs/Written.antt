-- What is written is a whole job: the cycles are the same, and so are a cycle's record and its event.
-- Assumes nothing.
use Prim.Native.Nat.{ℕ}
use mathlib.Core.Path.{◌≡◌, refl, ap, ◌∙◌}
use mathlib.Core.List.{List, [], ◌∷◌, map}
use Rattle.target.specs.declared.Event.{Event}
use Rattle.trace.specs.Run.{events_of}
use Rattle.jobs.specs.Cycles.{Cycle, command, address, data_in, data_out, column_bytes, row_bytes, program_cycles, bytes_of}
use Rattle.jobs.specs.Writing.{records_of}
use Rattle.jobs.specs.Writing as written
use Rattle.jobs.specs.declared.Job.{Job}
use Rattle.jobs.specs.declared.Job.TheVariants.{Read, ReadOut, Program, Erase, Status}
use Rattle.thm_stations.specs.Jobs.{event_of, byte, pieces, cycles}
use Rattle.thm_stations.specs.Written.{whole_job, WrittenIsWhole}

-- a cycle's record is its event
events-of : (cs : List Cycle) → events_of (bytes_of cs) ≡ map event_of cs
unfolding events_of
events-of [] = refl
events-of (command v ∷ cs) = ap (λ (es : List Event). event_of (command v) ∷ es) (events-of cs)
events-of (address v ∷ cs) = ap (λ (es : List Event). event_of (address v) ∷ es) (events-of cs)
events-of (data_in v ∷ cs) = ap (λ (es : List Event). event_of (data_in v) ∷ es) (events-of cs)
events-of (data_out ∷ cs) = ap (λ (es : List Event). event_of data_out ∷ es) (events-of cs)

-- data in alone
data-alone : (bytes : List ℕ) → map data_in bytes ≡ pieces (map byte bytes)
data-alone [] = refl
data-alone (v ∷ bytes) = ap (λ (cs : List Cycle). data_in v ∷ cs) (data-alone bytes)

same-cycles : (j : Job) (bytes : List ℕ) → written.cycles j bytes ≡ cycles (whole_job j bytes)
unfolding cycles
same-cycles (Read c r) bytes = refl
same-cycles (ReadOut c r n) bytes = refl
same-cycles (Program c r) bytes = ap (program_cycles (column_bytes c) (row_bytes r)) (data-alone bytes)
same-cycles (Erase r) bytes = refl
same-cycles (Status r n) bytes = refl

pub written-is-whole : WrittenIsWhole
unfolding records_of
written-is-whole j bytes = events-of (written.cycles j bytes) ∙ ap (map event_of) (same-cycles j bytes)
