-- What is written (document 02, A5) is a whole job of demand 3, one without 85h moves.
use Rattle.std.specs.Prelude.{ℕ, ◌≡◌, List, map}
use Rattle.trace.specs.Run.{events_of}
use Rattle.jobs.specs.Cycles.{column_bytes, row_bytes}
use Rattle.jobs.specs.Writing.{records_of}
use Rattle.jobs.specs.declared.Job as written
use Rattle.jobs.specs.declared.Job.TheVariants.{Read, ReadOut, Program, Erase, Status}
use Rattle.thm_stations.specs.Jobs.{event_of, byte, Job, read, read_out, program, erase, status, cycles}

-- the whole job that a job to be written is; the bytes are a program's
abbrev pub whole_job : written.Job → List ℕ → Job
whole_job (Read c r) bytes = read (column_bytes c) (row_bytes r)
whole_job (ReadOut c r n) bytes = read_out (column_bytes c) (row_bytes r) n
whole_job (Program c r) bytes = program (column_bytes c) (row_bytes r) (map byte bytes)
whole_job (Erase r) bytes = erase (row_bytes r)
whole_job (Status r n) bytes = status (row_bytes r) n

-- the records, read as a trace, are the whole job's events
abbrev pub WrittenIsWhole : Type 0
WrittenIsWhole =
    (j : written.Job) (bytes : List ℕ) → events_of (records_of j bytes) ≡ map event_of (cycles (whole_job j bytes))
