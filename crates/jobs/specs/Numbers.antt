-- Whole jobs in plain numbers, for hosts. A job's number: 1 read, 2 read-out, 3 program, 4 erase, 5 status.
use Rattle.std.specs.Prelude.{ℕ, List, [], ◌∷◌, length, eqb, ltb, Option, None, Some, Result, Ok, Err}
use Rattle.std.proofs.lemmas.List.Edits.{sets}
use Rattle.target.specs.Pick.{pick}
use Rattle.jobs.specs.declared.Job.{Job}
use Rattle.jobs.specs.declared.Job.TheVariants as job
use Rattle.jobs.specs.declared.writing.Unwritten.{Unwritten}
use Rattle.jobs.specs.declared.writing.Unwritten.TheVariants as unwritten
use Rattle.jobs.specs.declared.reading.Misfit.{Misfit}
use Rattle.jobs.specs.declared.reading.FoundJob.{FoundJob}
use Rattle.jobs.specs.Writing.{wrote_of}
use Rattle.jobs.specs.Reading.{job_at, first_misfit}
use Rattle.jobs.specs.declared.numbers.JobNumbers.{JobNumbers}

unfoldable pub named_job : ℕ → ℕ → ℕ → ℕ → Option Job
named_job kind column row count =
    pick (eqb kind 1) (Some (job.Read column row))
    (pick (eqb kind 2) (Some (job.ReadOut column row count))
    (pick (eqb kind 3) (Some (job.Program column row))
    (pick (eqb kind 4) (Some (job.Erase row))
    (pick (eqb kind 5) (Some (job.Status row count))
    None))))

-- 1 too wide, 2 too small a room, else the number of bytes, which is 8 at least
abbrev pub answer_number : Result ℕ Unwritten → ℕ
answer_number (Err unwritten.TooWide) = 1
answer_number (Err unwritten.TooSmall) = 2
answer_number (Ok n) = n

pub record NumberedWrite : Type 0 where
  pub answer : ℕ
  pub room : List ℕ

-- 0 where the number names no job, and then nothing is written
abbrev pub numbered_write : Option Job → List ℕ → List ℕ → NumberedWrite
numbered_write None bytes room = record { answer = 0; room = room }
numbered_write (Some j) bytes room = record { answer = answer_number (wrote_of j bytes room).answer; room = (wrote_of j bytes room).room }

abbrev pub job_numbers : Job → ℕ → ℕ → ℕ → JobNumbers
job_numbers (job.Read c r) d count next = record { kind = 1; column = c; row = r; count = 0; place = 0; next = next }
job_numbers (job.ReadOut c r n) d count next = record { kind = 2; column = c; row = r; count = n; place = 0; next = next }
job_numbers (job.Program c r) d count next = record { kind = 3; column = c; row = r; count = count; place = d; next = next }
job_numbers (job.Erase r) d count next = record { kind = 4; column = 0; row = r; count = 0; place = 0; next = next }
job_numbers (job.Status r n) d count next = record { kind = 5; column = 0; row = r; count = n; place = 0; next = next }

-- 0 where no record stands at the place, 6 for a misfit
abbrev pub found_numbers : Result (Option FoundJob) Misfit → JobNumbers
found_numbers (Ok None) = record { kind = 0; column = 0; row = 0; count = 0; place = 0; next = 0 }
found_numbers (Err m) = record { kind = 6; column = 0; row = 0; count = 0; place = 0; next = m.place }
found_numbers (Ok (Some g)) = job_numbers g.job g.place g.count g.next

pub record NumberedRead : Type 0 where
  pub answer : ℕ
  pub numbers : List ℕ

abbrev pub six_of : JobNumbers → List ℕ
six_of n = n.kind ∷ (n.column ∷ (n.row ∷ (n.count ∷ (n.place ∷ (n.next ∷ [])))))

abbrev pub read_into : JobNumbers → List ℕ → NumberedRead
read_into n room = record { answer = n.kind; numbers = sets room 0 (six_of n) }

-- six numbers at the front of the room; 7 where there is no room for them, and then nothing is written
unfoldable pub numbered_read : List ℕ → ℕ → List ℕ → NumberedRead
numbered_read records at room = pick (ltb (length room) 6) (record { answer = 7; numbers = room }) (read_into (found_numbers (job_at records at)) room)

-- 2^64 - 1 where the list is whole jobs
abbrev pub listed_number : Result Unit Misfit → ℕ
listed_number (Ok done) = 18446744073709551615
listed_number (Err m) = m.place

unfoldable pub misfit_number : List ℕ → ℕ
misfit_number records = listed_number (first_misfit records)
