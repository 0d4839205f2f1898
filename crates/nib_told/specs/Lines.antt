-- A trace line by line (document 02, A5): a whole job, or what is none. Places count records from 0.
use Rattle.std.specs.Prelude.{ℕ, zero, suc, ◌+◌, ◌*◌, ◌/◌, ◌<◌, ◌≡◌, Bool, false, ◌&&◌, ◌||◌, List, length, drop, get_or, eqb, ltb, leb, if◌then◌else◌, Option, Some, None, Result, Ok, Err}
use Rattle.jobs.specs.declared.reading.FoundJob.{FoundJob}
use Rattle.jobs.specs.declared.reading.Misfit.{Misfit}
use Rattle.jobs.specs.Reading.{many_of, job_at}
use Rattle.nib_told.specs.declared.lines.Told.TheVariants as told
use Rattle.nib_told.specs.declared.lines.Line.{Line}

-- kind and value of the record at a place, 0 where the trace has none
abbrev pub kind_at : List ℕ → ℕ → ℕ
kind_at trace at = get_or trace (2 * at) 0

abbrev pub value_at : List ℕ → ℕ → ℕ
value_at trace at = get_or trace (2 * at + 1) 0

-- data in, or a data out as it should be
abbrev pub is_data : ℕ → ℕ → Bool
is_data k v = eqb k 2 || (eqb k 3 && eqb v 0)

-- data cycles in a row are told at once
abbrev pub times_of : ℕ → ℕ → List ℕ → ℕ → ℕ
times_of k v trace at = if is_data k v then many_of k (drop (2 * at) trace) else 1

-- whether a program is open at a place, by the last command before it: 80h, or 85h. What a part would refuse is not looked at
unfoldable pub in_program : List ℕ → ℕ → Bool
in_program trace zero = false
in_program trace (suc n) = if eqb (kind_at trace n) 0 then eqb (value_at trace n) 128 || eqb (value_at trace n) 133 else in_program trace n

-- 85h inside a program moves its column
abbrev pub moves : ℕ → ℕ → List ℕ → ℕ → Bool
moves k v trace at = eqb k 0 && eqb v 133 && in_program trace at

-- the first record of a job that is not whole, and where the misfit is: past the last record where the trace ends inside the job
abbrev pub begun_at : List ℕ → ℕ → ℕ → Line
begun_at trace at p = record { told = told.Begun (kind_at trace at) (value_at trace at) (leb (length trace) (2 * p)); next = p }

-- a record that begins no job, or the odd last byte
abbrev pub alone_at : List ℕ → ℕ → Line
alone_at trace at =
    if ltb at (length trace / 2)
    then record {
      told = told.Event (kind_at trace at) (value_at trace at) (times_of (kind_at trace at) (value_at trace at) trace at)
          (moves (kind_at trace at) (value_at trace at) trace at);
      next = at + times_of (kind_at trace at) (value_at trace at) trace at;
    }
    else record { told = told.Odd (kind_at trace at); next = at + 1 }

-- what the reader of jobs finds; after a misfit the next line begins at it, for it may begin a job
abbrev pub line_of : Result (Option FoundJob) Misfit → List ℕ → ℕ → Option Line
line_of (Ok None) trace at = None
line_of (Err m) trace at = Some (if ltb at m.place then begun_at trace at m.place else alone_at trace at)
line_of (Ok (Some g)) trace at = Some (record { told = told.Whole g.job g.count; next = g.next })

unfoldable pub line_at : List ℕ → ℕ → Option Line
line_at trace at = line_of (job_at trace at) trace at

-- where the line after that of a place begins; that place itself where there is none
abbrev pub next_after : Option Line → ℕ → ℕ
next_after (Some line) at = line.next
next_after None at = at

abbrev pub next_place : List ℕ → ℕ → ℕ
next_place trace at = next_after (line_at trace at) at

-- no record is told twice and none is left out: a line begins where the one before it ends, and goes on from there
-- (proved in proofs/Forward.antt)
unfoldable pub Forward : Type 0
Forward = (trace : List ℕ) (at : ℕ) (line : Line) → line_at trace at ≡ Some line → at < line.next
