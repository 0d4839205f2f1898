-- What holds between the writer and the reader of jobs (document 02, A5).
use Rattle.std.specs.Prelude.{ℕ, zero, suc, ◌+◌, ◌*◌, ◌/◌, ◌≤◌, ◌<◌, ◌≡◌, Bool, true, false, ◌&&◌, not, List, [], ◌∷◌, ◌++◌, length, take, drop, get_or, Ok, Err}
use Rattle.jobs.specs.declared.Job.{Job}
use Rattle.jobs.specs.declared.Job.TheVariants.{Read, ReadOut, Program, Erase, Status}
use Rattle.jobs.specs.Writing.{too_wide, records_of, wrote_of}
use Rattle.jobs.specs.Reading.{misfit, whole, is_kind, job_at, first_misfit}

-- every byte of a list is one
pub record AllBytes (ts : List ℕ) : Type 0 where
  pub each : (i : ℕ) → get_or ts i 0 < 256

-- the values of the first n records of a list, and of n records from a place of a trace on
abbrev pub values_of : ℕ → List ℕ → List ℕ
values_of zero ts = []
values_of (suc n) ts = get_or ts 1 0 ∷ values_of n (drop 2 ts)

unfoldable pub data_at : List ℕ → ℕ → ℕ → List ℕ
data_at trace d n = values_of n (drop (2 * d) trace)

-- where a reader puts a program's bytes, and how many: nowhere and none for another job
abbrev pub data_place : Job → ℕ → ℕ
data_place (Read c r) p = 0
data_place (ReadOut c r n) p = 0
data_place (Program c r) p = p + 6
data_place (Erase r) p = 0
data_place (Status r n) p = 0

abbrev pub data_count : Job → List ℕ → ℕ
data_count (Read c r) bytes = 0
data_count (ReadOut c r n) bytes = 0
data_count (Program c r) bytes = length bytes
data_count (Erase r) bytes = 0
data_count (Status r n) bytes = 0

-- the bytes of a job: those of a program, and none for another
abbrev pub data_of : Job → List ℕ → List ℕ
data_of (Read c r) bytes = []
data_of (ReadOut c r n) bytes = []
data_of (Program c r) bytes = bytes
data_of (Erase r) bytes = []
data_of (Status r n) bytes = []

-- Written and read. A job written behind other records, into any room, is found there: the same job, the place after
-- it, and a program's bytes. (All data out belongs to the read-out or status before it, so none may follow by chance.)
pub record ReadBack (before room : List ℕ) (p : ℕ) (j : Job) (bytes : List ℕ) (n : ℕ) (new : List ℕ) : Type 0 where
  pub found : job_at (before ++ new) p ≡ whole j (data_place j p) (data_count j bytes) (p + n / 2)
  pub given : data_at (before ++ new) (data_place j p) (data_count j bytes) ≡ data_of j bytes

abbrev pub WrittenAndRead : Type 0
WrittenAndRead =
    (before : List ℕ) (p : ℕ) (j : Job) (bytes room : List ℕ) (n : ℕ) (new : List ℕ)
    → length before ≡ 2 * p
    → wrote_of j bytes room ≡ record { answer = Ok n; room = new }
    → is_kind 3 (drop n new) ≡ false
    → ReadBack before room p j bytes n new

-- Read and written. What the reader groups is not too wide, and its records are those that it was read from.
pub record WrittenAgain (trace : List ℕ) (at : ℕ) (j : Job) (bytes : List ℕ) (next : ℕ) : Type 0 where
  pub narrow : too_wide j ≡ false
  pub same : drop (2 * at) trace ≡ records_of j bytes ++ drop (2 * next) trace
  pub size : 2 * at + length (records_of j bytes) ≡ 2 * next

abbrev pub ReadAndWritten : Type 0
ReadAndWritten =
    (trace : List ℕ) (at : ℕ) (j : Job) (d n next : ℕ)
    → AllBytes trace
    → job_at trace at ≡ whole j d n next
    → WrittenAgain trace at j (data_at trace d n) next

-- Lists of whole jobs, none of them too wide.
pub record Given : Type 0 where
  pub job : Job
  pub bytes : List ℕ

abbrev pub none_wide : List Given → Bool
none_wide [] = true
none_wide (g ∷ gs) = not (too_wide g.job) && none_wide gs

abbrev pub records_all : List Given → List ℕ
records_all [] = []
records_all (g ∷ gs) = records_of g.job g.bytes ++ records_all gs

pub record WholeJobs (ts : List ℕ) : Type 0 where
  pub jobs : List Given
  pub narrow : none_wide jobs ≡ true
  pub same : ts ≡ records_all jobs

-- a beginning of some list of whole jobs
pub record Beginning (ts : List ℕ) : Type 0 where
  pub rest : List ℕ
  pub whole : WholeJobs (ts ++ rest)

-- The first record that doesn't fit: the records before it are a beginning of some list of whole jobs, and with it they are
-- not. If it is the place after the last, all records are such a beginning, and yet no list of whole jobs.
pub record FirstMisfit (trace : List ℕ) (p : ℕ) : Type 0 where
  pub within : 2 * p ≤ length trace
  pub begins : Beginning (take (2 * p) trace)
  pub breaks : 2 * p + 2 ≤ length trace → Beginning (take (2 * p + 2) trace) → ⊥
  pub last : WholeJobs trace → ⊥

abbrev pub NamedByFirst : Type 0
NamedByFirst = (trace : List ℕ) (p : ℕ) → AllBytes trace → first_misfit trace ≡ Err (misfit p) → FirstMisfit trace p

abbrev pub JobsAreWhole : Type 0
JobsAreWhole = (trace : List ℕ) → AllBytes trace → first_misfit trace ≡ Ok tt → WholeJobs trace

abbrev pub WholeAreJobs : Type 0
WholeAreJobs = (trace : List ℕ) → WholeJobs trace → first_misfit trace ≡ Ok tt
