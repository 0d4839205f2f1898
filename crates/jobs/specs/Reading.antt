-- Records grouped into jobs (document 02, A5). A list of records is given as bytes, kind and value; places count records from 0.
use Rattle.std.specs.Prelude.{ℕ, zero, suc, ◌+◌, ◌-◌, ◌*◌, Bool, true, false, ◌&&◌, ◌||◌, not, List, [], ◌∷◌, length, drop, get_or, eqb, Option, None, Some, Result, Ok, Err}
use Rattle.target.specs.Pick.{pick}
use Rattle.jobs.specs.declared.Job.{Job}
use Rattle.jobs.specs.declared.Job.TheVariants as job
use Rattle.jobs.specs.declared.reading.First.{First}
use Rattle.jobs.specs.declared.reading.First.TheVariants as first
use Rattle.jobs.specs.declared.reading.Misfit.{Misfit}
use Rattle.jobs.specs.declared.reading.FoundJob.{FoundJob}

-- the first record that doesn't fit
abbrev pub misfit : ℕ → Misfit
misfit p = record { place = p }

-- a job that was found: the job, a program's bytes as place and number, and the place after it
abbrev pub grouped : Job → ℕ → ℕ → ℕ → FoundJob
grouped j d n p = record { job = j; place = d; count = n; next = p }

abbrev pub whole : Job → ℕ → ℕ → ℕ → Result (Option FoundJob) Misfit
whole j d n p = Ok (Some (grouped j d n p))

-- which job a command begins
unfoldable pub first_of : ℕ → Option First
first_of v =
    pick (eqb v 0x00) (Some first.Read)
    (pick (eqb v 0x06) (Some first.ReadOut)
    (pick (eqb v 0x80) (Some first.Program)
    (pick (eqb v 0x60) (Some first.Erase)
    (pick (eqb v 0x78) (Some first.Status)
    None))))

-- which job a record begins
unfoldable pub beginning : ℕ → ℕ → Option First
beginning kind value = pick (eqb kind 0) (first_of value) None

-- what a job is made of after its first command: an address cycle, a command, any number of data in or of data out
pub data Item : Type 0 where
  address : Item
  command : ℕ → Item
  data_ins data_outs : Item

abbrev pub addresses : ℕ → List Item → List Item
addresses zero is = is
addresses (suc n) is = address ∷ addresses n is

abbrev pub item_if : Bool → Item → List Item → List Item
item_if true i is = i ∷ is
item_if false i is = is

-- n addresses, data in where it may come, a last command, data out where it may come
abbrev pub closed_items : ℕ → Bool → ℕ → Bool → List Item
closed_items n takes closing gives = addresses n (item_if takes data_ins (command closing ∷ item_if gives data_outs []))

abbrev pub open_items : ℕ → List Item
open_items n = addresses n (data_outs ∷ [])

abbrev pub items : First → List Item
items first.Read = closed_items 5 false 0x30 false
items first.ReadOut = closed_items 5 false 0xe0 true
items first.Program = closed_items 5 true 0x10 false
items first.Erase = closed_items 3 false 0xd0 false
items first.Status = open_items 3

-- a record of this kind; a data out with a value is none
abbrev pub of_kind : ℕ → ℕ → ℕ → Bool
of_kind kind k v = eqb k kind && (not (eqb kind 3) || eqb v 0)

-- how many of the first `most` records are of a kind, up to the first that is not
unfoldable pub run : ℕ → ℕ → List ℕ → ℕ
run zero kind ts = 0
run (suc most) kind [] = 0
run (suc most) kind (k ∷ []) = 0
run (suc most) kind (k ∷ (v ∷ ts)) = pick (of_kind kind k v) (suc (run most kind ts)) 0

-- as many as come
abbrev pub many_of : ℕ → List ℕ → ℕ
many_of kind ts = run (length ts) kind ts

-- the first record is of this kind, or this command
abbrev pub is_kind : ℕ → List ℕ → Bool
is_kind kind [] = false
is_kind kind (k ∷ []) = false
is_kind kind (k ∷ (v ∷ ts)) = of_kind kind k v

abbrev pub is_command : ℕ → List ℕ → Bool
is_command b [] = false
is_command b (k ∷ []) = false
is_command b (k ∷ (v ∷ ts)) = eqb k 0 && eqb v b

-- how far the records, the first of them at place `at`, fit the items: to the place after the last of them, or up to one
-- that does not fit, or to the end of the list
unfoldable pub through : List Item → List ℕ → ℕ → Result ℕ Misfit
through [] ts at = Ok at
through (address ∷ is) ts at = pick (is_kind 1 ts) (through is (drop 2 ts) (at + 1)) (Err (misfit at))
through (command b ∷ is) ts at = pick (is_command b ts) (through is (drop 2 ts) (at + 1)) (Err (misfit at))
through (data_ins ∷ is) ts at = through is (drop (2 * many_of 2 ts) ts) (at + many_of 2 ts)
through (data_outs ∷ is) ts at = through is (drop (2 * many_of 3 ts) ts) (at + many_of 3 ts)

-- the value of record i of a list
abbrev pub value_at : List ℕ → ℕ → ℕ
value_at ts i = get_or ts (2 * i + 1) 0

-- column and row of a job whose records stand at the front of a list, least significant byte first
unfoldable pub column_at : List ℕ → ℕ
column_at ts = value_at ts 1 + 256 * value_at ts 2

unfoldable pub row_at : List ℕ → ℕ → ℕ
row_at ts i = value_at ts i + 256 * value_at ts (i + 1) + 65536 * value_at ts (i + 2)

-- the job whose records begin at `at`, at the front of ts, and end before `next`; a program's bytes as place and number
abbrev pub grouped_of : First → List ℕ → ℕ → ℕ → FoundJob
grouped_of first.Read ts at next = grouped (job.Read (column_at ts) (row_at ts 3)) 0 0 next
grouped_of first.ReadOut ts at next = grouped (job.ReadOut (column_at ts) (row_at ts 3) (next - (at + 7))) 0 0 next
grouped_of first.Program ts at next = grouped (job.Program (column_at ts) (row_at ts 3)) (at + 6) (next - (at + 7)) next
grouped_of first.Erase ts at next = grouped (job.Erase (row_at ts 1)) 0 0 next
grouped_of first.Status ts at next = grouped (job.Status (row_at ts 1) (next - (at + 4))) 0 0 next

abbrev pub found_of : First → List ℕ → ℕ → Result ℕ Misfit → Result (Option FoundJob) Misfit
found_of f ts at (Err m) = Err m
found_of f ts at (Ok p) = Ok (Some (grouped_of f ts at p))

-- the job that a record begins; of one that begins none, the record itself is the misfit
abbrev pub begun_of : Option First → List ℕ → ℕ → Result (Option FoundJob) Misfit
begun_of None ts at = Err (misfit at)
begun_of (Some f) ts at = found_of f ts at (through (items f) (drop 2 ts) (at + 1))

-- the job at the front of a list whose first record has place `at`; an odd last byte is a record that doesn't fit
abbrev pub job_from : List ℕ → ℕ → Result (Option FoundJob) Misfit
job_from [] at = Ok None
job_from (k ∷ []) at = Err (misfit at)
job_from (k ∷ (v ∷ ts)) at = begun_of (beginning k v) (k ∷ (v ∷ ts)) at

-- the job at a place of a trace
unfoldable pub job_at : List ℕ → ℕ → Result (Option FoundJob) Misfit
job_at trace at = job_from (drop (2 * at) trace) at

-- Lists of jobs, record by record: what is still due of the job that is open, nothing between two jobs.
pub data Next : Type 0 where
  stuck : Next
  on : List Item → Next

abbrev pub begun : Option First → Next
begun None = stuck
begun (Some f) = on (items f)

-- one record: it fits what is due, or goes on with what may come any number of times, or begins the next job
unfoldable pub step : List Item → ℕ → ℕ → Next
step [] k v = begun (beginning k v)
step (address ∷ is) k v = pick (of_kind 1 k v) (on is) stuck
step (command b ∷ is) k v = pick (eqb k 0 && eqb v b) (on is) stuck
step (data_ins ∷ is) k v = pick (of_kind 2 k v) (on (data_ins ∷ is)) (step is k v)
step (data_outs ∷ is) k v = pick (of_kind 3 k v) (on (data_outs ∷ is)) (step is k v)

-- nothing more has to come
abbrev pub ended : List Item → Bool
ended [] = true
ended (address ∷ is) = false
ended (command b ∷ is) = false
ended (data_ins ∷ is) = ended is
ended (data_outs ∷ is) = ended is

abbrev pub onward : Next → Result Unit Misfit → (List Item → Result Unit Misfit) → Result Unit Misfit
onward stuck here there = here
onward (on is) here there = there is

-- the first record that doesn't fit, from place `at` on; the place after the last if the list stops inside a job
unfoldable pub walk : List Item → List ℕ → ℕ → Result Unit Misfit
walk is [] at = pick (ended is) (Ok tt) (Err (misfit at))
walk is (k ∷ []) at = Err (misfit at)
walk is (k ∷ (v ∷ ts)) at = onward (step is k v) (Err (misfit at)) (λ js. walk js ts (at + 1))

unfoldable pub first_misfit : List ℕ → Result Unit Misfit
first_misfit trace = walk [] trace 0
