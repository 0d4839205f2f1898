-- Jobs as records (document 02, A5): which are too wide, what their records are, and what writing them into a room leaves.
use Rattle.std.specs.Prelude.{ℕ, Bool, ◌||◌, List, [], ◌∷◌, ◌++◌, map, length, drop, replicate, ltb, Result, Ok, Err}
use Rattle.target.specs.Pick.{pick}
use Rattle.jobs.specs.Cycles.{Cycle, data_in, data_out, ColumnBytes, RowBytes, column_bytes, row_bytes, read_cycles, read_out_cycles, program_cycles, erase_cycles, status_cycles, bytes_of}
use Rattle.jobs.specs.declared.Job.{Job}
use Rattle.jobs.specs.declared.Job.TheVariants.{Read, ReadOut, Program, Erase, Status}
use Rattle.jobs.specs.declared.writing.Unwritten.{Unwritten}
use Rattle.jobs.specs.declared.writing.Unwritten.TheVariants.{TooWide, TooSmall}

-- a column above 16 bits, or a row above 24
abbrev pub wide : ℕ → ℕ → Bool
wide column row = ltb 65535 column || ltb 16777215 row

unfoldable pub too_wide : Job → Bool
too_wide (Read c r) = wide c r
too_wide (ReadOut c r n) = wide c r
too_wide (Program c r) = wide c r
too_wide (Erase r) = wide 0 r
too_wide (Status r n) = wide 0 r

-- a job's cycles; the bytes are a program's, lent beside it
abbrev pub cycles : Job → List ℕ → List Cycle
cycles (Read c r) bytes = read_cycles (column_bytes c) (row_bytes r)
cycles (ReadOut c r n) bytes = read_out_cycles (column_bytes c) (row_bytes r) n
cycles (Program c r) bytes = program_cycles (column_bytes c) (row_bytes r) (map data_in bytes)
cycles (Erase r) bytes = erase_cycles (row_bytes r)
cycles (Status r n) bytes = status_cycles (row_bytes r) n

unfoldable pub records_of : Job → List ℕ → List ℕ
records_of j bytes = bytes_of (cycles j bytes)

-- what a writer answers, and the room as it leaves it
pub record Wrote : Type 0 where
  pub answer : Result ℕ Unwritten
  pub room : List ℕ

-- records go to the front of the room where it has room for all of them; what is past them stays. Else nothing is written
unfoldable pub laid : List ℕ → List ℕ → Wrote
laid records room =
    pick (ltb (length room) (length records)) (record { answer = Err TooSmall; room = room })
    (record { answer = Ok (length records); room = records ++ drop (length records) room })

-- too wide is its own answer, given before the room is looked at
unfoldable pub wrote_of : Job → List ℕ → List ℕ → Wrote
wrote_of j bytes room = pick (too_wide j) (record { answer = Err TooWide; room = room }) (laid (records_of j bytes) room)

-- For the code: a job's head, the records of data in and of data out.
abbrev pub head_long : ℕ → ColumnBytes → RowBytes → List ℕ
head_long first c r =
    0 ∷ (first ∷ (1 ∷ (c.low ∷ (1 ∷ (c.high ∷ (1 ∷ (r.low ∷ (1 ∷ (r.mid ∷ (1 ∷ (r.high ∷ [])))))))))))

abbrev pub head_short : ℕ → RowBytes → List ℕ
head_short first r = 0 ∷ (first ∷ (1 ∷ (r.low ∷ (1 ∷ (r.mid ∷ (1 ∷ (r.high ∷ [])))))))

abbrev pub data_records : List ℕ → List ℕ
data_records bytes = bytes_of (map data_in bytes)

abbrev pub out_records : ℕ → List ℕ
out_records n = bytes_of (replicate n data_out)
