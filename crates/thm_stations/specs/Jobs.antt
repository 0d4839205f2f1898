-- Whole jobs (document 01, "Whole jobs of demand 3"; document 02, A1, both halves of a copyback), and the LUN that a job's row names. Their bus cycles are those of crate
-- `jobs`; what demand 3 adds is the 85h moves of a program, which are no part of the jobs written and read (document 02, A5).
-- Bytes are free; page, block and column may be out of range. Data out after a bare 00h, and 05h, are no jobs (document 02, A2).
use Rattle.std.specs.Prelude.{ℕ, List, [], ◌∷◌}
use Rattle.target.specs.Address.{row_from, lun_of}
use Rattle.target.specs.declared.Event.{Event}
use Rattle.target.specs.declared.Geometry.{Geometry}
use Rattle.target.specs.declared.Row.{Row}
use Rattle.jobs.specs.Cycles.{Cycle, command, address, data_in, data_out, ColumnBytes, RowBytes, two, read_by, read_cycles, read_out_cycles, program_by, program_cycles, erase_cycles, status_cycles}

-- a cycle as an event
abbrev pub event_of : Cycle → Event
event_of (command v) = record { kind = 0; value = v }
event_of (address v) = record { kind = 1; value = v }
event_of (data_in v) = record { kind = 2; value = v }
event_of data_out = record { kind = 3; value = 0 }

-- the finish event of the l-th LUN
abbrev pub finish_of : ℕ → Event
finish_of l = record { kind = 4; value = l }

-- what may stand between a program's row and its 10h: a data byte, or an 85h move
pub data Piece : Type 0 where
  byte : ℕ → Piece
  move : ColumnBytes → Piece

pub data Job : Type 0 where
  read : ColumnBytes → RowBytes → Job
  read_out : ColumnBytes → RowBytes → ℕ → Job
  program : ColumnBytes → RowBytes → List Piece → Job
  erase : RowBytes → Job
  status : RowBytes → ℕ → Job
  copyback_read : ColumnBytes → RowBytes → Job
  copyback_program : ColumnBytes → RowBytes → List Piece → Job

-- a data byte is one cycle, a move 85h and two addresses
abbrev pub pieces : List Piece → List Cycle
pieces [] = []
pieces (byte v ∷ ps) = data_in v ∷ pieces ps
pieces (move c ∷ ps) = command 0x85 ∷ two c (pieces ps)

unfoldable pub cycles : Job → List Cycle
cycles (read c r) = read_cycles c r
cycles (read_out c r n) = read_out_cycles c r n
cycles (program c r ps) = program_cycles c r (pieces ps)
cycles (erase r) = erase_cycles r
cycles (status r n) = status_cycles r n
cycles (copyback_read c r) = read_by 0x35 c r
cycles (copyback_program c r ps) = program_by 0x85 c r (pieces ps)

abbrev pub whole_row : RowBytes → Row
whole_row r = row_from r.low r.mid r.high

abbrev pub row_named : Job → Row
row_named (read c r) = whole_row r
row_named (read_out c r n) = whole_row r
row_named (program c r ps) = whole_row r
row_named (erase r) = whole_row r
row_named (status r n) = whole_row r
row_named (copyback_read c r) = whole_row r
row_named (copyback_program c r ps) = whole_row r

-- the row's LUN field names the job's LUN
abbrev pub lun_named : Geometry → Job → ℕ
lun_named g j = lun_of g (row_named j)
