-- The bus cycles of whole jobs (document 01, "Whole jobs of demand 3"; document 02, A5), said once: addresses as bytes, and
-- what stands between a program's row and its 10h as cycles, so that a job with 85h moves is one of these too.
use Rattle.std.specs.Prelude.{ℕ, ◌/◌, ◌%◌, List, [], ◌∷◌, ◌++◌, replicate}

-- a bus cycle
pub data Cycle : Type 0 where
  command address data_in : ℕ → Cycle
  data_out : Cycle

-- the two bytes of a column and the three of a row, least significant first
pub record ColumnBytes : Type 0 where
  pub low : ℕ
  pub high : ℕ

pub record RowBytes : Type 0 where
  pub low : ℕ
  pub mid : ℕ
  pub high : ℕ

abbrev pub column_bytes : ℕ → ColumnBytes
column_bytes c = record { low = c % 256; high = c / 256 % 256 }

abbrev pub row_bytes : ℕ → RowBytes
row_bytes r = record { low = r % 256; mid = r / 256 % 256; high = r / 65536 % 256 }

-- two and three address cycles, and then the rest
abbrev pub two : ColumnBytes → List Cycle → List Cycle
two c cs = address c.low ∷ (address c.high ∷ cs)

abbrev pub three : RowBytes → List Cycle → List Cycle
three r cs = address r.low ∷ (address r.mid ∷ (address r.high ∷ cs))

-- read: 00h, five addresses, 30h; 35h in its place opens a copyback too (document 02, A1)
abbrev pub read_by : ℕ → ColumnBytes → RowBytes → List Cycle
read_by second c r = command 0x00 ∷ two c (three r (command second ∷ []))

abbrev pub read_cycles : ColumnBytes → RowBytes → List Cycle
read_cycles = read_by 0x30

-- read-out: 06h, five, E0h, any number of data out
abbrev pub read_out_cycles : ColumnBytes → RowBytes → ℕ → List Cycle
read_out_cycles c r n = command 0x06 ∷ two c (three r (command 0xe0 ∷ replicate n data_out))

-- program: 80h, five, what it is given, 10h; 85h in its place programs a copyback
abbrev pub program_by : ℕ → ColumnBytes → RowBytes → List Cycle → List Cycle
program_by first c r given = command first ∷ two c (three r (given ++ (command 0x10 ∷ [])))

abbrev pub program_cycles : ColumnBytes → RowBytes → List Cycle → List Cycle
program_cycles = program_by 0x80

-- erase: 60h, three, D0h
abbrev pub erase_cycles : RowBytes → List Cycle
erase_cycles r = command 0x60 ∷ three r (command 0xd0 ∷ [])

-- status: 78h, three, any number of data out
abbrev pub status_cycles : RowBytes → ℕ → List Cycle
status_cycles r n = command 0x78 ∷ three r (replicate n data_out)

-- as records of a trace: kind and value
abbrev pub bytes_of : List Cycle → List ℕ
bytes_of [] = []
bytes_of (command v ∷ cs) = 0 ∷ (v ∷ bytes_of cs)
bytes_of (address v ∷ cs) = 1 ∷ (v ∷ bytes_of cs)
bytes_of (data_in v ∷ cs) = 2 ∷ (v ∷ bytes_of cs)
bytes_of (data_out ∷ cs) = 3 ∷ (0 ∷ bytes_of cs)
