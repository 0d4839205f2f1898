-- Document 01's "Cases to hold to" (a) to (j), as one table: each a trace on T1 or T2 as power-on makes them, and its
-- replies. Two bytes a record: kind and value, and 00 00 accepted, 01 and the byte, 02 and the refusal number.
use Rattle.std.specs.Prelude.{◌≡◌, true, List, [], ◌∷◌, ◌++◌, ℕ, ◌*◌, replicate}
use Rattle.target.specs.Address.{page_of, block_of, lun_of}
use Rattle.target.specs.Sizes.{page_size, sized}
use Rattle.target.specs.declared.Geometry.{Geometry}
use Rattle.target.specs.declared.Row.{Row}
use Rattle.power.specs.Power.{power_number}
use Rattle.blocks.specs.Blocks.{page_index}
use Rattle.thm_kept.specs.Kept.{lets_pass}
use Rattle.thm_cases.specs.Parts.{Part, t1, t2, t1_with, powered, first, told}

-- records of a trace
abbrev pub command : ℕ → List ℕ → List ℕ
command v rest = 0 ∷ v ∷ rest

abbrev pub reset : List ℕ → List ℕ
reset rest = command 0xff rest

-- a command's column, of two cycles, and its row, of three
abbrev pub column : ℕ → ℕ → List ℕ → List ℕ
column low high rest = 1 ∷ low ∷ 1 ∷ high ∷ rest

abbrev pub row : ℕ → List ℕ → List ℕ
row low rest = 1 ∷ low ∷ 1 ∷ 0 ∷ 1 ∷ 0 ∷ rest

abbrev pub data_in : ℕ → List ℕ → List ℕ
data_in v rest = 2 ∷ v ∷ rest

abbrev pub data_out : List ℕ → List ℕ
data_out rest = 3 ∷ 0 ∷ rest

abbrev pub finish : ℕ → List ℕ → List ℕ
finish l rest = 4 ∷ l ∷ rest

abbrev pub protect : ℕ → List ℕ → List ℕ
protect level rest = 5 ∷ level ∷ rest

-- replies
abbrev pub accepted : ℕ → List ℕ → List ℕ
accepted n rest = replicate (2 * n) 0 ++ rest

abbrev pub byte : ℕ → List ℕ → List ℕ
byte v rest = 1 ∷ v ∷ rest

abbrev pub refused : ℕ → List ℕ → List ℕ
refused n rest = 2 ∷ n ∷ rest

abbrev pub geometry : Part → Geometry
geometry p = (powered p).target.geometry

abbrev pub row_at : ℕ → Row
row_at n = record { 0 = n }

-- the start: power-on accepts the part, and rule 13 lets it pass
pub record Begun (p : Part) : Type 0 where
  pub answer : power_number (powered p).answer ≡ 0
  pub passes : lets_pass (first p).target p.params (first p).buffers p.flags ≡ true

-- one byte programmed at column 0 of row 0, and the finish
abbrev pub program : ℕ → List ℕ → List ℕ
program v rest = command 0x80 (column 0 0 (row 0 (data_in v (command 0x10 (finish 0 rest)))))

-- row 0 read, with the finish
abbrev pub read : List ℕ → List ℕ
read rest = command 0x00 (column 0 0 (row 0 (command 0x30 (finish 0 rest))))

pub record Cases : Type 0 where
  pub start-1 : Begun t1
  pub start-2 : Begun t2
  -- T1 array is 33,792 bytes
  pub a : (n : ℕ) → sized (geometry t1) n 1056 64 16 ≡ true → n ≡ 33792
  -- T1 row 55 is LUN 1, block 5, page 3, array place 29,040
  pub b : (lun_of (geometry t1) (row_at 55) ≡ 1) × (block_of (geometry t1) (row_at 55) ≡ 5)
      × (page_of (geometry t1) (row_at 55) ≡ 3)
      × (page_index (geometry t1) (row_at 55) * page_size (geometry t1) ≡ 29040)
  -- T2 row 18 is block 4, page 2
  pub c : (lun_of (geometry t2) (row_at 18) ≡ 0) × (block_of (geometry t2) (row_at 18) ≡ 4)
      × (page_of (geometry t2) (row_at 18) ≡ 2)
  -- T2 row 15, and row 20, refused 4 for 80h
  pub d : told t2 (reset (command 0x80 (column 0 0 (row 15 [])))) ≡ accepted 6 (refused 4 [])
  pub e : told t2 (reset (command 0x80 (column 0 0 (row 20 [])))) ≡ accepted 6 (refused 4 [])
  -- T1 row 64 refused: for 00h, 80h, 06h, 60h and 78h
  pub f-00 : told t1 (reset (command 0x00 (column 0 0 (row 64 [])))) ≡ accepted 6 (refused 4 [])
  pub f-80 : told t1 (reset (command 0x80 (column 0 0 (row 64 [])))) ≡ accepted 6 (refused 4 [])
  pub f-06 : told t1 (reset (command 0x06 (column 0 0 (row 64 [])))) ≡ accepted 6 (refused 4 [])
  pub f-60 : told t1 (reset (command 0x60 (row 64 []))) ≡ accepted 4 (refused 4 [])
  pub f-78 : told t1 (reset (command 0x78 (row 64 []))) ≡ accepted 4 (refused 4 [])
  -- column 527 accepted, 528 refused
  pub g-527 : told t1 (reset (command 0x80 (column 0x0f 0x02 []))) ≡ accepted 4 []
  pub g-528 : told t1 (reset (command 0x80 (column 0x10 0x02 []))) ≡ accepted 3 (refused 4 [])
  -- A5h programmed with 3Ch gives 24h: the first byte of the page, and the second as it was
  pub h : told (t1_with 0xa5 0) (reset (program 0x3c (read (data_out (data_out []))))) ≡ accepted 18 (byte 0x24 (byte 0xa5 []))
  -- status E0h ready, E1h failed, 80h working, 60h ready with line low
  pub i-ready : told t1 (reset (command 0x70 (data_out []))) ≡ accepted 2 (byte 0xe0 [])
  pub i-working : told (t1_with 0xff 1) (reset (command 0x60 (row 0 (command 0xd0 (command 0x70 (data_out (finish 0 (data_out []))))))))
      ≡ accepted 7 (byte 0x80 (accepted 1 (byte 0xe1 [])))
  pub i-low : told t1 (reset (protect 0 (command 0x70 (data_out [])))) ≡ accepted 3 (byte 0x60 [])
  -- data in at 527 accepted, the next refused 8
  pub j : told t1 (reset (command 0x80 (column 0x0f 0x02 (row 0 (data_in 7 (data_in 7 [])))))) ≡ accepted 8 (refused 8 [])
  -- the whole case of "Events and replies as records"
  pub whole : told t1 (reset (command 0x90 (1 ∷ 0x20 ∷ data_out (data_out (data_out (data_out (data_out [])))))))
      ≡ 0x00 ∷ 0x00 ∷ 0x00 ∷ 0x00 ∷ 0x00 ∷ 0x00 ∷ 0x01 ∷ 0x4f ∷ 0x01 ∷ 0x4e ∷ 0x01 ∷ 0x46 ∷ 0x01 ∷ 0x49 ∷ 0x02 ∷ 0x08 ∷ []
