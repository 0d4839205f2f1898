-- The promises of demand 1, of the refusals that no event gets and of document 02's A2, each at its edge: a run on T1
-- from power-on, with what is told and left. The promises themselves are statements of crates `thm_demands` and
-- `thm_steps`; here each is computed once.
use Rattle.std.specs.Prelude.{◌≡◌, List, [], ◌∷◌, ◌++◌, ℕ, zero, suc, replicate}
use Rattle.power.specs.Power.{power_number, power_of}
use Rattle.trace.specs.Run.{run_number, trace_of}
use Rattle.thm_cases.specs.Parts.{t1, t1_with, first, run, told}
use Rattle.thm_cases.specs.Cases.{command, reset, column, row, data_in, data_out, finish, protect, accepted, byte, refused, read}

-- 80h, row 0, one byte and 10h, without a finish
abbrev pub begun : List ℕ → List ℕ
begun rest = command 0x80 (column 0 0 (row 0 (data_in 0x3c (command 0x10 rest))))

-- the same with the protect line at this level
abbrev pub lined : ℕ → List ℕ
lined level = reset (protect level (begun []))

-- a LUN works, and then comes this command and a status
abbrev pub cut_by : ℕ → List ℕ
cut_by v = reset (begun (command v (command 0x70 (data_out []))))

-- output is open, an address comes where none fits, and output is asked for
abbrev pub lost : List ℕ
lost = reset (read (data_out (1 ∷ 0 ∷ data_out [])))

-- the answer of a trace over a reply room of this length
abbrev pub roomed : ℕ → List ℕ → ℕ
roomed n records =
    run_number (trace_of (first t1).target records (replicate n 0) t1.params (first t1).buffers t1.flags).answer

-- power-on of T1 with another first byte of its page
abbrev pub powered_by : ℕ → List ℕ → ℕ
powered_by byte rest = power_number (power_of (byte ∷ rest) 0x68 t1.array t1.registers t1.counts t1.flags).answer

abbrev pub behind_first : List ℕ → List ℕ
behind_first [] = []
behind_first (v ∷ rest) = rest

-- so many programs of row 0, each with its finish, and a status
abbrev pub programs : ℕ → List ℕ → List ℕ
programs zero rest = rest
programs (suc n) rest = begun (finish 0 (programs n rest))

-- rows 3 and 4 programmed, the last of one block and the first of the next, and the first block erased
abbrev pub erased : List ℕ
erased =
    reset (command 0x80 (column 0 0 (row 3 (command 0x10 (finish 0
    (command 0x80 (column 0 0 (row 4 (command 0x10 (finish 0
    (command 0x60 (row 0 (command 0xd0 [])))))))))))))

-- row 0 read, its status asked for while the LUN works and again after the finish, and then a bare 00h and data out
abbrev pub polled : List ℕ
polled =
    reset (command 0x00 (column 0 0 (row 0 (command 0x30
    (command 0x70 (data_out (finish 0 (data_out (command 0x00 (data_out []))))))))))

-- row 0 read, and then a bare 00h and data out
abbrev pub unpolled : List ℕ
unpolled = reset (read (data_out (command 0x00 (data_out []))))

-- the parameter page opened, a status asked for, and 05h with this column
abbrev pub in_page : ℕ → ℕ → List ℕ → List ℕ
in_page low high rest = reset (command 0xec (1 ∷ 0 ∷ command 0x70 (command 0x05 (column low high rest))))

pub record Edges : Type 0 where
  -- "While the protect line is low no event changes the array or the program counts": 10h is 7 then, and does nothing
  pub low_told : told (t1_with 0xa5 0) (lined 0) ≡ accepted 9 (refused 7 [])
  pub low-array : (run (t1_with 0xa5 0) (lined 0)).buffers.array ≡ replicate 528 0xa5 ++ replicate 33264 0xff
  pub low-counts : (run (t1_with 0xa5 0) (lined 0)).buffers.counts ≡ replicate 64 0
  -- "one FFh .. leaves every LUN ready", and 70h says so
  pub readied : told t1 (cut_by 0xff) ≡ accepted 11 (byte 0xe0 [])
  -- "drops the sequence under way and ends output": nothing is left to be put out
  pub ended : told (t1_with 0xa5 0) lost ≡ accepted 9 (byte 0xa5 (refused 3 (refused 3 [])))
  -- a run with its own buffers meets 12, and never 13
  pub bad : told t1 (reset (6 ∷ 0 ∷ [])) ≡ accepted 1 (refused 12 [])
  -- 16: an odd last byte wants two bytes of room too
  pub no_room : roomed 2 (reset (7 ∷ [])) ≡ 16
  pub room : roomed 4 (reset (7 ∷ [])) ≡ 0
  -- the lowest of 20 to 25: signature and CRC are both wrong here
  pub unsigned : powered_by 0x4e (behind_first t1.params) ≡ 21
  -- 2: a cycle before the first FFh
  pub before-reset : told t1 (command 0x70 []) ≡ refused 2 []
  -- 1: a byte that is no command, inside a sequence too
  pub unknown : told t1 (reset (command 0x80 (command 0x0b []))) ≡ accepted 2 (refused 1 [])
  -- 3: a second command with no sequence open
  pub misplaced : told t1 (reset (command 0xe0 [])) ≡ accepted 1 (refused 3 [])
  -- 6: 90h while a LUN works
  pub busy : told t1 (reset (begun (command 0x90 []))) ≡ accepted 9 (refused 6 [])
  -- 9: a feature byte that is neither 00h nor 40h
  pub feature : told t1 (reset (command 0xef (1 ∷ 1 ∷ data_in 0x41 []))) ≡ accepted 3 (refused 9 [])
  -- 10: the finish of a LUN that does not work
  pub idle-finish : told t1 (reset (finish 1 [])) ≡ accepted 1 (refused 10 [])
  -- 11: the protect line, to the level it has, inside a sequence
  pub held-line : told t1 (reset (command 0x80 (protect 1 []))) ≡ accepted 2 (refused 11 [])
  -- four programs a page and no fifth: the fifth fails, and the count stays
  pub full : told t1 (reset (programs 4 (command 0x70 (data_out [])))) ≡ accepted 38 (byte 0xe0 [])
  pub fuller : told t1 (reset (programs 5 (command 0x70 (data_out [])))) ≡ accepted 47 (byte 0xe1 [])
  pub full-count : (run t1 (reset (programs 5 []))).buffers.counts ≡ 4 ∷ replicate 63 0
  -- an erase sets its block's counts to 0, and no other's
  pub extent : (run t1 erased).buffers.counts ≡ 0 ∷ 0 ∷ 0 ∷ 0 ∷ 1 ∷ replicate 59 0
  -- A2: data out after a status and a bare 00h goes on; with no status between, 00h has ended it
  pub goes_on : told (t1_with 0xa5 0) polled
      ≡ accepted 9 (byte 0x80 (accepted 1 (byte 0xe0 (accepted 1 (byte 0xa5 [])))))
  pub gone : told (t1_with 0xa5 0) unpolled ≡ accepted 9 (byte 0xa5 (accepted 1 (refused 3 [])))
  -- 05h behind a status moves within the page: byte 576, the maker's ID of its third copy, and 768 is past the end
  pub in-page : told t1 (in_page 0x40 0x02 (command 0xe0 (data_out []))) ≡ accepted 8 (byte 0x2c [])
  pub past-page : told t1 (in_page 0x00 0x03 []) ≡ accepted 6 (refused 4 [])
