-- The records of each job: how many bytes they are, and that the stores of the code make them.
-- Assumes nothing.
use mathlib.Core.Path.{◌≡◌, refl, sym, ap, ◌∙◌}
use mathlib.Core.List.{List, [], ◌∷◌, ◌++◌, map}
use Prim.Native.Nat.{ℕ, ◌+◌, ◌*◌}
use native.Mathlib.Omega.{arith}
use lib.ListN.{length, set, length-append}
use lib.Seq.{sets}
use Rattle.jobs.specs.declared.Job.TheVariants.{Read, ReadOut, Program, Erase, Status}
use Rattle.jobs.specs.Cycles.{command, data_in, column_bytes, row_bytes, bytes_of}
use Rattle.jobs.specs.Writing.{records_of, head_long, head_short, data_records, out_records}
use Rattle.jobs.proofs.Room.{turn, append-records, data-size, out-size}

-- read 14, read-out 14 + 2n, program 14 + 2n, erase 10, status 8 + 2n
pub read-size : (c r : ℕ) (bytes : List ℕ) → length (records_of (Read c r) bytes) ≡ 14 + 2 * 0
unfolding records_of
read-size c r bytes = refl

pub read-out-size : (c r n : ℕ) (bytes : List ℕ) → length (records_of (ReadOut c r n) bytes) ≡ 14 + 2 * n
unfolding records_of
read-out-size c r n bytes = omega (arith, out-size n)

-- what a program is given, and its 10h
given : (bytes : List ℕ) → bytes_of (map data_in bytes ++ (command 0x10 ∷ [])) ≡ data_records bytes ++ (0 ∷ (0x10 ∷ []))
given bytes = append-records (map data_in bytes) (command 0x10 ∷ [])

given-size : (bytes : List ℕ) → length (bytes_of (map data_in bytes ++ (command 0x10 ∷ []))) ≡ 2 * length bytes + 2
given-size bytes = ap length (given bytes) ∙ length-append (data_records bytes) (0 ∷ (0x10 ∷ [])) ∙ omega (arith, data-size bytes)

pub program-size : (c r : ℕ) (bytes : List ℕ) → length (records_of (Program c r) bytes) ≡ 14 + 2 * length bytes
unfolding records_of
program-size c r bytes = omega (arith, given-size bytes)

pub erase-size : (r : ℕ) (bytes : List ℕ) → length (records_of (Erase r) bytes) ≡ 10 + 2 * 0
unfolding records_of
erase-size r bytes = refl

pub status-size : (r n : ℕ) (bytes : List ℕ) → length (records_of (Status r n) bytes) ≡ 8 + 2 * n
unfolding records_of
status-size r n bytes = omega (arith, out-size n)

module _ (room head : List ℕ) where
  pub read-put : (c r : ℕ) → head ≡ sets room 0 (head_long 0x00 (column_bytes c) (row_bytes r)) → set (set head 12 0) 13 0x30 ≡ sets room 0 (records_of (Read c r) [])
  unfolding records_of
  read-put c r e = ap (λ (l : List ℕ). set (set l 12 0) 13 0x30) e

  pub read-out-put : (c r n : ℕ) (all : List ℕ) → head ≡ sets room 0 (head_long 0x06 (column_bytes c) (row_bytes r)) → all ≡ sets (set (set head 12 0) 13 0xe0) 14 (out_records n)
      → all ≡ sets room 0 (records_of (ReadOut c r n) [])
  unfolding records_of
  read-out-put c r n all e f = f ∙ ap (λ (l : List ℕ). sets (set (set l 12 0) 13 0xe0) 14 (out_records n)) e

  pub program-put : (c r : ℕ) (bytes all : List ℕ) → head ≡ sets room 0 (head_long 0x80 (column_bytes c) (row_bytes r)) → all ≡ sets head 12 (data_records bytes)
      → set (set all (12 + 2 * length bytes) 0) (12 + 2 * length bytes + 1) 0x10 ≡ sets room 0 (records_of (Program c r) bytes)
  unfolding records_of
  program-put c r bytes all e f =
      turn head 12 (data_records bytes) all (length bytes) 0 0x10 f (data-size bytes)
      ∙ ap (λ (l : List ℕ). sets l 12 (data_records bytes ++ (0 ∷ (0x10 ∷ [])))) e
      ∙ ap (sets (sets room 0 (head_long 0x80 (column_bytes c) (row_bytes r))) 12) (sym (given bytes))

  pub erase-put : (r : ℕ) → head ≡ sets room 0 (head_short 0x60 (row_bytes r)) → set (set head 8 0) 9 0xd0 ≡ sets room 0 (records_of (Erase r) [])
  unfolding records_of
  erase-put r e = ap (λ (l : List ℕ). set (set l 8 0) 9 0xd0) e

  pub status-put : (r n : ℕ) (all : List ℕ) → head ≡ sets room 0 (head_short 0x78 (row_bytes r)) → all ≡ sets head 8 (out_records n) → all ≡ sets room 0 (records_of (Status r n) [])
  unfolding records_of
  status-put r n all e f = f ∙ ap (λ (l : List ℕ). sets l 8 (out_records n)) e
