-- Written and read.
-- Assumes nothing.
use mathlib.Core.Path.{◌≡◌, refl, sym, ap, ◌∙◌}
use mathlib.Core.Bool.{Bool, true, false, ◌||◌}
use mathlib.Core.List.{List, ◌∷◌, ◌++◌}
use Prim.Native.Nat.{ℕ, ◌+◌, ◌-◌, ◌*◌, ◌/◌, ◌%◌, ◌≤◌}
use native.Mathlib.Omega.{arith}
use lib.ListN.{length, drop}
use lib.Seq.{drop_at, drop-drop}
use lib.Dec.{ltb}
use borrow.Author.Tests.{ltb-false}
use Rattle.target.specs.Pick.{pick}
use Rattle.std.specs.Prelude.{Result, Ok, Err}
use Rattle.jobs.specs.declared.Job.{Job}
use Rattle.jobs.specs.declared.Job.TheVariants.{Read, ReadOut, Program, Erase, Status}
use Rattle.jobs.specs.declared.writing.Unwritten.{Unwritten}
use Rattle.jobs.specs.declared.writing.Unwritten.TheVariants.{TooWide, TooSmall}
use Rattle.jobs.specs.Writing.{wide, too_wide, records_of, Wrote, laid, wrote_of, data_records}
use Rattle.jobs.specs.Reading.{whole, is_kind, first_of, beginning, through, column_at, row_at, job_from, job_at}
use Rattle.jobs.proofs.Jobs.{read-size, read-out-size, program-size, erase-size, status-size}
use Rattle.thm_jobs.specs.Round.{data_at, data_place, data_count, data_of, WrittenAndRead}
use Rattle.thm_jobs.proofs.Shapes.{outs-many, data-many, given-then, past-data, values-back}

-- numbers that are not too wide come back from their bytes
neither : (a b : Bool) → (a || b) ≡ false → (a ≡ false) × (b ≡ false)
neither false false e = (refl, refl)
neither false true e = (refl, e)
neither true b e = (e, (let z : ◌≡◌ {A = ℕ} 0 1 = cc in absurd (omega arith)))

pub column-back : (c r : ℕ) → wide c r ≡ false → c % 256 + 256 * (c / 256 % 256) ≡ c
column-back c r e =
    let low : c ≤ 65535 = ltb-false 65535 c (neither (ltb 65535 c) (ltb 16777215 r) e).0 in
    omega arith

pub row_back : (c r : ℕ) → wide c r ≡ false → r % 256 + 256 * (r / 256 % 256) + 65536 * (r / 65536 % 256) ≡ r
row_back c r e =
    let low : r ≤ 16777215 = ltb-false 16777215 r (neither (ltb 65535 c) (ltb 16777215 r) e).1 in
    omega arith

module _ (p : ℕ) (after : List ℕ) where
  read-from : (c r : ℕ) (bytes : List ℕ) → wide c r ≡ false → job_from (records_of (Read c r) bytes ++ after) p ≡ whole (Read c r) 0 0 (p + 7)
  unfolding records_of beginning first_of through column_at row_at
  read-from c r bytes e =
      let n : p + 1 + 1 + 1 + 1 + 1 + 1 + 1 ≡ p + 7 = omega arith in
      rw (column-back c r e, row_back c r e, n)

  erase-from : (r : ℕ) (bytes : List ℕ) → wide 0 r ≡ false → job_from (records_of (Erase r) bytes ++ after) p ≡ whole (Erase r) 0 0 (p + 5)
  unfolding records_of beginning first_of through column_at row_at
  erase-from r bytes e =
      let n : p + 1 + 1 + 1 + 1 + 1 ≡ p + 5 = omega arith in
      rw (row_back 0 r e, n)

  module _ (no_more : is_kind 3 after ≡ false) where
    read-out-from : (c r n : ℕ) (bytes : List ℕ) → wide c r ≡ false → job_from (records_of (ReadOut c r n) bytes ++ after) p ≡ whole (ReadOut c r n) 0 0 (p + (7 + n))
    unfolding records_of beginning first_of through column_at row_at
    read-out-from c r n bytes e =
        let place : p + 1 + 1 + 1 + 1 + 1 + 1 + 1 + n ≡ p + (7 + n) = omega arith in
        let count : p + (7 + n) - (p + 7) ≡ n = omega arith in
        rw (outs-many n after no_more, column-back c r e, row_back c r e, place, count)

    status-from : (r n : ℕ) (bytes : List ℕ) → wide 0 r ≡ false → job_from (records_of (Status r n) bytes ++ after) p ≡ whole (Status r n) 0 0 (p + (4 + n))
    unfolding records_of beginning first_of through column_at row_at
    status-from r n bytes e =
        let place : p + 1 + 1 + 1 + 1 + n ≡ p + (4 + n) = omega arith in
        let count : p + (4 + n) - (p + 4) ≡ n = omega arith in
        rw (outs-many n after no_more, row_back 0 r e, place, count)

  program-from : (c r : ℕ) (bytes : List ℕ) → wide c r ≡ false → job_from (records_of (Program c r) bytes ++ after) p ≡ whole (Program c r) (p + 6) (length bytes) (p + (7 + length bytes))
  unfolding records_of beginning first_of through column_at row_at
  program-from c r bytes e =
      let place : p + 1 + 1 + 1 + 1 + 1 + 1 + length bytes + 1 ≡ p + (7 + length bytes) = omega arith in
      let count : p + (7 + length bytes) - (p + 7) ≡ length bytes = omega arith in
      rw (
        given-then bytes after,
        data-many bytes (0 ∷ (0x10 ∷ after)) refl,
        past-data bytes (0 ∷ (0x10 ∷ after)),
        column-back c r e,
        row_back c r e,
        place,
        count,
      )

-- any job at the front of a list
pub job-back : (p : ℕ) (after : List ℕ) (j : Job) (bytes : List ℕ) → too_wide j ≡ false → is_kind 3 after ≡ false
    → job_from (records_of j bytes ++ after) p ≡ whole j (data_place j p) (data_count j bytes) (p + length (records_of j bytes) / 2)
unfolding too_wide
job-back p after (Read c r) bytes e no_more =
    let n : length (records_of (Read c r) bytes) / 2 ≡ 7 = omega (arith, read-size c r bytes) in
    rw (n) (read-from p after c r bytes e)
job-back p after (ReadOut c r k) bytes e no_more =
    let n : length (records_of (ReadOut c r k) bytes) / 2 ≡ 7 + k = omega (arith, read-out-size c r k bytes) in
    rw (n) (read-out-from p after no_more c r k bytes e)
job-back p after (Program c r) bytes e no_more =
    let n : length (records_of (Program c r) bytes) / 2 ≡ 7 + length bytes = omega (arith, program-size c r bytes) in
    rw (n) (program-from p after c r bytes e)
job-back p after (Erase r) bytes e no_more =
    let n : length (records_of (Erase r) bytes) / 2 ≡ 5 = omega (arith, erase-size r bytes) in
    rw (n) (erase-from p after r bytes e)
job-back p after (Status r k) bytes e no_more =
    let n : length (records_of (Status r k) bytes) / 2 ≡ 4 + k = omega (arith, status-size r k bytes) in
    rw (n) (status-from p after no_more r k bytes e)

program-front : (c r : ℕ) (bytes after : List ℕ) → drop 12 (records_of (Program c r) bytes ++ after) ≡ data_records bytes ++ (0 ∷ (0x10 ∷ after))
unfolding records_of
program-front c r bytes after = given-then bytes after

data-back : (before : List ℕ) (p : ℕ) (after : List ℕ) (j : Job) (bytes : List ℕ) → length before ≡ 2 * p
    → data_at (before ++ (records_of j bytes ++ after)) (data_place j p) (data_count j bytes) ≡ data_of j bytes
unfolding data_at
data-back before p after (Read c r) bytes e = refl
data-back before p after (ReadOut c r n) bytes e = refl
data-back before p after (Program c r) bytes e =
    let six : 2 * (p + 6) ≡ 2 * p + 12 = omega arith in
    rw (six, ← drop-drop 12 (2 * p) (before ++ (records_of (Program c r) bytes ++ after)), drop_at before (records_of (Program c r) bytes ++ after) (2 * p) e, program-front c r bytes after)
    (values-back bytes (0 ∷ (0x10 ∷ after)))
data-back before p after (Erase r) bytes e = refl
data-back before p after (Status r n) bytes e = refl

-- what a writer answered and left
record Wrote-so (j : Job) (bytes room : List ℕ) (n : ℕ) (new : List ℕ) : Type 0 where
  narrow : too_wide j ≡ false
  size : n ≡ length (records_of j bytes)
  put : new ≡ records_of j bytes ++ drop n room

laid_so : (records room new : List ℕ) (n : ℕ) → laid records room ≡ record { answer = Ok n; room = new } → (n ≡ length records) × (new ≡ records ++ drop n room)
unfolding laid
laid_so records room new n e = side (ltb (length room) (length records)) e where
  side : (b : Bool) → ◌≡◌ {A = Wrote} (pick b (record { answer = Err TooSmall; room = room }) (record { answer = Ok (length records); room = records ++ drop (length records) room })) (record { answer = Ok n; room = new })
      → (n ≡ length records) × (new ≡ records ++ drop n room)
  side true e = absurd (let z : ◌≡◌ {A = Result ℕ Unwritten} (Err TooSmall) (Ok n) = ap (λ (w : Wrote). w.answer) e in let y : ◌≡◌ {A = ℕ} 0 1 = cc in omega arith)
  side false e =
      let a : ◌≡◌ {A = Result ℕ Unwritten} (Ok (length records)) (Ok n) = ap (λ (w : Wrote). w.answer) e in
      let size : length records ≡ n = cc in
      let same : records ++ drop (length records) room ≡ new = ap (λ (w : Wrote). w.room) e in
      (sym size, sym (rw (size) at same))

wrote_so : (j : Job) (bytes room : List ℕ) (n : ℕ) (new : List ℕ) → wrote_of j bytes room ≡ record { answer = Ok n; room = new } → Wrote-so j bytes room n new
unfolding wrote_of
wrote_so j bytes room n new e = side (too_wide j) refl e where
  side : (b : Bool) → too_wide j ≡ b → ◌≡◌ {A = Wrote} (pick b (record { answer = Err TooWide; room = room }) (laid (records_of j bytes) room)) (record { answer = Ok n; room = new }) → Wrote-so j bytes room n new
  side true w e = absurd (let z : ◌≡◌ {A = Result ℕ Unwritten} (Err TooWide) (Ok n) = ap (λ (x : Wrote). x.answer) e in let y : ◌≡◌ {A = ℕ} 0 1 = cc in omega arith)
  side false w e =
      let so = laid_so (records_of j bytes) room new n e in
      record { narrow = w; size = so.0; put = so.1 }

pub written-and-read : WrittenAndRead
unfolding job_at
written-and-read before p j bytes room n new e wrote no_more =
    let so = wrote_so j bytes room n new wrote in
    let after : List ℕ = drop n room in
    let past : drop n new ≡ after = ap (drop n) so.put ∙ drop_at (records_of j bytes) after n (sym so.size) in
    let none : is_kind 3 after ≡ false = sym (ap (is_kind 3) past) ∙ no_more in
    record {
      found =
          rw (so.put, drop_at before (records_of j bytes ++ after) (2 * p) e)
          (job-back p after j bytes so.narrow none
          ∙ ap (λ (m : ℕ). whole j (data_place j p) (data_count j bytes) (p + m / 2)) (sym so.size));
      given = rw so.put (data-back before p after j bytes e);
    }
