-- Runs of data in the records of a job.
-- Assumes nothing.
use mathlib.Core.Path.{◌≡◌, refl, ap, ◌∙◌}
use mathlib.Core.Bool.{Bool, true, false, ◌&&◌}
use mathlib.Core.List.{List, [], ◌∷◌, ◌++◌, append_assoc, map}
use Prim.Native.Nat.{ℕ, zero, suc, ◌*◌, ◌≤◌}
use native.Mathlib.Nat.{le_of_suc-le-suc}
use native.Mathlib.Omega.{arith}
use lib.ListN.{length, drop, length-append}
use lib.Seq.{drop_at}
use lib.Dec.{eqb}
use borrow.Author.Tests.{eqb-true}
use Rattle.target.specs.Pick.{pick}
use Rattle.jobs.specs.Cycles.{command, data_in, bytes_of}
use Rattle.jobs.specs.Writing.{data_records, out_records}
use Rattle.jobs.specs.Reading.{of_kind, is_kind, run, many_of}
use Rattle.jobs.proofs.Room.{append-records, data-size, out-size}
use Rattle.jobs.proofs.Walks.{first_kind}
use Rattle.thm_jobs.specs.Round.{values_of}

-- no record of the kind comes
pub none-come : (m kind : ℕ) (ts : List ℕ) → is_kind kind ts ≡ false → run m kind ts ≡ 0
unfolding run
none-come zero kind ts e = refl
none-come (suc m) kind ts e = first_kind m kind ts ∙ rw (e)

outs-come : (n m : ℕ) (after : List ℕ) → n ≤ m → is_kind 3 after ≡ false → run m 3 (out_records n ++ after) ≡ n
unfolding run
outs-come zero m after h e = none-come m 3 after e
outs-come (suc n) zero after h e = absurd (omega arith)
outs-come (suc n) (suc m) after h e = ap suc (outs-come n m after (le_of_suc-le-suc h) e)

pub outs-many : (n : ℕ) (after : List ℕ) → is_kind 3 after ≡ false → many_of 3 (out_records n ++ after) ≡ n
outs-many n after e = outs-come n (length (out_records n ++ after)) after (omega (arith, length-append (out_records n) after, out-size n)) e

data-come : (bytes : List ℕ) (m : ℕ) (after : List ℕ) → length bytes ≤ m → is_kind 2 after ≡ false → run m 2 (data_records bytes ++ after) ≡ length bytes
unfolding run
data-come [] m after h e = none-come m 2 after e
data-come (b ∷ bytes) zero after h e = absurd (omega arith)
data-come (b ∷ bytes) (suc m) after h e = ap suc (data-come bytes m after (le_of_suc-le-suc h) e)

pub data-many : (bytes after : List ℕ) → is_kind 2 after ≡ false → many_of 2 (data_records bytes ++ after) ≡ length bytes
data-many bytes after e = data-come bytes (length (data_records bytes ++ after)) after (omega (arith, length-append (data_records bytes) after, data-size bytes)) e

pub values-back : (bytes after : List ℕ) → values_of (length bytes) (data_records bytes ++ after) ≡ bytes
values-back [] after = refl
values-back (b ∷ bytes) after = ap (λ (l : List ℕ). b ∷ l) (values-back bytes after)

-- what a program is given, its 10h, and what comes after
pub given-then : (bytes after : List ℕ) → bytes_of (map data_in bytes ++ (command 0x10 ∷ [])) ++ after ≡ data_records bytes ++ (0 ∷ (0x10 ∷ after))
given-then bytes after =
    ap (λ (l : List ℕ). l ++ after) (append-records (map data_in bytes) (command 0x10 ∷ []))
    ∙ append_assoc (data_records bytes) (0 ∷ (0x10 ∷ [])) after

pub past-data : (bytes after : List ℕ) → drop (2 * length bytes) (data_records bytes ++ after) ≡ after
past-data bytes after = drop_at (data_records bytes) after (2 * length bytes) (data-size bytes)

-- the other way: a run is the records of its values
pub both_of : (a b : Bool) → (a && b) ≡ true → (a ≡ true) × (b ≡ true)
both_of true true e = (refl, refl)
both_of true false e = (refl, e)
both_of false b e = (e, (let z : ◌≡◌ {A = ℕ} 0 1 = cc in absurd (omega arith)))

pub outs-were : (m : ℕ) (ts : List ℕ) → ts ≡ out_records (run m 3 ts) ++ drop (2 * run m 3 ts) ts
unfolding run
outs-were zero ts = refl
outs-were (suc m) [] = refl
outs-were (suc m) (k ∷ []) = refl
outs-were (suc m) (k ∷ (v ∷ ts)) = side (of_kind 3 k v) refl (outs-were m ts) where
  side : (b : Bool) → of_kind 3 k v ≡ b → ts ≡ out_records (run m 3 ts) ++ drop (2 * run m 3 ts) ts
      → k ∷ (v ∷ ts) ≡ out_records (pick b (suc (run m 3 ts)) 0) ++ drop (2 * pick b (suc (run m 3 ts)) 0) (k ∷ (v ∷ ts))
  side true e ih =
      let is = both_of (eqb k 3) (eqb v 0) e in
      let ek : k ≡ 3 = eqb-true k 3 is.0 in
      let ev : v ≡ 0 = eqb-true v 0 is.1 in
      let two : 2 * suc (run m 3 ts) ≡ suc (suc (2 * run m 3 ts)) = omega arith in
      rw (two, ek, ev) (ap (λ (l : List ℕ). 3 ∷ (0 ∷ l)) ih)
  side false e ih = refl

pub data-were : (m : ℕ) (ts : List ℕ) → ts ≡ data_records (values_of (run m 2 ts) ts) ++ drop (2 * run m 2 ts) ts
unfolding run
data-were zero ts = refl
data-were (suc m) [] = refl
data-were (suc m) (k ∷ []) = refl
data-were (suc m) (k ∷ (v ∷ ts)) = side (of_kind 2 k v) refl (data-were m ts) where
  side : (b : Bool) → of_kind 2 k v ≡ b → ts ≡ data_records (values_of (run m 2 ts) ts) ++ drop (2 * run m 2 ts) ts
      → k ∷ (v ∷ ts) ≡ data_records (values_of (pick b (suc (run m 2 ts)) 0) (k ∷ (v ∷ ts))) ++ drop (2 * pick b (suc (run m 2 ts)) 0) (k ∷ (v ∷ ts))
  side true e ih =
      let is = both_of (eqb k 2) true e in
      let ek : k ≡ 2 = eqb-true k 2 is.0 in
      let two : 2 * suc (run m 2 ts) ≡ suc (suc (2 * run m 2 ts)) = omega arith in
      rw (two, ek) (ap (λ (l : List ℕ). 2 ∷ (v ∷ l)) ih)
  side false e ih = refl
