-- The room as records are put into it, two bytes at a time.
--     sets-append           stores after stores
--     turn                  one record more, where a loop stands
--     data-turn, outs-turn  the loops over data in and data out
--     laid-small, laid-whole   what a writer answers and leaves, where the room is too small and where it is not
-- Assumes nothing.
use mathlib.Core.Path.{◌≡◌, refl, sym, ap, ◌∙◌}
use mathlib.Core.Bool.{true}
use mathlib.Core.List.{List, [], ◌∷◌, ◌++◌}
use Prim.Native.Nat.{ℕ, zero, suc, ◌+◌, ◌*◌, ◌≤◌, ◌<◌}
use native.Mathlib.Nat.{not-suc-le-zero, le_of_suc-le-suc}
use native.Mathlib.Numerals.{add-one}
use native.Mathlib.Omega.{arith}
use lib.ListN.{length, take, drop, get_or, set}
use lib.Seq.{sets, sets-eq, length-sets}
use lib.Dec.{ltb}
use borrow.Author.Tests.{le-ltb}
use Rattle.std.specs.Prelude.{Ok, Err}
use Rattle.jobs.specs.declared.writing.Unwritten.TheVariants.{TooSmall}
use Rattle.jobs.specs.Cycles.{Cycle, command, address, data_in, data_out, bytes_of}
use Rattle.jobs.specs.Writing.{data_records, out_records, Wrote, laid}

pub sets-append : (l : List ℕ) (i : ℕ) (a b : List ℕ) → sets l i (a ++ b) ≡ sets (sets l i a) (i + length a) b
sets-append l i [] b =
    let e : i + 0 ≡ i = omega arith in
    sym (ap (λ (k : ℕ). sets l k b) e)
sets-append l i (x ∷ a) b =
    let e : suc i + length a ≡ i + suc (length a) = omega arith in
    sets-append (set l i x) (suc i) a b ∙ ap (λ (k : ℕ). sets (sets (set l i x) (suc i) a) k b) e

pub turn : (old : List ℕ) (at : ℕ) (done : List ℕ) (room : List ℕ) (k v w : ℕ) → room ≡ sets old at done → length done ≡ 2 * k
    → set (set room (at + 2 * k) v) (at + 2 * k + 1) w ≡ sets old at (done ++ (v ∷ (w ∷ [])))
turn old at done room k v w same size =
    rw (same, ← size, add-one) (sym (sets-append old at done (v ∷ (w ∷ []))))

pub append-records : (cs ds : List Cycle) → bytes_of (cs ++ ds) ≡ bytes_of cs ++ bytes_of ds
append-records [] ds = refl
append-records (command v ∷ cs) ds = ap (λ (l : List ℕ). 0 ∷ (v ∷ l)) (append-records cs ds)
append-records (address v ∷ cs) ds = ap (λ (l : List ℕ). 1 ∷ (v ∷ l)) (append-records cs ds)
append-records (data_in v ∷ cs) ds = ap (λ (l : List ℕ). 2 ∷ (v ∷ l)) (append-records cs ds)
append-records (data_out ∷ cs) ds = ap (λ (l : List ℕ). 3 ∷ (0 ∷ l)) (append-records cs ds)

pub data-size : (bytes : List ℕ) → length (data_records bytes) ≡ 2 * length bytes
data-size [] = refl
data-size (b ∷ bytes) = omega (arith, data-size bytes)

pub out-size : (n : ℕ) → length (out_records n) ≡ 2 * n
out-size zero = refl
out-size (suc n) = omega (arith, out-size n)

data-more : (bytes : List ℕ) (k : ℕ) → k < length bytes → data_records (take (suc k) bytes) ≡ data_records (take k bytes) ++ (2 ∷ (get_or bytes k 0 ∷ []))
data-more [] k h = absurd (not-suc-le-zero h)
data-more (b ∷ bytes) zero h = refl
data-more (b ∷ bytes) (suc k) h = ap (λ (l : List ℕ). 2 ∷ (b ∷ l)) (data-more bytes k (le_of_suc-le-suc h))

outs-more : (k : ℕ) → out_records (suc k) ≡ out_records k ++ (3 ∷ (0 ∷ []))
outs-more zero = refl
outs-more (suc k) = ap (λ (l : List ℕ). 3 ∷ (0 ∷ l)) (outs-more k)

taken-size : (bytes : List ℕ) (k : ℕ) → k ≤ length bytes → length (data_records (take k bytes)) ≡ 2 * k
taken-size bytes zero h = refl
taken-size [] (suc k) h = absurd (not-suc-le-zero h)
taken-size (b ∷ bytes) (suc k) h = omega (arith, taken-size bytes k (le_of_suc-le-suc h))

-- where the loops stand after k records
pub record Data (old : List ℕ) (at : ℕ) (bytes room : List ℕ) (k : ℕ) : Type 0 where
  pub put : room ≡ sets old at (data_records (take k bytes))
  pub within : k ≤ length bytes
  pub same : length room ≡ length old

pub data-turn : (old : List ℕ) (at : ℕ) (bytes room : List ℕ) (k : ℕ) → Data old at bytes room k → k < length bytes
    → Data old at bytes (set (set room (at + 2 * k) 2) (at + 2 * k + 1) (get_or bytes k 0)) (k + 1)
data-turn old at bytes room k d h =
    let put : set (set room (at + 2 * k) 2) (at + 2 * k + 1) (get_or bytes k 0) ≡ sets old at (data_records (take (suc k) bytes)) =
    turn old at (data_records (take k bytes)) room k 2 (get_or bytes k 0) d.put (taken-size bytes k d.within)
    ∙ sym (ap (sets old at) (data-more bytes k h)) in
    record {
      put = rw (add-one k) put;
      within = omega arith;
      same = ap length put ∙ length-sets old at (data_records (take (suc k) bytes));
    }

pub record Outs (old : List ℕ) (at : ℕ) (count : ℕ) (room : List ℕ) (k : ℕ) : Type 0 where
  pub put : room ≡ sets old at (out_records k)
  pub within : k ≤ count
  pub same : length room ≡ length old

pub outs-turn : (old : List ℕ) (at count : ℕ) (room : List ℕ) (k : ℕ) → Outs old at count room k → k < count
    → Outs old at count (set (set room (at + 2 * k) 3) (at + 2 * k + 1) 0) (k + 1)
outs-turn old at count room k d h =
    let put : set (set room (at + 2 * k) 3) (at + 2 * k + 1) 0 ≡ sets old at (out_records (suc k)) =
    turn old at (out_records k) room k 3 0 d.put (out-size k) ∙ sym (ap (sets old at) (outs-more k)) in
    record {
      put = rw (add-one k) put;
      within = omega arith;
      same = ap length put ∙ length-sets old at (out_records (suc k));
    }

-- a writer's whole answer
pub laid-small : (records room : List ℕ) (n : ℕ) → length records ≡ n → ltb (length room) n ≡ true → ◌≡◌ {A = Wrote} (record { answer = Err TooSmall; room = room }) (laid records room)
unfolding laid
laid-small records room n size h = rw (size, h)

pub laid-whole : (records room new : List ℕ) (n : ℕ) → length records ≡ n → n ≤ length room → new ≡ sets room 0 records → ◌≡◌ {A = Wrote} (record { answer = Ok n; room = new }) (laid records room)
unfolding laid
laid-whole records room new n size h same =
    let e : 0 + n ≡ n = omega arith in
    let whole : new ≡ records ++ drop n room = same ∙ sets-eq records room 0 (omega arith) ∙ rw (size, e) in
    rw (size, le-ltb _ _ h, whole)
