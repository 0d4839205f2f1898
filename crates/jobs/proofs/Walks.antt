-- How far a job's records fit, and the walk over a list, are the same: what the code goes by.
--     addresses-short, addresses-all, data-if, outs-if   `through`, item by item
--     walk_through      the walk from inside a job goes as far as `through` says, and on from there between jobs
--     walk-job          from between two jobs: as `job_at` says
--     job-ahead         a job ends after its place, within the trace
-- Assumes nothing.
use mathlib.Core.Path.{◌≡◌, refl, sym, ap, ◌∙◌}
use mathlib.Core.Bool.{Bool, true, false, ◌&&◌}
use mathlib.Core.List.{List, [], ◌∷◌}
use Prim.Native.Nat.{ℕ, zero, suc, ◌+◌, ◌*◌, ◌/◌, ◌%◌, ◌≤◌, ◌<◌}
use native.Mathlib.Omega.{arith}
use lib.ListN.{length, drop, get_or, length-drop, drop_of_length-le}
use lib.Seq.{drop-drop, drop-cons}
use lib.Dec.{eqb}
use Rattle.target.specs.Pick.{pick}
use Rattle.std.specs.Prelude.{Option, None, Some, Result, Ok, Err}
use Rattle.jobs.specs.declared.reading.First.{First}
use Rattle.jobs.specs.declared.reading.First.TheVariants as first
use Rattle.jobs.specs.declared.reading.Misfit.{Misfit}
use Rattle.jobs.specs.declared.reading.FoundJob.{FoundJob}
use Rattle.jobs.specs.Reading.{Item, address, command, data_ins, data_outs, addresses, item_if, closed_items, open_items, items, of_kind, run, many_of, is_kind, is_command, through, misfit, grouped_of, found_of, begun_of, beginning, job_from, job_at, stuck, on, begun, step, onward, walk, first_misfit}
use Rattle.jobs.proofs.Runs.{record-at, later, next, run_short, run-enough, run-within, two-of-kind, two-of-command}

-- through, item by item
pub through-address : (is : List Item) (ts : List ℕ) (at : ℕ) → through (address ∷ is) ts at ≡ pick (is_kind 1 ts) (through is (drop 2 ts) (at + 1)) (Err (misfit at))
unfolding through
through-address is ts at = refl

pub through-command : (b : ℕ) (is : List Item) (ts : List ℕ) (at : ℕ) → through (command b ∷ is) ts at ≡ pick (is_command b ts) (through is (drop 2 ts) (at + 1)) (Err (misfit at))
unfolding through
through-command b is ts at = refl

pub through-none : (ts : List ℕ) (at : ℕ) → through [] ts at ≡ Ok at
unfolding through
through-none ts at = refl

pub through-data : (is : List Item) (ts : List ℕ) (at : ℕ) → through (data_ins ∷ is) ts at ≡ through is (drop (2 * many_of 2 ts) ts) (at + many_of 2 ts)
unfolding through
through-data is ts at = refl

pub through-outs : (is : List Item) (ts : List ℕ) (at : ℕ) → through (data_outs ∷ is) ts at ≡ through is (drop (2 * many_of 3 ts) ts) (at + many_of 3 ts)
unfolding through
through-outs is ts at = refl

data-at : (t : List ℕ) (is : List Item) (at : ℕ) → through (data_ins ∷ is) (drop (2 * at) t) at ≡ through is (drop (2 * (at + many_of 2 (drop (2 * at) t))) t) (at + many_of 2 (drop (2 * at) t))
data-at t is at = through-data is (drop (2 * at) t) at ∙ rw (later t at (many_of 2 (drop (2 * at) t)))

outs-at : (t : List ℕ) (is : List Item) (at : ℕ) → through (data_outs ∷ is) (drop (2 * at) t) at ≡ through is (drop (2 * (at + many_of 3 (drop (2 * at) t))) t) (at + many_of 3 (drop (2 * at) t))
outs-at t is at = through-outs is (drop (2 * at) t) at ∙ rw (later t at (many_of 3 (drop (2 * at) t)))

nowhere : (is : List Item) (ts : List ℕ) (at : ℕ) → through is ts at ≡ through is (drop (2 * 0) ts) (at + 0)
nowhere is ts at =
    let e : at + 0 ≡ at = omega arith in
    rw (e)

pub data-if : (takes : Bool) (is : List Item) (ts : List ℕ) (at : ℕ) → through (item_if takes data_ins is) ts at ≡ through is (drop (2 * pick takes (many_of 2 ts) 0) ts) (at + pick takes (many_of 2 ts) 0)
data-if true is ts at = through-data is ts at
data-if false is ts at = nowhere is ts at

pub outs-if : (gives : Bool) (is : List Item) (ts : List ℕ) (at : ℕ) → through (item_if gives data_outs is) ts at ≡ through is (drop (2 * pick gives (many_of 3 ts) 0) ts) (at + pick gives (many_of 3 ts) 0)
outs-if true is ts at = through-outs is ts at
outs-if false is ts at = nowhere is ts at

-- runs of addresses
pub first_kind : (most kind : ℕ) (ts : List ℕ) → run (suc most) kind ts ≡ pick (is_kind kind ts) (suc (run most kind (drop 2 ts))) 0
unfolding run
first_kind most kind [] = refl
first_kind most kind (k ∷ []) = refl
first_kind most kind (k ∷ (v ∷ ts)) = refl

pub addresses-short : (n : ℕ) (is : List Item) (ts : List ℕ) (at : ℕ) → run n 1 ts < n → through (addresses n is) ts at ≡ Err (misfit (at + run n 1 ts))
addresses-short zero is ts at h = absurd (omega arith)
addresses-short (suc n) is ts at h = side (is_kind 1 ts) refl (λ less. addresses-short n is (drop 2 ts) (at + 1) less) where
  side : (b : Bool) → is_kind 1 ts ≡ b → (run n 1 (drop 2 ts) < n → through (addresses n is) (drop 2 ts) (at + 1) ≡ Err (misfit (at + 1 + run n 1 (drop 2 ts))))
      → through (addresses (suc n) is) ts at ≡ Err (misfit (at + run (suc n) 1 ts))
  side true e ih =
      let count : run (suc n) 1 ts ≡ suc (run n 1 (drop 2 ts)) = first_kind n 1 ts ∙ rw (e) in
      let place : at + 1 + run n 1 (drop 2 ts) ≡ at + run (suc n) 1 ts = omega arith in
      through-address (addresses n is) ts at ∙ rw (e) (ih (omega arith) ∙ ap (λ (p : ℕ). Err (misfit p)) place)
  side false e ih =
      let count : run (suc n) 1 ts ≡ 0 = first_kind n 1 ts ∙ rw (e) in
      let place : at ≡ at + run (suc n) 1 ts = omega arith in
      through-address (addresses n is) ts at ∙ rw (e) (ap (λ (p : ℕ). Err (misfit p)) place)

two-and : (n : ℕ) (ts : List ℕ) → drop (2 * n) (drop 2 ts) ≡ drop (2 * suc n) ts
two-and n ts =
    let e : 2 + 2 * n ≡ 2 * suc n = omega arith in
    drop-drop (2 * n) 2 ts ∙ ap (λ (k : ℕ). drop k ts) e

pub addresses-all : (n : ℕ) (is : List Item) (ts : List ℕ) (at : ℕ) → n ≤ run n 1 ts → through (addresses n is) ts at ≡ through is (drop (2 * n) ts) (at + n)
addresses-all zero is ts at h = nowhere is ts at
addresses-all (suc n) is ts at h = side (is_kind 1 ts) refl (λ all. addresses-all n is (drop 2 ts) (at + 1) all) where
  side : (b : Bool) → is_kind 1 ts ≡ b → (n ≤ run n 1 (drop 2 ts) → through (addresses n is) (drop 2 ts) (at + 1) ≡ through is (drop (2 * n) (drop 2 ts)) (at + 1 + n))
      → through (addresses (suc n) is) ts at ≡ through is (drop (2 * suc n) ts) (at + suc n)
  side true e ih =
      let count : run (suc n) 1 ts ≡ suc (run n 1 (drop 2 ts)) = first_kind n 1 ts ∙ rw (e) in
      let place : at + 1 + n ≡ at + suc n = omega arith in
      through-address (addresses n is) ts at
      ∙ rw (e) (ih (omega arith) ∙ rw (two-and n ts, place))
  side false e ih =
      let count : run (suc n) 1 ts ≡ 0 = first_kind n 1 ts ∙ rw (e) in
      absurd (omega arith)

-- the parts of a job, as the code goes through them
module _ (t : List ℕ) (at n a : ℕ) (is : List Item) (count : a ≡ run n 1 (drop (2 * at) t)) where
  pub short-of-addresses : a < n → Err (misfit (at + a)) ≡ through (addresses n is) (drop (2 * at) t) at
  short-of-addresses h = rw (count) (sym (addresses-short n is (drop (2 * at) t) at (omega arith)))

  pub past-addresses : n ≤ a → through (addresses n is) (drop (2 * at) t) at ≡ through is (drop (2 * (at + n)) t) (at + n)
  past-addresses h = addresses-all n is (drop (2 * at) t) at (omega arith) ∙ rw (later t at n)

data-past : (t : List ℕ) (q d : ℕ) (takes : Bool) (is : List Item) → d ≡ pick takes (many_of 2 (drop (2 * q) t)) 0
    → through (item_if takes data_ins is) (drop (2 * q) t) q ≡ through is (drop (2 * (q + d)) t) (q + d)
data-past t q d takes is e = data-if takes is (drop (2 * q) t) q ∙ rw (← e, later t q d)

pub outs-past : (t : List ℕ) (q o : ℕ) (gives : Bool) (is : List Item) → o ≡ pick gives (many_of 3 (drop (2 * q) t)) 0
    → through (item_if gives data_outs is) (drop (2 * q) t) q ≡ through is (drop (2 * (q + o)) t) (q + o)
outs-past t q o gives is e = outs-if gives is (drop (2 * q) t) q ∙ rw (← e, later t q o)

module _ (t : List ℕ) (at n a d closing : ℕ) (takes gives : Bool) (count : a ≡ run n 1 (drop (2 * at) t)) (all : n ≤ a) (given : d ≡ pick takes (many_of 2 (drop (2 * (at + n)) t)) 0) where
  to-closing : through (closed_items n takes closing gives) (drop (2 * at) t) at ≡ through (command closing ∷ item_if gives data_outs []) (drop (2 * (at + n + d)) t) (at + n + d)
  to-closing =
      past-addresses t at n a (item_if takes data_ins (command closing ∷ item_if gives data_outs [])) count all
      ∙ data-past t (at + n) d takes (command closing ∷ item_if gives data_outs []) given

  pub not-closed : is_command closing (drop (2 * (at + n + d)) t) ≡ false → Err (misfit (at + n + d)) ≡ through (closed_items n takes closing gives) (drop (2 * at) t) at
  not-closed e = sym (to-closing ∙ through-command closing (item_if gives data_outs []) (drop (2 * (at + n + d)) t) (at + n + d) ∙ rw (e))

  pub closed : (o : ℕ) → is_command closing (drop (2 * (at + n + d)) t) ≡ true → o ≡ pick gives (many_of 3 (drop (2 * (at + n + d + 1)) t)) 0
      → Ok (at + n + d + 1 + o) ≡ through (closed_items n takes closing gives) (drop (2 * at) t) at
  closed o e out =
      sym
      (to-closing
      ∙ through-command closing (item_if gives data_outs []) (drop (2 * (at + n + d)) t) (at + n + d)
      ∙ rw (e, next t (at + n + d))
      (outs-past t (at + n + d + 1) o gives [] out ∙ through-none (drop (2 * (at + n + d + 1 + o)) t) (at + n + d + 1 + o)))

pub opened : (t : List ℕ) (at n a o : ℕ) → a ≡ run n 1 (drop (2 * at) t) → n ≤ a → o ≡ pick true (many_of 3 (drop (2 * (at + n)) t)) 0
    → Ok (at + n + o) ≡ through (open_items n) (drop (2 * at) t) at
opened t at n a o count all out =
    sym
    (past-addresses t at n a (data_outs ∷ []) count all
    ∙ outs-past t (at + n) o true [] out
    ∙ through-none (drop (2 * (at + n + o)) t) (at + n + o))

-- the walk, item by item
pub walk-address : (is : List Item) (ts : List ℕ) (at : ℕ) → walk (address ∷ is) ts at ≡ pick (is_kind 1 ts) (walk is (drop 2 ts) (at + 1)) (Err (misfit at))
unfolding walk step
walk-address is [] at = refl
walk-address is (k ∷ []) at = refl
walk-address is (k ∷ (v ∷ ts)) at = by-step (of_kind 1 k v) where
  by-step : (b : Bool) → onward (pick b (on is) stuck) (Err (misfit at)) (λ js. walk js ts (at + 1)) ≡ pick b (walk is ts (at + 1)) (Err (misfit at))
  by-step true = refl
  by-step false = refl

pub walk-command : (b : ℕ) (is : List Item) (ts : List ℕ) (at : ℕ) → walk (command b ∷ is) ts at ≡ pick (is_command b ts) (walk is (drop 2 ts) (at + 1)) (Err (misfit at))
unfolding walk step
walk-command b is [] at = refl
walk-command b is (k ∷ []) at = refl
walk-command b is (k ∷ (v ∷ ts)) at = by-step (eqb k 0 && eqb v b) where
  by-step : (c : Bool) → onward (pick c (on is) stuck) (Err (misfit at)) (λ js. walk js ts (at + 1)) ≡ pick c (walk is ts (at + 1)) (Err (misfit at))
  by-step true = refl
  by-step false = refl

-- an item that may come any number of times, with the kind of its records
pub data Many : Item → ℕ → Type 0 where
  ins : Many data_ins 2
  outs : Many data_outs 3

many-none : {i : Item} {kind : ℕ} → Many i kind → (is : List Item) (at : ℕ) → walk (i ∷ is) [] at ≡ walk is [] at
unfolding walk
many-none ins is at = refl
many-none outs is at = refl

pub walk-odd : (is : List Item) (k at : ℕ) → walk is (k ∷ []) at ≡ Err (misfit at)
unfolding walk
walk-odd is k at = refl

many-on : {i : Item} {kind : ℕ} → Many i kind → (is : List Item) (k v : ℕ) (ts : List ℕ) (at : ℕ) → of_kind kind k v ≡ true → walk (i ∷ is) (k ∷ (v ∷ ts)) at ≡ walk (i ∷ is) ts (at + 1)
unfolding walk step
many-on ins is k v ts at e = rw (e)
many-on outs is k v ts at e = rw (e)

many-past : {i : Item} {kind : ℕ} → Many i kind → (is : List Item) (k v : ℕ) (ts : List ℕ) (at : ℕ) → of_kind kind k v ≡ false → walk (i ∷ is) (k ∷ (v ∷ ts)) at ≡ walk is (k ∷ (v ∷ ts)) at
unfolding walk step
many-past ins is k v ts at e = rw (e)
many-past outs is k v ts at e = rw (e)

count-on : (kind k v : ℕ) (ts : List ℕ) → of_kind kind k v ≡ true → many_of kind (k ∷ (v ∷ ts)) ≡ suc (many_of kind ts)
count-on kind k v ts e =
    first_kind (suc (length ts)) kind (k ∷ (v ∷ ts))
    ∙ rw (e) (ap suc (run-enough (suc (length ts)) (length ts) kind ts (omega arith) (omega arith)))

pub count_past : (kind k v : ℕ) (ts : List ℕ) → of_kind kind k v ≡ false → many_of kind (k ∷ (v ∷ ts)) ≡ 0
count_past kind k v ts e = first_kind (suc (length ts)) kind (k ∷ (v ∷ ts)) ∙ rw (e)

staying : (is : List Item) (ts : List ℕ) (at : ℕ) → walk is ts at ≡ walk is (drop (2 * 0) ts) (at + 0)
staying is ts at =
    let e : at + 0 ≡ at = omega arith in
    rw (e)

pub walk-many : {i : Item} {kind : ℕ} → Many i kind → (is : List Item) (ts : List ℕ) (at : ℕ) → walk (i ∷ is) ts at ≡ walk is (drop (2 * many_of kind ts) ts) (at + many_of kind ts)
walk-many {i} {kind} m is [] at =
    let none : many_of kind [] ≡ 0 = run_short 0 kind [] (omega arith) in
    many-none m is at ∙ rw (none) (staying is [] at)
walk-many {i} {kind} m is (k ∷ []) at =
    let none : many_of kind (k ∷ []) ≡ 0 = run_short 1 kind (k ∷ []) (omega arith) in
    walk-odd (i ∷ is) k at ∙ sym (walk-odd is k at) ∙ rw (none) (staying is (k ∷ []) at)
walk-many {i} {kind} m is (k ∷ (v ∷ ts)) at = side (of_kind kind k v) refl (walk-many m is ts (at + 1)) where
  side : (b : Bool) → of_kind kind k v ≡ b → walk (i ∷ is) ts (at + 1) ≡ walk is (drop (2 * many_of kind ts) ts) (at + 1 + many_of kind ts)
      → walk (i ∷ is) (k ∷ (v ∷ ts)) at ≡ walk is (drop (2 * many_of kind (k ∷ (v ∷ ts))) (k ∷ (v ∷ ts))) (at + many_of kind (k ∷ (v ∷ ts)))
  side true e ih =
      let place : at + 1 + many_of kind ts ≡ at + suc (many_of kind ts) = omega arith in
      many-on m is k v ts at e
      ∙ ih
      ∙ rw (count-on kind k v ts e, place, ← two-and (many_of kind ts) (k ∷ (v ∷ ts)))
  side false e ih = many-past m is k v ts at e ∙ rw (count_past kind k v ts e) (staying is (k ∷ (v ∷ ts)) at)

-- where the walk goes on after a job's items
abbrev after : List ℕ → Result ℕ Misfit → Result Unit Misfit
after t (Err m) = Err m
after t (Ok p) = walk [] (drop (2 * p) t) p

pub walk_through : (t : List ℕ) (is : List Item) (at : ℕ) → walk is (drop (2 * at) t) at ≡ after t (through is (drop (2 * at) t) at)
walk_through t [] at = sym (ap (after t) (through-none (drop (2 * at) t) at))
walk_through t (address ∷ is) at =
    walk-address is (drop (2 * at) t) at
    ∙ by-test (is_kind 1 (drop (2 * at) t)) (walk_through t is (at + 1))
    ∙ sym (ap (after t) (through-address is (drop (2 * at) t) at))
  where
    by-test : (b : Bool) → walk is (drop (2 * (at + 1)) t) (at + 1) ≡ after t (through is (drop (2 * (at + 1)) t) (at + 1))
        → pick b (walk is (drop 2 (drop (2 * at) t)) (at + 1)) (Err (misfit at)) ≡ after t (pick b (through is (drop 2 (drop (2 * at) t)) (at + 1)) (Err (misfit at)))
    by-test true ih = rw (next t at) ih
    by-test false ih = refl
walk_through t (command b ∷ is) at =
    walk-command b is (drop (2 * at) t) at
    ∙ by-test (is_command b (drop (2 * at) t)) (walk_through t is (at + 1))
    ∙ sym (ap (after t) (through-command b is (drop (2 * at) t) at))
  where
    by-test : (c : Bool) → walk is (drop (2 * (at + 1)) t) (at + 1) ≡ after t (through is (drop (2 * (at + 1)) t) (at + 1))
        → pick c (walk is (drop 2 (drop (2 * at) t)) (at + 1)) (Err (misfit at)) ≡ after t (pick c (through is (drop 2 (drop (2 * at) t)) (at + 1)) (Err (misfit at)))
    by-test true ih = rw (next t at) ih
    by-test false ih = refl
walk_through t (data_ins ∷ is) at =
    walk-many ins is (drop (2 * at) t) at
    ∙ rw (later t at (many_of 2 (drop (2 * at) t))) (walk_through t is (at + many_of 2 (drop (2 * at) t)))
    ∙ sym (ap (after t) (data-at t is at))
walk_through t (data_outs ∷ is) at =
    walk-many outs is (drop (2 * at) t) at
    ∙ rw (later t at (many_of 3 (drop (2 * at) t))) (walk_through t is (at + many_of 3 (drop (2 * at) t)))
    ∙ sym (ap (after t) (outs-at t is at))

-- and after a whole job
abbrev pub ahead : List ℕ → Result (Option FoundJob) Misfit → Result Unit Misfit
ahead t (Ok None) = Ok tt
ahead t (Err m) = Err m
ahead t (Ok (Some g)) = walk [] (drop (2 * g.next) t) g.next

-- a job ends where its records do
ends_there : (f : First) (ts : List ℕ) (at p : ℕ) → (grouped_of f ts at p).next ≡ p
ends_there first.Read ts at p = refl
ends_there first.ReadOut ts at p = refl
ends_there first.Program ts at p = refl
ends_there first.Erase ts at p = refl
ends_there first.Status ts at p = refl

ahead-found : (f : First) (t ts : List ℕ) (at : ℕ) (r : Result ℕ Misfit) → after t r ≡ ahead t (found_of f ts at r)
ahead-found f t ts at (Err m) = refl
ahead-found f t ts at (Ok p) = sym (ap (λ (n : ℕ). walk [] (drop (2 * n) t) n) (ends_there f ts at p))

walk_first : (k v : ℕ) (ts : List ℕ) (at : ℕ) → walk [] (k ∷ (v ∷ ts)) at ≡ onward (begun (beginning k v)) (Err (misfit at)) (λ js. walk js ts (at + 1))
unfolding walk step
walk_first k v ts at = refl

pub walk_end : (at : ℕ) → walk [] [] at ≡ Ok tt
unfolding walk
walk_end at = refl

module _ (t : List ℕ) (at k v : ℕ) (ts : List ℕ) (here : drop (2 * at) t ≡ k ∷ (v ∷ ts)) where
  rest : drop (2 * (at + 1)) t ≡ ts
  rest = sym (next t at) ∙ ap (drop 2) here

  goes : (f : First) → walk (items f) ts (at + 1) ≡ ahead t (found_of f (k ∷ (v ∷ ts)) at (through (items f) ts (at + 1)))
  goes f =
      let e : walk (items f) (drop (2 * (at + 1)) t) (at + 1) ≡ after t (through (items f) (drop (2 * (at + 1)) t) (at + 1)) = walk_through t (items f) (at + 1) in
      (rw (rest) at e) ∙ ahead-found f t (k ∷ (v ∷ ts)) at (through (items f) ts (at + 1))

  by_first : (f : Option First) → onward (begun f) (Err (misfit at)) (λ js. walk js ts (at + 1)) ≡ ahead t (begun_of f (k ∷ (v ∷ ts)) at)
  by_first None = refl
  by_first (Some f) = goes f

from : (t : List ℕ) (at : ℕ) (ts : List ℕ) → drop (2 * at) t ≡ ts → walk [] ts at ≡ ahead t (job_from ts at)
from t at [] e = walk_end at
from t at (k ∷ []) e = walk-odd [] k at
from t at (k ∷ (v ∷ ts)) e = walk_first k v ts at ∙ by_first t at k v ts e (beginning k v)

pub walk-job : (t : List ℕ) (at : ℕ) → walk [] (drop (2 * at) t) at ≡ ahead t (job_at t at)
unfolding job_at
walk-job t at = from t at (drop (2 * at) t) refl

pub walk_start : (t : List ℕ) → first_misfit t ≡ walk [] (drop (2 * 0) t) 0
unfolding first_misfit
walk_start t = refl

-- bounds
pub record Between (at p n : ℕ) : Type 0 where
  pub low : at ≤ p
  pub high : p ≤ n

abbrev Bounded : ℕ → ℕ → Result ℕ Misfit → Type 0
Bounded at n (Err m) = Unit
Bounded at n (Ok p) = Between at p n

widened : (at n : ℕ) (r : Result ℕ Misfit) → Bounded (at + 1) n r → Bounded at n r
widened at n (Err m) b = tt
widened at n (Ok p) b = record { low = omega (arith, b.low); high = b.high }

widened-by : (at m n : ℕ) (r : Result ℕ Misfit) → Bounded (at + m) n r → Bounded at n r
widened-by at m n (Err w) b = tt
widened-by at m n (Ok p) b = record { low = omega (arith, b.low); high = b.high }

two-left : (t : List ℕ) (at : ℕ) → 2 ≤ length (drop (2 * at) t) → at + 1 ≤ length t / 2
two-left t at h = omega (arith, length-drop (2 * at) t)

many-left : (kind : ℕ) (t : List ℕ) (at : ℕ) → at ≤ length t / 2 → at + many_of kind (drop (2 * at) t) ≤ length t / 2
many-left kind t at h = omega (arith, length-drop (2 * at) t, run-within (length (drop (2 * at) t)) kind (drop (2 * at) t))

through-bounds : (t : List ℕ) (is : List Item) (at : ℕ) → at ≤ length t / 2 → Bounded at (length t / 2) (through is (drop (2 * at) t) at)
through-bounds t [] at h = rw (through-none (drop (2 * at) t) at) (record { low = omega arith; high = h })
through-bounds t (address ∷ is) at h = rw (through-address is (drop (2 * at) t) at) (by-test (is_kind 1 (drop (2 * at) t)) refl (λ low. through-bounds t is (at + 1) low)) where
  by-test : (b : Bool) → is_kind 1 (drop (2 * at) t) ≡ b → (at + 1 ≤ length t / 2 → Bounded (at + 1) (length t / 2) (through is (drop (2 * (at + 1)) t) (at + 1)))
      → Bounded at (length t / 2) (pick b (through is (drop 2 (drop (2 * at) t)) (at + 1)) (Err (misfit at)))
  by-test true e ih =
      widened at (length t / 2) (through is (drop 2 (drop (2 * at) t)) (at + 1))
      (rw (next t at) (ih (two-left t at (two-of-kind 1 (drop (2 * at) t) e))))
  by-test false e ih = tt
through-bounds t (command b ∷ is) at h = rw (through-command b is (drop (2 * at) t) at) (by-test (is_command b (drop (2 * at) t)) refl (λ low. through-bounds t is (at + 1) low)) where
  by-test : (c : Bool) → is_command b (drop (2 * at) t) ≡ c → (at + 1 ≤ length t / 2 → Bounded (at + 1) (length t / 2) (through is (drop (2 * (at + 1)) t) (at + 1)))
      → Bounded at (length t / 2) (pick c (through is (drop 2 (drop (2 * at) t)) (at + 1)) (Err (misfit at)))
  by-test true e ih =
      widened at (length t / 2) (through is (drop 2 (drop (2 * at) t)) (at + 1))
      (rw (next t at) (ih (two-left t at (two-of-command b (drop (2 * at) t) e))))
  by-test false e ih = tt
through-bounds t (data_ins ∷ is) at h =
    rw (data-at t is at)
    (widened-by at (many_of 2 (drop (2 * at) t)) (length t / 2) (through is (drop (2 * (at + many_of 2 (drop (2 * at) t))) t) (at + many_of 2 (drop (2 * at) t))) (through-bounds t is (at + many_of 2 (drop (2 * at) t)) (many-left 2 t at h)))
through-bounds t (data_outs ∷ is) at h =
    rw (outs-at t is at)
    (widened-by at (many_of 3 (drop (2 * at) t)) (length t / 2) (through is (drop (2 * (at + many_of 3 (drop (2 * at) t))) t) (at + many_of 3 (drop (2 * at) t))) (through-bounds t is (at + many_of 3 (drop (2 * at) t)) (many-left 3 t at h)))

-- a whole job ends after its place, and within the trace
abbrev Ending : ℕ → ℕ → Result (Option FoundJob) Misfit → Type 0
Ending at n (Ok None) = Unit
Ending at n (Err m) = Unit
Ending at n (Ok (Some g)) = Between (at + 1) g.next n

ends_found : (f : First) (ts : List ℕ) (at n : ℕ) (r : Result ℕ Misfit) → Bounded (at + 1) n r → Ending at n (found_of f ts at r)
ends_found f ts at n (Err m) b = tt
ends_found f ts at n (Ok p) b = rw (ends_there f ts at p) b

module _ (t : List ℕ) (at k v : ℕ) (ts : List ℕ) (here : drop (2 * at) t ≡ k ∷ (v ∷ ts)) where
  ends : (f : First) → Ending at (length t / 2) (found_of f (k ∷ (v ∷ ts)) at (through (items f) ts (at + 1)))
  ends f =
      let long : 2 ≤ length (drop (2 * at) t) = rw (here) (omega arith) in
      let e : Bounded (at + 1) (length t / 2) (through (items f) (drop (2 * (at + 1)) t) (at + 1)) = through-bounds t (items f) (at + 1) (two-left t at long) in
      ends_found f (k ∷ (v ∷ ts)) at (length t / 2) (through (items f) ts (at + 1)) (rw (rest t at k v ts here) at e)

  ends-first : (f : Option First) → Ending at (length t / 2) (begun_of f (k ∷ (v ∷ ts)) at)
  ends-first None = tt
  ends-first (Some f) = ends f

ends-from : (t : List ℕ) (at : ℕ) (ts : List ℕ) → drop (2 * at) t ≡ ts → Ending at (length t / 2) (job_from ts at)
ends-from t at [] e = tt
ends-from t at (k ∷ []) e = tt
ends-from t at (k ∷ (v ∷ ts)) e = ends-first t at k v ts e (beginning k v)

job-ends : (t : List ℕ) (at : ℕ) → Ending at (length t / 2) (job_at t at)
unfolding job_at
job-ends t at = ends-from t at (drop (2 * at) t) refl

pub job-ahead : (t : List ℕ) (at : ℕ) (g : FoundJob) → job_at t at ≡ Ok (Some g) → Between (at + 1) g.next (length t / 2)
job-ahead t at g e = rw (e) at (job-ends t at)

by-parity : (n : ℕ) → n < 2 → (n ≡ 0 → ⊥) → n ≡ 1
by-parity zero h no_zero = absurd (no_zero refl)
by-parity (suc zero) h no_zero = refl
by-parity (suc (suc n)) h no_zero = absurd (omega arith)

-- the job at a place, as the code finds it
pub job-past : (t : List ℕ) (at : ℕ) → length t / 2 < at → Ok None ≡ job_at t at
unfolding job_at
job-past t at h =
    let none : length t ≤ 2 * at = omega arith in
    rw (drop_of_length-le t none)

pub job-even : (t : List ℕ) (at : ℕ) → length t / 2 ≡ at → length t % 2 ≡ 0 → Ok None ≡ job_at t at
unfolding job_at
job-even t at e h =
    let none : length t ≤ 2 * at = omega arith in
    rw (drop_of_length-le t none)

pub job-odd : (t : List ℕ) (at : ℕ) → length t / 2 ≡ at → (length t % 2 ≡ 0 → ⊥) → Err (misfit at) ≡ job_at t at
unfolding job_at
job-odd t at e h =
    let odd : length t % 2 ≡ 1 = by-parity (length t % 2) (omega arith) h in
    let below : 2 * at < length t = omega arith in
    let none : length t ≤ suc (2 * at) = omega arith in
    rw (drop-cons t (2 * at) 0 below, drop_of_length-le t none)

module _ (t : List ℕ) (at : ℕ) (g : Option First) (h : at < length t / 2) (e : g ≡ beginning (get_or t (2 * at) 0) (get_or t (2 * at + 1) 0)) where
  job-begun : job_at t at ≡ begun_of g (drop (2 * at) t) at
  unfolding job_at
  job-begun =
      let bound : 2 * at + 1 < length t = omega arith in
      rw (record-at t at bound, e)

  pub job-none : g ≡ None → Err (misfit at) ≡ job_at t at
  job-none n = sym (job-begun ∙ rw (n))

  pub job-found : (f : First) (r : Result ℕ Misfit) → g ≡ Some f → r ≡ through (items f) (drop (2 * (at + 1)) t) (at + 1) → found_of f (drop (2 * at) t) at r ≡ job_at t at
  job-found f r same reach = sym (job-begun ∙ rw (same, next t at, ← reach))

-- the loop over a list's jobs
pub record Walking (t : List ℕ) (at : ℕ) : Type 0 where
  pub same : first_misfit t ≡ walk [] (drop (2 * at) t) at
  pub within : at ≤ length t / 2

pub walking : (t : List ℕ) → Walking t 0
walking t = record { same = walk_start t; within = omega arith }

module _ (t : List ℕ) (at : ℕ) (w : Walking t at) (f : Result (Option FoundJob) Misfit) (e : f ≡ job_at t at) where
  seen : first_misfit t ≡ ahead t f
  seen = w.same ∙ walk-job t at ∙ sym (ap (ahead t) e)

  pub walked_end : f ≡ Ok None → Ok tt ≡ first_misfit t
  walked_end h = sym (seen ∙ ap (ahead t) h)

  pub walked-misfit : (m : Misfit) → f ≡ Err m → Err m ≡ first_misfit t
  walked-misfit m h = sym (seen ∙ ap (ahead t) h)

  pub walked-ahead : (g : FoundJob) → f ≡ Ok (Some g) → Between (at + 1) g.next (length t / 2)
  walked-ahead g h = job-ahead t at g (sym e ∙ h)

  pub walked_on : (g : FoundJob) → f ≡ Ok (Some g) → Walking t g.next
  walked_on g h = record { same = seen ∙ ap (ahead t) h; within = (walked-ahead g h).high }
