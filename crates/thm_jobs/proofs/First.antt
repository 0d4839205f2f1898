-- Lists of whole jobs, and the first record that doesn't fit.
--     jobs-are-whole, whole-are-jobs   no misfit: just the lists of whole jobs
--     completed, cut                   before the misfit the list can be completed; with it, it can't
-- Assumes nothing.
use mathlib.Core.Path.{◌≡◌, refl, sym, ap, ◌∙◌}
use mathlib.Core.Bool.{Bool, true, false, ◌&&◌, not}
use mathlib.Core.List.{List, [], ◌∷◌, ◌++◌}
use Prim.Native.Nat.{ℕ, zero, suc, ◌+◌, ◌*◌, ◌/◌, ◌≤◌, ◌<◌}
use native.Mathlib.Omega.{arith}
use lib.ListN.{length, take, drop, get_or, take-append-drop, drop_of_length-le}
use lib.Seq.{drop_at, length-take-le}
use lib.Dec.{eqb, leb}
use borrow.Author.Tests.{eq-eqb, leb-true, not-true}
use Rattle.slices.specs.Cells.{all_at_most}
use Rattle.target.specs.Pick.{pick}
use Rattle.jobs.specs.declared.Job.{Job}
use Rattle.jobs.specs.declared.Job.TheVariants.{Read, ReadOut, Program, Erase, Status}
use Rattle.std.specs.Prelude.{Option, None, Some, Result, Ok, Err}
use Rattle.jobs.specs.declared.reading.First.{First}
use Rattle.jobs.specs.declared.reading.First.TheVariants as first
use Rattle.jobs.specs.declared.reading.Misfit.{Misfit}
use Rattle.jobs.specs.declared.reading.FoundJob.{FoundJob}
use Rattle.jobs.specs.Writing.{too_wide, records_of}
use Rattle.jobs.specs.Reading.{misfit, whole, Item, address, command, data_ins, data_outs, items, beginning, of_kind, is_kind, many_of, through, found_of, begun_of, job_from, job_at, Next, stuck, on, begun, step, ended, onward, walk, first_misfit}
use Rattle.jobs.proofs.Jobs.{read-size, read-out-size, program-size, erase-size, status-size}
use Rattle.jobs.proofs.Runs.{later, never}
use Rattle.jobs.proofs.Walks.{walk-address, walk-command, Many, ins, outs, walk-many, walk-job, ahead, job-ahead, walk_start, walk_end, walk-odd}
use Rattle.thm_jobs.specs.Round.{AllBytes, data_at, data_place, data_count, Given, none_wide, records_all, WholeJobs, Beginning, NamedByFirst, JobsAreWhole, WholeAreJobs}
use Rattle.thm_jobs.proofs.Shapes.{none-come, both_of}
use Rattle.thm_jobs.proofs.Back.{job-back}
use Rattle.thm_jobs.proofs.Again.{read-and-written}

-- a list that stops being whole jobs there
abbrev breaks : ℕ → Result Unit Misfit
breaks p = Err (misfit p)

never-jobs : (p : ℕ) → breaks p ≡ Ok tt → ⊥
never-jobs p e = let z : ◌≡◌ {A = ℕ} 0 1 = cc in omega arith

misfit-at : (p q : ℕ) → breaks p ≡ breaks q → p ≡ q
misfit-at p q e =
    let same : misfit p ≡ misfit q = cc in
    ap (λ (m : Misfit). m.place) same

-- no misfit, so whole jobs
abbrev is-end : Result (Option FoundJob) Misfit → Bool
is-end (Ok None) = true
is-end (Err m) = false
is-end (Ok (Some g)) = false

found-goes-on : (f : First) (ts : List ℕ) (at : ℕ) (r : Result ℕ Misfit) → is-end (found_of f ts at r) ≡ false
found-goes-on f ts at (Err m) = refl
found-goes-on f ts at (Ok p) = refl

goes_on : (f : Option First) (ts : List ℕ) (at : ℕ) → is-end (begun_of f ts at) ≡ false
goes_on None ts at = refl
goes_on (Some f) ts at = found-goes-on f ts at (through (items f) (drop 2 ts) (at + 1))

ended_at : (ts : List ℕ) (at : ℕ) → job_from ts at ≡ Ok None → ts ≡ []
ended_at [] at e = refl
ended_at (k ∷ []) at e = absurd (never (ap is-end e))
ended_at (k ∷ (v ∷ ts)) at e = absurd (never (sym (goes_on (beginning k v) (k ∷ (v ∷ ts)) at) ∙ ap is-end e))

ended_here : (t : List ℕ) (at : ℕ) → job_at t at ≡ Ok None → drop (2 * at) t ≡ []
unfolding job_at
ended_here t at e = ended_at (drop (2 * at) t) at e

none_left : (ts : List ℕ) → ts ≡ [] → WholeJobs ts
none_left ts e = record { jobs = []; narrow = refl; same = e }

joined : (j : Job) (bytes ts rest : List ℕ) → too_wide j ≡ false → ts ≡ records_of j bytes ++ rest → WholeJobs rest → WholeJobs ts
joined j bytes ts rest narrow same w = record {
  jobs = record { job = j; bytes = bytes } ∷ w.jobs;
  narrow = rw (narrow) w.narrow;
  same = same ∙ ap (λ (l : List ℕ). records_of j bytes ++ l) w.same;
}

sound : (fuel : ℕ) (t : List ℕ) (at : ℕ) → AllBytes t → length t / 2 < at + fuel → walk [] (drop (2 * at) t) at ≡ Ok tt → WholeJobs (drop (2 * at) t)
sound zero t at b h e =
    let none : length t ≤ 2 * at = omega arith in
    none_left (drop (2 * at) t) (drop_of_length-le t none)
sound (suc fuel) t at b h e = by-found (job_at t at) refl (λ p low on. sound fuel t p b (omega arith) on) where
  by-found : (f : Result (Option FoundJob) Misfit) → job_at t at ≡ f → ((p : ℕ) → at + 1 ≤ p → walk [] (drop (2 * p) t) p ≡ Ok tt → WholeJobs (drop (2 * p) t)) → WholeJobs (drop (2 * at) t)
  by-found (Ok None) f ih = none_left (drop (2 * at) t) (ended_here t at f)
  by-found (Err m) f ih = absurd (never-jobs m.place (sym (ap (ahead t) f) ∙ sym (walk-job t at) ∙ e))
  by-found (Ok (Some g)) f ih =
      let again = read-and-written t at g.job g.place g.count g.next b f in
      let ahead_of_lem = job-ahead t at g f in
      joined g.job (data_at t g.place g.count) (drop (2 * at) t) (drop (2 * g.next) t) again.narrow again.same
      (ih g.next ahead_of_lem.low (sym (ap (ahead t) f) ∙ sym (walk-job t at) ∙ e))

pub jobs-are-whole : JobsAreWhole
jobs-are-whole trace b e = sound (length trace + 1) trace 0 b (omega arith) (sym (walk_start trace) ∙ e)

-- whole jobs, so no misfit
starts : (j : Job) (bytes more : List ℕ) → is_kind 3 (records_of j bytes ++ more) ≡ false
unfolding records_of
starts (Read c r) bytes more = refl
starts (ReadOut c r n) bytes more = refl
starts (Program c r) bytes more = refl
starts (Erase r) bytes more = refl
starts (Status r n) bytes more = refl

no-outs : (gs : List Given) → is_kind 3 (records_all gs) ≡ false
no-outs [] = refl
no-outs (g ∷ gs) = starts g.job g.bytes (records_all gs)

even-size : (j : Job) (bytes : List ℕ) → length (records_of j bytes) ≡ 2 * (length (records_of j bytes) / 2)
even-size (Read c r) bytes = omega (arith, read-size c r bytes)
even-size (ReadOut c r n) bytes = omega (arith, read-out-size c r n bytes)
even-size (Program c r) bytes = omega (arith, program-size c r bytes)
even-size (Erase r) bytes = omega (arith, erase-size r bytes)
even-size (Status r n) bytes = omega (arith, status-size r n bytes)

job-here : (t : List ℕ) (at : ℕ) (j : Job) (bytes more : List ℕ) → too_wide j ≡ false → is_kind 3 more ≡ false → drop (2 * at) t ≡ records_of j bytes ++ more
    → job_at t at ≡ whole j (data_place j at) (data_count j bytes) (at + length (records_of j bytes) / 2)
unfolding job_at
job-here t at j bytes more narrow none e = rw (e) (job-back at more j bytes narrow none)

complete : (t : List ℕ) (at : ℕ) (gs : List Given) → none_wide gs ≡ true → drop (2 * at) t ≡ records_all gs → walk [] (drop (2 * at) t) at ≡ Ok tt
complete t at [] narrow e = rw (e) (walk_end at)
complete t at (g ∷ gs) narrow e =
    let both = both_of (not (too_wide g.job)) (none_wide gs) narrow in
    let half = length (records_of g.job g.bytes) / 2 in
    let here = job-here t at g.job g.bytes (records_all gs) (not-true (too_wide g.job) both.0) (no-outs gs) e in
    let past : drop (2 * (at + half)) t ≡ records_all gs =
    sym (later t at half)
    ∙ ap (drop (2 * half)) e
    ∙ drop_at (records_of g.job g.bytes) (records_all gs) (2 * half) (even-size g.job g.bytes) in
    walk-job t at ∙ ap (ahead t) here ∙ complete t (at + half) gs both.1 past

pub whole-are-jobs : WholeAreJobs
whole-are-jobs trace w = walk_start trace ∙ complete trace 0 w.jobs w.narrow w.same

-- the shortest end of what is due
abbrev least : List Item → List ℕ
least [] = []
least (address ∷ is) = 1 ∷ (0 ∷ least is)
least (command b ∷ is) = 0 ∷ (b ∷ least is)
least (data_ins ∷ is) = least is
least (data_outs ∷ is) = least is

lead : (is : List Item) → (is_kind 2 (least is) ≡ false) × (is_kind 3 (least is) ≡ false)
lead [] = (refl, refl)
lead (address ∷ is) = (refl, refl)
lead (command b ∷ is) = (refl, refl)
lead (data_ins ∷ is) = lead is
lead (data_outs ∷ is) = lead is

past-none : {i : Item} {kind : ℕ} → Many i kind → (is : List Item) (ts : List ℕ) (at : ℕ) → is_kind kind ts ≡ false → walk (i ∷ is) ts at ≡ walk is ts at
past-none {i} {kind} m is ts at e =
    let none : many_of kind ts ≡ 0 = none-come (length ts) kind ts e in
    let place : at + 0 ≡ at = omega arith in
    walk-many m is ts at ∙ rw (none, place)

least-walk : (is : List Item) (at : ℕ) → walk is (least is) at ≡ Ok tt
least-walk [] at = walk_end at
least-walk (address ∷ is) at = walk-address is (1 ∷ (0 ∷ least is)) at ∙ least-walk is (at + 1)
least-walk (command b ∷ is) at = walk-command b is (0 ∷ (b ∷ least is)) at ∙ rw (eq-eqb b b refl) (least-walk is (at + 1))
least-walk (data_ins ∷ is) at = past-none ins is (least is) at (lead is).0 ∙ least-walk is at
least-walk (data_outs ∷ is) at = past-none outs is (least is) at (lead is).1 ∙ least-walk is at

-- all of its bytes are bytes
on_same : (a b : List Item) → on a ≡ on b → a ≡ b
on_same a b e = cc

never_on : (a : List Item) → stuck ≡ on a → ⊥
never_on a e = let z : ◌≡◌ {A = ℕ} 0 1 = cc in omega arith

fine-first : (f : Option First) (js : List Item) → begun f ≡ on js → all_at_most 255 (least js) ≡ true
unfolding all_at_most
fine-first None js e = absurd (never_on js e)
fine-first (Some first.Read) js e = rw (← on_same (items first.Read) js e)
fine-first (Some first.ReadOut) js e = rw (← on_same (items first.ReadOut) js e)
fine-first (Some first.Program) js e = rw (← on_same (items first.Program) js e)
fine-first (Some first.Erase) js e = rw (← on_same (items first.Erase) js e)
fine-first (Some first.Status) js e = rw (← on_same (items first.Status) js e)

fine-one : (b : Bool) (is js : List Item) → pick b (on is) stuck ≡ on js → all_at_most 255 (least is) ≡ true → all_at_most 255 (least js) ≡ true
fine-one true is js e h = rw (← on_same is js e) h
fine-one false is js e h = absurd (never_on js e)

fine-many : (b : Bool) (is js : List Item) (other : Next) → pick b (on is) other ≡ on js → all_at_most 255 (least is) ≡ true → (other ≡ on js → all_at_most 255 (least js) ≡ true) → all_at_most 255 (least js) ≡ true
fine-many true is js other e h ih = rw (← on_same is js e) h
fine-many false is js other e h ih = ih e

after-address : (is : List Item) → all_at_most 255 (least (address ∷ is)) ≡ true → all_at_most 255 (least is) ≡ true
unfolding all_at_most
after-address is h = h

after-command : (b : ℕ) (is : List Item) → all_at_most 255 (least (command b ∷ is)) ≡ true → all_at_most 255 (least is) ≡ true
unfolding all_at_most
after-command b is h = (both_of (leb b 255) (all_at_most 255 (least is)) h).1

fine-next : (is : List Item) (k v : ℕ) (js : List Item) → step is k v ≡ on js → all_at_most 255 (least is) ≡ true → all_at_most 255 (least js) ≡ true
unfolding step
fine-next [] k v js e h = fine-first (beginning k v) js e
fine-next (address ∷ is) k v js e h = fine-one (of_kind 1 k v) is js e (after-address is h)
fine-next (command b ∷ is) k v js e h = fine-one (eqb k 0 && eqb v b) is js e (after-command b is h)
fine-next (data_ins ∷ is) k v js e h = fine-many (of_kind 2 k v) (data_ins ∷ is) js (step is k v) e h (λ f. fine-next is k v js f h)
fine-next (data_outs ∷ is) k v js e h = fine-many (of_kind 3 k v) (data_outs ∷ is) js (step is k v) e h (λ f. fine-next is k v js f h)

each-byte : (ts : List ℕ) → all_at_most 255 ts ≡ true → (i : ℕ) → get_or ts i 0 < 256
unfolding all_at_most
each-byte [] h i = omega arith
each-byte (b ∷ ts) h zero = let low : b ≤ 255 = leb-true b 255 (both_of (leb b 255) (all_at_most 255 ts) h).0 in omega arith
each-byte (b ∷ ts) h (suc i) = each-byte ts (both_of (leb b 255) (all_at_most 255 ts) h).1 i

none-fine : all_at_most 255 (least []) ≡ true
unfolding all_at_most
none-fine = refl

-- one record of a walk
walk-next : (is : List Item) (k v : ℕ) (ts : List ℕ) (at : ℕ) → walk is (k ∷ (v ∷ ts)) at ≡ onward (step is k v) (breaks at) (λ js. walk js ts (at + 1))
unfolding walk
walk-next is k v ts at = refl

stuck_at : (is : List Item) (k v : ℕ) (ts : List ℕ) (at : ℕ) → step is k v ≡ stuck → walk is (k ∷ (v ∷ ts)) at ≡ breaks at
stuck_at is k v ts at e = walk-next is k v ts at ∙ rw (e)

on-from : (is : List Item) (k v : ℕ) (ts : List ℕ) (at : ℕ) (js : List Item) → step is k v ≡ on js → walk is (k ∷ (v ∷ ts)) at ≡ walk js ts (at + 1)
on-from is k v ts at js e = walk-next is k v ts at ∙ rw (e)

walk_none : (is : List Item) (at : ℕ) → walk is [] at ≡ pick (ended is) (Ok tt) (breaks at)
unfolding walk
walk_none is at = refl

-- where a misfit may be
record Placed (at n p : ℕ) : Type 0 where
  low : at ≤ p
  high : p ≤ at + n / 2

placed : (is : List Item) (ts : List ℕ) (at p : ℕ) → walk is ts at ≡ breaks p → Placed at (length ts) p
placed is [] at p e = by_end (ended is) (sym (walk_none is at) ∙ e) where
  by_end : (b : Bool) → pick b (Ok tt) (breaks at) ≡ breaks p → Placed at 0 p
  by_end true f = absurd (never-jobs p (sym f))
  by_end false f = let same : at ≡ p = misfit-at at p f in record { low = omega arith; high = omega arith }
placed is (k ∷ []) at p e =
    let same : at ≡ p = misfit-at at p (sym (walk-odd is k at) ∙ e) in
    record { low = omega arith; high = omega arith }
placed is (k ∷ (v ∷ ts)) at p e = by-step (step is k v) refl (λ js f. placed js ts (at + 1) p f) where
  by-step : (s : Next) → step is k v ≡ s → ((js : List Item) → walk js ts (at + 1) ≡ breaks p → Placed (at + 1) (length ts) p) → Placed at (length (k ∷ (v ∷ ts))) p
  by-step stuck s ih =
      let same : at ≡ p = misfit-at at p (sym (stuck_at is k v ts at s) ∙ e) in
      record { low = omega arith; high = omega arith }
  by-step (on js) s ih =
      let further = ih js (sym (on-from is k v ts at js s) ∙ e) in
      record { low = omega (arith, further.low); high = omega (arith, further.high) }

-- before the misfit the list can be completed
record Completed (is : List Item) (xs : List ℕ) (at : ℕ) : Type 0 where
  rest : List ℕ
  fine : all_at_most 255 rest ≡ true
  done : walk is (xs ++ rest) at ≡ Ok tt

completed : (n : ℕ) (is : List Item) (xs ys : List ℕ) (at : ℕ) → length xs ≡ 2 * n → all_at_most 255 (least is) ≡ true → walk is (xs ++ ys) at ≡ breaks (at + n) → Completed is xs at
completed zero is [] ys at size fine e = record { rest = least is; fine = fine; done = least-walk is at }
completed zero is (x ∷ xs) ys at size fine e = absurd (omega arith)
completed (suc n) is [] ys at size fine e = absurd (omega arith)
completed (suc n) is (x ∷ []) ys at size fine e = absurd (omega arith)
completed (suc n) is (k ∷ (v ∷ xs)) ys at size fine e =
    by-step (step is k v) refl (λ js f g. completed n js xs ys (at + 1) (omega arith) f g)
  where
    by-step : (s : Next) → step is k v ≡ s → ((js : List Item) → all_at_most 255 (least js) ≡ true → walk js (xs ++ ys) (at + 1) ≡ breaks (at + 1 + n) → Completed js xs (at + 1))
        → Completed is (k ∷ (v ∷ xs)) at
    by-step stuck s ih =
        let same : at ≡ at + suc n = misfit-at at (at + suc n) (sym (stuck_at is k v (xs ++ ys) at s) ∙ e) in
        absurd (omega arith)
    by-step (on js) s ih =
        let place : at + suc n ≡ at + 1 + n = omega arith in
        let further = ih js (fine-next is k v js s fine) (sym (on-from is k v (xs ++ ys) at js s) ∙ e ∙ ap breaks place) in
        record { rest = further.rest; fine = further.fine; done = on-from is k v (xs ++ further.rest) at js s ∙ further.done }

-- with it, it can't
cut : (n : ℕ) (is : List Item) (xs ys rest : List ℕ) (at : ℕ) → length xs ≡ 2 * n + 2 → walk is (xs ++ ys) at ≡ breaks (at + n) → walk is (xs ++ rest) at ≡ breaks (at + n)
cut n is [] ys rest at size e = absurd (omega arith)
cut n is (x ∷ []) ys rest at size e = absurd (omega arith)
cut zero is (k ∷ (v ∷ xs)) ys rest at size e = by-step (step is k v) refl where
  by-step : (s : Next) → step is k v ≡ s → walk is (k ∷ (v ∷ (xs ++ rest))) at ≡ breaks (at + 0)
  by-step stuck s = stuck_at is k v (xs ++ rest) at s ∙ sym (stuck_at is k v (xs ++ ys) at s) ∙ e
  by-step (on js) s =
      let further = placed js (xs ++ ys) (at + 1) (at + 0) (sym (on-from is k v (xs ++ ys) at js s) ∙ e) in
      absurd (omega (arith, further.low))
cut (suc n) is (k ∷ (v ∷ xs)) ys rest at size e = by-step (step is k v) refl (λ js f. cut n js xs ys rest (at + 1) (omega arith) f) where
  by-step : (s : Next) → step is k v ≡ s → ((js : List Item) → walk js (xs ++ ys) (at + 1) ≡ breaks (at + 1 + n) → walk js (xs ++ rest) (at + 1) ≡ breaks (at + 1 + n))
      → walk is (k ∷ (v ∷ (xs ++ rest))) at ≡ breaks (at + suc n)
  by-step stuck s ih =
      let same : at ≡ at + suc n = misfit-at at (at + suc n) (sym (stuck_at is k v (xs ++ ys) at s) ∙ e) in
      absurd (omega arith)
  by-step (on js) s ih =
      let place : at + suc n ≡ at + 1 + n = omega arith in
      on-from is k v (xs ++ rest) at js s
      ∙ ih js (sym (on-from is k v (xs ++ ys) at js s) ∙ e ∙ ap breaks place)
      ∙ sym (ap breaks place)

bytes-joined : (xs ys : List ℕ) → ((i : ℕ) → get_or xs i 0 < 256) → ((i : ℕ) → get_or ys i 0 < 256) → (i : ℕ) → get_or (xs ++ ys) i 0 < 256
bytes-joined [] ys f g i = g i
bytes-joined (x ∷ xs) ys f g zero = f zero
bytes-joined (x ∷ xs) ys f g (suc i) = bytes-joined xs ys (λ j. f (suc j)) g i

bytes-taken : (n : ℕ) (ts : List ℕ) → ((i : ℕ) → get_or ts i 0 < 256) → (i : ℕ) → get_or (take n ts) i 0 < 256
bytes-taken zero ts f i = omega arith
bytes-taken (suc n) [] f i = omega arith
bytes-taken (suc n) (x ∷ ts) f zero = f zero
bytes-taken (suc n) (x ∷ ts) f (suc i) = bytes-taken n ts (λ j. f (suc j)) i

split-walk : (n : ℕ) (trace : List ℕ) (p : ℕ) → first_misfit trace ≡ breaks p → walk [] (take n trace ++ drop n trace) 0 ≡ breaks (0 + p)
split-walk n trace p e =
    let place : 0 + p ≡ p = omega arith in
    rw (take-append-drop n trace, place) (sym (walk_start trace) ∙ e)

pub named-by-first : NamedByFirst
named-by-first trace p b e =
    let where-it-is = placed [] trace 0 p (sym (walk_start trace) ∙ e) in
    let inside : 2 * p ≤ length trace = omega (arith, where-it-is.high) in
    record {
      within = inside;
      begins = beginning-of trace p b e inside;
      breaks = λ h g. broken trace p e h g;
      last = λ w. never-jobs p (sym e ∙ whole-are-jobs trace w);
    }
  where
    beginning-of : (trace : List ℕ) (p : ℕ) → AllBytes trace → first_misfit trace ≡ breaks p → 2 * p ≤ length trace → Beginning (take (2 * p) trace)
    beginning-of trace p b e inside =
        let c = completed p [] (take (2 * p) trace) (drop (2 * p) trace) 0 (length-take-le (2 * p) trace inside) none-fine (split-walk (2 * p) trace p e) in
        record {
          rest = c.rest;
          whole =
              jobs-are-whole (take (2 * p) trace ++ c.rest)
              (record { each = bytes-joined (take (2 * p) trace) c.rest (bytes-taken (2 * p) trace b.each) (each-byte c.rest c.fine) })
              (walk_start (take (2 * p) trace ++ c.rest) ∙ c.done);
        }

    broken : (trace : List ℕ) (p : ℕ) → first_misfit trace ≡ breaks p → 2 * p + 2 ≤ length trace → Beginning (take (2 * p + 2) trace) → ⊥
    broken trace p e h g =
        let still = cut p [] (take (2 * p + 2) trace) (drop (2 * p + 2) trace) g.rest 0 (length-take-le (2 * p + 2) trace h) (split-walk (2 * p + 2) trace p e) in
        never-jobs (0 + p) (sym still ∙ sym (walk_start (take (2 * p + 2) trace ++ g.rest)) ∙ whole-are-jobs (take (2 * p + 2) trace ++ g.rest) g.whole)
