-- Records at a place, and runs of records of one kind.
--     record-at, later        the record at a place of a trace, and the records after it
--     run-turn, run-stop      a turn of the loop that counts, and its end
--     run-enough, run-lesser  where no more records come, the bound does not matter
--     run-within              a run has no more records than the list
-- Assumes nothing.
use mathlib.Core.Path.{◌≡◌, refl, sym, ap, ◌∙◌}
use mathlib.Core.Bool.{Bool, true, false, ◌&&◌}
use mathlib.Core.List.{List, [], ◌∷◌}
use Prim.Native.Nat.{ℕ, zero, suc, ◌+◌, ◌-◌, ◌*◌, ◌/◌, ◌≤◌, ◌<◌, min}
use native.Mathlib.Omega.{arith}
use lib.ListN.{length, drop, get_or, length-drop}
use lib.Seq.{drop-cons, drop-drop}
use lib.Dec.{eqb, ltb}
use borrow.Author.Tests.{ltb-true, ltb-false}
use Rattle.target.specs.Pick.{pick}
use Rattle.jobs.specs.Reading.{of_kind, run, many_of, is_command, is_kind}

pub record-at : (t : List ℕ) (at : ℕ) → 2 * at + 1 < length t → drop (2 * at) t ≡ get_or t (2 * at) 0 ∷ (get_or t (2 * at + 1) 0 ∷ drop (2 * (at + 1)) t)
record-at t at h =
    let below : 2 * at < length t = omega arith in
    let one : suc (2 * at) ≡ 2 * at + 1 = omega arith in
    let two : suc (2 * at + 1) ≡ 2 * (at + 1) = omega arith in
    drop-cons t (2 * at) 0 below
    ∙ ap (λ (n : ℕ). get_or t (2 * at) 0 ∷ drop n t) one
    ∙ ap (λ (l : List ℕ). get_or t (2 * at) 0 ∷ l) (drop-cons t (2 * at + 1) 0 h ∙ ap (λ (n : ℕ). get_or t (2 * at + 1) 0 ∷ drop n t) two)

pub later : (t : List ℕ) (at n : ℕ) → drop (2 * n) (drop (2 * at) t) ≡ drop (2 * (at + n)) t
later t at n =
    let e : 2 * at + 2 * n ≡ 2 * (at + n) = omega arith in
    drop-drop (2 * n) (2 * at) t ∙ ap (λ (k : ℕ). drop k t) e

pub next : (t : List ℕ) (at : ℕ) → drop 2 (drop (2 * at) t) ≡ drop (2 * (at + 1)) t
next t at =
    let e : 2 * at + 2 ≡ 2 * (at + 1) = omega arith in
    drop-drop 2 (2 * at) t ∙ ap (λ (k : ℕ). drop k t) e

fits : (most kind k v : ℕ) (ts : List ℕ) → of_kind kind k v ≡ true → run (suc most) kind (k ∷ (v ∷ ts)) ≡ suc (run most kind ts)
unfolding run
fits most kind k v ts e = rw (e)

stops : (most kind k v : ℕ) (ts : List ℕ) → of_kind kind k v ≡ false → run (suc most) kind (k ∷ (v ∷ ts)) ≡ 0
unfolding run
stops most kind k v ts e = rw (e)

module _ (kind : ℕ) (t : List ℕ) (at most k : ℕ) (room : 2 * (at + most) ≤ length t) (below : k < most) where
  pub run-turn : of_kind kind (get_or t (2 * (at + k)) 0) (get_or t (2 * (at + k) + 1) 0) ≡ true
      → run (most - k) kind (drop (2 * (at + k)) t) ≡ suc (run (most - (k + 1)) kind (drop (2 * (at + (k + 1))) t))
  run-turn e =
      let bound : 2 * (at + k) + 1 < length t = omega arith in
      let left : most - k ≡ suc (most - (k + 1)) = omega arith in
      let place : at + k + 1 ≡ at + (k + 1) = omega arith in
      rw (left, record-at t (at + k) bound, place) (fits _ _ _ _ _ e)

  pub run-stop : of_kind kind (get_or t (2 * (at + k)) 0) (get_or t (2 * (at + k) + 1) 0) ≡ false → run (most - k) kind (drop (2 * (at + k)) t) ≡ 0
  run-stop e =
      let bound : 2 * (at + k) + 1 < length t = omega arith in
      let left : most - k ≡ suc (most - (k + 1)) = omega arith in
      rw (left, record-at t (at + k) bound) (stops _ _ _ _ _ e)

pub run_none : (kind : ℕ) (ts : List ℕ) → run 0 kind ts ≡ 0
unfolding run
run_none kind ts = refl

pub run_short : (most kind : ℕ) (ts : List ℕ) → length ts ≤ 1 → run most kind ts ≡ 0
unfolding run
run_short zero kind ts h = refl
run_short (suc most) kind [] h = refl
run_short (suc most) kind (k ∷ []) h = refl
run_short (suc most) kind (k ∷ (v ∷ ts)) h = absurd (omega arith)

both : (b : Bool) (x y : ℕ) → x ≡ y → pick b (suc x) 0 ≡ pick b (suc y) 0
both b x y e = ap (λ (n : ℕ). pick b (suc n) 0) e

more : (m n kind k v : ℕ) (ts : List ℕ) → run m kind ts ≡ run n kind ts → run (suc m) kind (k ∷ (v ∷ ts)) ≡ run (suc n) kind (k ∷ (v ∷ ts))
unfolding run
more m n kind k v ts e = both (of_kind kind k v) (run m kind ts) (run n kind ts) e

pub run-enough : (m n kind : ℕ) (ts : List ℕ) → length ts / 2 ≤ m → length ts / 2 ≤ n → run m kind ts ≡ run n kind ts
run-enough m n kind [] h i = run_short m kind [] (omega arith) ∙ sym (run_short n kind [] (omega arith))
run-enough m n kind (k ∷ []) h i = run_short m kind (k ∷ []) (omega arith) ∙ sym (run_short n kind (k ∷ []) (omega arith))
run-enough zero n kind (k ∷ (v ∷ ts)) h i = absurd (omega arith)
run-enough (suc m) zero kind (k ∷ (v ∷ ts)) h i = absurd (omega arith)
run-enough (suc m) (suc n) kind (k ∷ (v ∷ ts)) h i = more m n kind k v ts (run-enough m n kind ts (omega arith) (omega arith))

pub run-lesser : (m kind : ℕ) (ts : List ℕ) (left : ℕ) → length ts / 2 ≡ left → run (min m left) kind ts ≡ run m kind ts
run-lesser m kind ts left e = side (ltb left m) refl where
  side : (b : Bool) → ltb left m ≡ b → run (min m left) kind ts ≡ run m kind ts
  side true h =
      let below : left < m = ltb-true left m h in
      run-enough (min m left) m kind ts (omega arith) (omega arith)
  side false h =
      let above : m ≤ left = ltb-false left m h in
      let same : min m left ≡ m = omega arith in
      rw (same)

pub run-within : (most kind : ℕ) (ts : List ℕ) → run most kind ts ≤ length ts / 2
run-within zero kind ts = omega (arith, run_none kind ts)
run-within (suc most) kind [] = omega (arith, run_short (suc most) kind [] (omega arith))
run-within (suc most) kind (k ∷ []) = omega (arith, run_short (suc most) kind (k ∷ []) (omega arith))
run-within (suc most) kind (k ∷ (v ∷ ts)) = side (of_kind kind k v) refl (run-within most kind ts) where
  side : (b : Bool) → of_kind kind k v ≡ b → run most kind ts ≤ length ts / 2 → run (suc most) kind (k ∷ (v ∷ ts)) ≤ length (k ∷ (v ∷ ts)) / 2
  side true e ih = omega (arith, fits most kind k v ts e)
  side false e ih = omega (arith, stops most kind k v ts e)

-- all of a kind, from a place of a trace on
pub many-at : (kind : ℕ) (t : List ℕ) (at : ℕ) → run (length t) kind (drop (2 * at) t) ≡ many_of kind (drop (2 * at) t)
many-at kind t at = run-enough (length t) (length (drop (2 * at) t)) kind (drop (2 * at) t) (omega (arith, length-drop (2 * at) t)) (omega arith)

pub no_kind : (kind : ℕ) (ts : List ℕ) → length ts ≤ 1 → is_kind kind ts ≡ false
no_kind kind [] h = refl
no_kind kind (k ∷ []) h = refl
no_kind kind (k ∷ (v ∷ ts)) h = absurd (omega arith)

pub no-command : (b : ℕ) (ts : List ℕ) → length ts ≤ 1 → is_command b ts ≡ false
no-command b [] h = refl
no-command b (k ∷ []) h = refl
no-command b (k ∷ (v ∷ ts)) h = absurd (omega arith)

pub never : false ≡ true → ⊥
never e = let z : ◌≡◌ {A = ℕ} 0 1 = cc in omega arith

-- a first record takes two bytes
pub two-of-kind : (kind : ℕ) (ts : List ℕ) → is_kind kind ts ≡ true → 2 ≤ length ts
two-of-kind kind [] e = absurd (never e)
two-of-kind kind (k ∷ []) e = absurd (never e)
two-of-kind kind (k ∷ (v ∷ ts)) e = omega arith

pub two-of-command : (b : ℕ) (ts : List ℕ) → is_command b ts ≡ true → 2 ≤ length ts
two-of-command b [] e = absurd (never e)
two-of-command b (k ∷ []) e = absurd (never e)
two-of-command b (k ∷ (v ∷ ts)) e = omega arith

-- the loop that counts
pub record Counting (kind : ℕ) (t : List ℕ) (at most k : ℕ) : Type 0 where
  pub same : run most kind (drop (2 * at) t) ≡ k + run (most - k) kind (drop (2 * (at + k)) t)
  pub within : k ≤ most

pub counting-none : (kind : ℕ) (t : List ℕ) (at most : ℕ) → Counting kind t at most 0
counting-none kind t at most =
    let a : at + 0 ≡ at = omega arith in
    let b : most - 0 ≡ most = omega arith in
    let z : (n : ℕ) → 0 + n ≡ n = λ n. omega arith in
    record { same = rw (z, a, b); within = omega arith }

module _ (kind : ℕ) (t : List ℕ) (at most k : ℕ) (c : Counting kind t at most k) where
  pub counting_more : 2 * (at + most) ≤ length t → k < most → of_kind kind (get_or t (2 * (at + k)) 0) (get_or t (2 * (at + k) + 1) 0) ≡ true → Counting kind t at most (k + 1)
  counting_more room below e =
      let turned = run-turn kind t at most k room below e in
      let same : run most kind (drop (2 * at) t) ≡ k + 1 + run (most - (k + 1)) kind (drop (2 * (at + (k + 1))) t) = omega (arith, c.same, turned) in
      record { same = same; within = omega arith }

  pub counting-stop : 2 * (at + most) ≤ length t → k < most → of_kind kind (get_or t (2 * (at + k)) 0) (get_or t (2 * (at + k) + 1) 0) ≡ false → (k ≡ run most kind (drop (2 * at) t)) × (k ≤ most)
  counting-stop room below e = (omega (arith, c.same, run-stop kind t at most k room below e), c.within)

  pub counting-end : most ≤ k → (most ≡ run most kind (drop (2 * at) t)) × (most ≤ most)
  counting-end h =
      let none : most - k ≡ 0 = omega arith in
      let last : run (most - k) kind (drop (2 * (at + k)) t) ≡ 0 = rw (none) (run_none kind (drop (2 * (at + k)) t)) in
      (omega (arith, c.same, last, c.within), omega arith)

pub counted-from : (kind : ℕ) (t : List ℕ) (at most m k : ℕ) → at ≤ length t / 2 → m ≡ min most (length t / 2 - at) → (k ≡ run m kind (drop (2 * at) t)) × (k ≤ m)
    → (k ≡ run most kind (drop (2 * at) t)) × (at + k ≤ length t / 2) × (k ≤ most)
counted-from kind t at most m k h e c =
    let left : length (drop (2 * at) t) / 2 ≡ length t / 2 - at = omega (arith, length-drop (2 * at) t) in
    let same : run m kind (drop (2 * at) t) ≡ run most kind (drop (2 * at) t) = rw (e) (run-lesser most kind (drop (2 * at) t) (length t / 2 - at) left) in
    (c.0 ∙ same, omega (arith, c.1), omega (arith, c.1))

-- a command at a place, or none
pub command-here : (b : ℕ) (t : List ℕ) (i : ℕ) → i < length t / 2 → is_command b (drop (2 * i) t) ≡ (eqb (get_or t (2 * i) 0) 0 && eqb (get_or t (2 * i + 1) 0) b)
command-here b t i h = let bound : 2 * i + 1 < length t = omega arith in rw (record-at t i bound)

pub command-past : (b : ℕ) (t : List ℕ) (i : ℕ) → length t / 2 ≤ i → is_command b (drop (2 * i) t) ≡ false
command-past b t i h = no-command b (drop (2 * i) t) (omega (arith, length-drop (2 * i) t))
