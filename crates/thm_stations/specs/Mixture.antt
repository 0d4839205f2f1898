-- Mixtures of whole jobs with finish events anywhere, who owns each event, and the order of one LUN after the other.
use Rattle.std.specs.Prelude.{ℕ, zero, suc, ◌<◌, ◌≡◌, List, [], ◌∷◌, ◌++◌, length, eqb}
use Rattle.target.specs.Pick.{pick}
use Rattle.target.specs.declared.Event.{Event}
use Rattle.target.specs.declared.Geometry.{Geometry}
use Rattle.jobs.specs.Cycles.{Cycle}
use Rattle.thm_stations.specs.Jobs.{event_of, finish_of, Job, cycles, lun_named}

-- something that belongs to a LUN
pub record Owned (A : Type 0) : Type 0 where
  pub own : ℕ
  pub it : A

-- `Mix g o cs es`: a job of LUN o is under way and cs are its cycles still to come (none: no job is under way); the events
-- es finish it and go on with whole jobs, each naming an existing LUN, and finish events of existing LUNs stand anywhere
pub data Mix (g : Geometry) : ℕ → List Cycle → List (Owned Event) → Type 0 where
  over : {o : ℕ} → Mix g o [] []
  start : {o : ℕ} {es : List (Owned Event)} (j : Job)
      → lun_named g j < g.luns → Mix g (lun_named g j) (cycles j) es → Mix g o [] es
  cycle : {o : ℕ} {c : Cycle} {cs : List Cycle} {es : List (Owned Event)} → Mix g o cs es
      → Mix g o (c ∷ cs) (record { own = o; it = event_of c } ∷ es)
  finish : {o : ℕ} {cs : List Cycle} {es : List (Owned Event)} (l : ℕ) → l < g.luns → Mix g o cs es
      → Mix g o cs (record { own = l; it = finish_of l } ∷ es)

-- a mixture: no job is under way at its start, and each is whole at its end
abbrev pub Mixture : Geometry → List (Owned Event) → Type 0
Mixture g es = Mix g 0 [] es

-- those of the l-th LUN, in their own order
unfoldable pub those : {A : Type 0} → ℕ → List (Owned A) → List (Owned A)
those l [] = []
those l (x ∷ xs) = pick (eqb x.own l) (x ∷ those l xs) (those l xs)

-- LUN 0's, then LUN 1's, and so on up to LUN n - 1's
unfoldable pub serial : {A : Type 0} → ℕ → List (Owned A) → List (Owned A)
serial zero xs = []
serial (suc n) xs = serial n xs ++ those n xs

-- a list is another in a new order that keeps each LUN's own: nothing is lost, added or moved within a LUN
pub record Reordered {A : Type 0} (xs ys : List (Owned A)) : Type 0 where
  pub each : (l : ℕ) → those l xs ≡ those l ys
  pub all : length xs ≡ length ys
