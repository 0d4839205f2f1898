-- A mixture, run as it comes and run LUN after LUN: each LUN gets the same answers and ends the same.
-- Assumes nothing.
use mathlib.Core.Path.{◌≡◌, refl, sym, ap, ◌∙◌}
use mathlib.Core.List.{List, [], ◌∷◌, ◌++◌}
use Prim.Native.Nat.{ℕ, zero, suc, ◌≤◌, ◌<◌}
use native.Mathlib.Nat.{not-suc-le-zero}
use native.Mathlib.Omega.{arith}
use native.Mathlib.Decide.{ℕ_discrete, dec_lt}
use Rattle.target.specs.declared.Event.{Event}
use Rattle.target.specs.declared.Geometry.{Geometry}
use Rattle.thm_stations.specs.Mixture.{Owned, those, serial, Mixture}
use Rattle.step.specs.Step.{State}
use Rattle.thm_demands.specs.Runs.{step_at, after}
use Rattle.thm_stations.specs.Isolated.{Told, next, log, end}
use Rattle.thm_stations.proofs.Sorting.{Below, none, more, those-none, mix-below}
use Rattle.thm_stations.proofs.Ties.{Quiet, Ties, decoder_of, Laws}
use Rattle.thm_stations.proofs.Mixing.{Seen, mine, other, project}

module _ (params flags : List ℕ) where
  -- runs of two parts
  log-append : (s : State) (es fs : List (Owned Event))
      → log params flags s (es ++ fs) ≡ log params flags s es ++ log params flags (end params flags s es) fs
  unfolding log end after
  log-append s [] fs = refl
  log-append s (x ∷ es) fs =
      ap (λ (r : List (Owned Told)). record { own = x.own; it = record { event = x.it; reply = (step_at params flags s x.it).reply } } ∷ r)
      (log-append (next params flags s x.it) es fs)

  end-append : (s : State) (es fs : List (Owned Event))
      → end params flags s (es ++ fs) ≡ end params flags (end params flags s es) fs
  unfolding end after
  end-append s [] fs = refl
  end-append s (x ∷ es) fs = end-append (next params flags s x.it) es fs

  -- the owners in a log are those of its events
  pub log-below : {n : ℕ} {es : List (Owned Event)} (s : State) → Below n es → Below n (log params flags s es)
  unfolding log
  log-below s none = none
  log-below s (more {x = x} b bs) = more b (log-below (next params flags s x.it) bs)

  module _ (t : Ties) (g : Geometry) (laws : Laws params flags g t) (some : 0 < g.luns) (es : List (Owned Event)) (mix : Mixture g es) where
    -- the mixture seen from the l-th LUN, from two states between jobs that agree there
    pub seen : (l : ℕ) (s u : State) → t.Agree l s u → Quiet (decoder_of s) → Quiet (decoder_of u)
        → Seen params flags t l s u es
    seen l s u a q r = elim (ℕ_discrete 0 l) [
      | yes e ↦ project params flags t g laws l mix some s u a (mine e (laws.rests q r))
      | no e ↦ project params flags t g laws l mix some s u a (other (λ z. e (sym z)) (laws.rests q q) r)
    ]

    module _ (s : State) (a : t.Agree 0 s s) (q : Quiet (decoder_of s)) where
      -- after LUNs 0 to n - 1 have had their events
      record Served (n : ℕ) : Type 0 where
        pub sorted : log params flags s (serial n es) ≡ serial n (log params flags s es)
        pub quiet : Quiet (decoder_of (end params flags s (serial n es)))
        pub below : (l : ℕ) → l < n → t.Agree l (end params flags s (serial n es)) (end params flags s es)
        pub above : (l : ℕ) → n ≤ l → t.Agree l (end params flags s (serial n es)) s

      one_more : (n : ℕ) → Served n → Served (suc n)
      unfolding serial
      one_more n r =
          let u = end params flags s (serial n es) in
          let p : Seen params flags t n s u es = seen n s u (laws.flip (r.above n (omega arith))) q r.quiet in
          let ends : end params flags s (serial (suc n) es) ≡ end params flags u (those n es) = end-append s (serial n es) (those n es) in
          record {
            sorted = log-append s (serial n es) (those n es) ∙ rw (r.sorted, p.answers);
            quiet = rw ends p.quietʳ;
            below = λ l b. rw ends (elim (ℕ_discrete l n) [ yes z ↦ rw z (laws.flip p.agree) | no z ↦ laws.chain (p.elsewhere l z) (r.below l (omega arith)) ]);
            above = λ l b. rw ends (laws.chain (p.elsewhere l (λ z. omega arith)) (r.above l (omega arith)));
          }

      served : (n : ℕ) → Served n
      unfolding serial log end after
      served zero = record { sorted = refl; quiet = q; below = λ l h. absurd (not-suc-le-zero h); above = λ l h. laws.itself l a }
      served (suc n) = one_more n (served n)

      -- a LUN that does not exist stays as it was
      beyond : (l : ℕ) → g.luns ≤ l → t.Agree l (end params flags s es) s
      unfolding end after
      beyond l h =
          let p : Seen params flags t l s s es = seen l s s (laws.itself l a) q q in
          rw (those-none l (mix-below mix some) h, end, after) at p.agree

      pub sorted-answers : log params flags s (serial g.luns es) ≡ serial g.luns (log params flags s es)
      sorted-answers = (served g.luns).sorted

      pub sorted-agree : (l : ℕ) → t.Agree l (end params flags s (serial g.luns es)) (end params flags s es)
      sorted-agree l = elim (dec_lt l g.luns) [
        | yes h ↦ (served g.luns).below l h
        | no h ↦ laws.chain ((served g.luns).above l (omega arith)) (laws.flip (beyond l (omega arith)))
      ]
