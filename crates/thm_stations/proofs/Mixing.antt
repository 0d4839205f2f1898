-- A mixture, seen from one LUN: what its events are told and what they leave there is what they are told and leave alone.
-- Assumes nothing.
use mathlib.Core.Path.{◌≡◌, refl, sym, ap, ◌∙◌}
use mathlib.Core.List.{List, [], ◌∷◌}
use Prim.Native.Nat.{ℕ, ◌<◌}
use native.Mathlib.Decide.{ℕ_discrete}
use Rattle.target.specs.declared.Event.{Event}
use Rattle.target.specs.declared.Decoder.{Decoder}
use Rattle.target.specs.declared.Geometry.{Geometry}
use Rattle.jobs.specs.Cycles.{Cycle}
use Rattle.thm_stations.specs.Jobs.{event_of, finish_of, Job, cycles, lun_named}
use Rattle.thm_stations.specs.Mixture.{Owned, those, Mix, over, start, cycle, finish}
use Rattle.step.specs.Step.{State}
use Rattle.thm_demands.specs.Runs.{step_at, after}
use Rattle.thm_stations.specs.Isolated.{Told, next, log, end}
use Rattle.thm_stations.proofs.Sorting.{those-hit, those-miss}
use Rattle.thm_stations.proofs.Ties.{Quiet, Ties, decoder_of, Laws}

module _ (params flags : List ℕ) (t : Ties) where
  -- what is shown: s runs all the events, u the l-th LUN's
  pub record Seen (l : ℕ) (s u : State) (es : List (Owned Event)) : Type 0 where
    pub answers : those l (log params flags s es) ≡ log params flags u (those l es)
    pub agree : t.Agree l (end params flags s es) (end params flags u (those l es))
    pub elsewhere : (k : ℕ) → (k ≡ l → ⊥) → t.Agree k (end params flags u (those l es)) u
    pub quiet : Quiet (decoder_of (end params flags s es))
    pub quietʳ : Quiet (decoder_of (end params flags u (those l es)))

  module _ (g : Geometry) (laws : Laws params flags g t) (l : ℕ) where
    -- an event of the l-th LUN, and one of another
    module _ (s u : State) (x : Owned Event) (es : List (Owned Event)) where
      met : x.own ≡ l → t.Agree l s u → t.Moves l s u x.it
          → Seen l (next params flags s x.it) (next params flags u x.it) es → Seen l s u (x ∷ es)
      unfolding log end after
      met q a m p =
          let hit = those-hit l x es q in
          let told : State → Owned Told = λ w. record { own = x.own; it = record { event = x.it; reply = (step_at params flags w x.it).reply } } in
          record {
            answers = those-hit l (told s) (log params flags (next params flags s x.it) es) q
                ∙ (λ i. record { own = x.own; it = record { event = x.it; reply = laws.answers m i } } ∷ p.answers i)
                ∙ ap (log params flags u) (sym hit);
            agree = rw hit p.agree;
            elsewhere = λ k ne. rw hit (laws.chain (p.elsewhere k ne) (laws.apart ne (laws.itself k (laws.flip a)) (laws.turn m)));
            quiet = p.quiet;
            quietʳ = rw hit p.quietʳ;
          }

      passed : (x.own ≡ l → ⊥) → Seen l (next params flags s x.it) u es → Seen l s u (x ∷ es)
      unfolding log end after
      passed q p =
          let miss = those-miss l x es q in
          let told : Owned Told = record { own = x.own; it = record { event = x.it; reply = (step_at params flags s x.it).reply } } in
          record {
            answers = those-miss l told (log params flags (next params flags s x.it) es) q ∙ p.answers ∙ ap (log params flags u) (sym miss);
            agree = rw miss p.agree;
            elsewhere = rw miss p.elsewhere;
            quiet = p.quiet;
            quietʳ = rw miss p.quietʳ;
          }

    -- the two decoders while a job of LUN o is under way
    pub data Held (o : ℕ) (cs : List Cycle) (d e : Decoder) : Type 0 where
      mine : o ≡ l → t.Alike l cs d e → Held o cs d e
      other : (l ≡ o → ⊥) → t.Alike o cs d d → Quiet e → Held o cs d e

    at_rest : {o : ℕ} {d e : Decoder} → Held o [] d e → Quiet d × Quiet e
    at_rest (mine q a) = laws.ends a
    at_rest (other q a z) = ((laws.ends a).0, z)

    restart : (j : Job) {d e : Decoder} → Quiet d × Quiet e → Held (lun_named g j) (cycles j) d e
    restart j h = elim (ℕ_discrete (lun_named g j) l) [
      | yes q ↦ mine q (rw (← q) (laws.begins j h.0 h.1))
      | no q ↦ other (λ r. q (sym r)) (laws.begins j h.0 h.0) h.1
    ]

    pub project : {o : ℕ} {cs : List Cycle} {es : List (Owned Event)} → Mix g o cs es → o < g.luns → (s u : State)
        → t.Agree l s u → Held o cs (decoder_of s) (decoder_of u) → Seen l s u es
    unfolding those log end after
    project over there s u a h =
        record { answers = refl; agree = a; elsewhere = λ k ne. laws.itself k (laws.flip a); quiet = (at_rest h).0; quietʳ = (at_rest h).1 }
    project (start j jt mix) there s u a h = project mix jt s u a (restart j (at_rest h))
    project (cycle {o = o} {c = c} {es = es} mix) there s u a (mine q d) =
        let lt : l < g.luns = rw (← q) there in
        let m = laws.cycle lt a d in
        met s u (record { own = o; it = event_of c }) es q a m
        (project mix there (next params flags s (event_of c)) (next params flags u (event_of c)) (laws.both a m) (mine q (laws.goes lt a d)))
    project (cycle {o = o} {c = c} {es = es} mix) there s u a (other q d z) =
        let b = laws.itself o a in
        passed s u (record { own = o; it = event_of c }) es (λ r. q (sym r))
        (project mix there (next params flags s (event_of c)) u (laws.apart q a (laws.cycle there b d)) (other q (laws.goes there b d) z))
    project (finish {o = o} {cs = cs} {es = es} f ft mix) there s u a h = elim (ℕ_discrete f l) [
      | yes q ↦
          (let m : t.Moves l s u (finish_of f) = rw q (laws.finish (rw (← q) ft) a) in
          met s u (record { own = f; it = finish_of f }) es q a m
          (project mix there (next params flags s (finish_of f)) (next params flags u (finish_of f)) (laws.both a m) (rw (laws.finish-decoder f a, laws.finish-decoder f (laws.flip a)) h)))
      | no q ↦
          passed s u (record { own = f; it = finish_of f }) es q
          (project mix there (next params flags s (finish_of f)) u (laws.apart (λ r. q (sym r)) a (laws.finish ft (laws.itself f a))) (rw (laws.finish-decoder f a) h))
    ]
