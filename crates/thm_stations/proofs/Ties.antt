-- What has to hold of single events so that a mixture can be taken apart by LUN. Nothing here knows a command or a rule.
-- Assumes nothing.
use mathlib.Core.Path.{◌≡◌}
use mathlib.Core.List.{List, [], ◌∷◌}
use Prim.Native.Nat.{ℕ, ◌<◌}
use Rattle.target.specs.declared.Event.{Event}
use Rattle.target.specs.declared.Decoder.{Decoder}
use Rattle.target.specs.declared.Geometry.{Geometry}
use Rattle.target.specs.declared.Sequence.TheVariants.{Idle}
use Rattle.jobs.specs.Cycles.{Cycle}
use Rattle.thm_stations.specs.Jobs.{event_of, finish_of, Job, cycles, lun_named}
use Rattle.step.specs.Step.{State}
use Rattle.thm_demands.specs.Runs.{step_at}
use Rattle.thm_stations.specs.Isolated.{next}

-- no sequence is open
abbrev pub Quiet : Decoder → Type 0
Quiet d = d.sequence ≡ Idle

pub record Ties : Type 1 where
  -- two states agree on the l-th LUN
  pub Agree : ℕ → State → State → Type 0
  -- an event of the l-th LUN does the same for that LUN in both, and nothing for any other
  pub Moves : ℕ → State → State → Event → Type 0
  -- two decoders do alike over these cycles of a job of the l-th LUN
  pub Alike : ℕ → List Cycle → Decoder → Decoder → Type 0

abbrev pub decoder_of : State → Decoder
decoder_of s = s.target.decoder

pub record Laws (params flags : List ℕ) (g : Geometry) (t : Ties) : Type 0 where
  pub itself : {l : ℕ} {s u : State} (k : ℕ) → t.Agree l s u → t.Agree k s s
  pub flip : {l : ℕ} {s u : State} → t.Agree l s u → t.Agree l u s
  pub chain : {l : ℕ} {s u w : State} → t.Agree l s u → t.Agree l u w → t.Agree l s w
  -- an event of the l-th LUN, seen by that LUN and by another
  pub turn : {l : ℕ} {s u : State} {e : Event} → t.Moves l s u e → t.Moves l u s e
  pub answers : {l : ℕ} {s u : State} {e : Event} → t.Moves l s u e
      → (step_at params flags s e).reply ≡ (step_at params flags u e).reply
  pub both : {l : ℕ} {s u : State} {e : Event} → t.Agree l s u → t.Moves l s u e
      → t.Agree l (next params flags s e) (next params flags u e)
  pub apart : {k l : ℕ} {s u w : State} {e : Event} → (k ≡ l → ⊥) → t.Agree k s w → t.Moves l s u e
      → t.Agree k (next params flags s e) w
  -- a cycle of a job
  pub cycle : {l : ℕ} {c : Cycle} {cs : List Cycle} {s u : State} → l < g.luns → t.Agree l s u
      → t.Alike l (c ∷ cs) (decoder_of s) (decoder_of u) → t.Moves l s u (event_of c)
  pub goes : {l : ℕ} {c : Cycle} {cs : List Cycle} {s u : State} → l < g.luns → t.Agree l s u
      → t.Alike l (c ∷ cs) (decoder_of s) (decoder_of u)
      → t.Alike l cs (decoder_of (next params flags s (event_of c))) (decoder_of (next params flags u (event_of c)))
  -- a finish event
  pub finish : {l : ℕ} {s u : State} → l < g.luns → t.Agree l s u → t.Moves l s u (finish_of l)
  pub finish-decoder : {l : ℕ} {s u : State} (f : ℕ) → t.Agree l s u
      → decoder_of (next params flags s (finish_of f)) ≡ decoder_of s
  -- a job from its start, and its end
  pub begins : (j : Job) {d e : Decoder} → Quiet d → Quiet e → t.Alike (lun_named g j) (cycles j) d e
  pub rests : {l : ℕ} {d e : Decoder} → Quiet d → Quiet e → t.Alike l [] d e
  pub ends : {l : ℕ} {d e : Decoder} → t.Alike l [] d e → Quiet d × Quiet e
