-- Demand 3 from the users' side: the start may be any state that a run from an accepted power-on reaches, after the first reset,
-- with no sequence open and program-clear on.
use Rattle.std.specs.Prelude.{◌≡◌, true, List, map, ℕ, length, Ok}
use Rattle.target.specs.declared.Event.{Event}
use Rattle.target.specs.declared.Sequence.TheVariants.{Idle}
use Rattle.power.specs.Power.{power_answer}
use Rattle.step.specs.Step.{State}
use Rattle.thm_demands.specs.Runs.{after, powered_up}
use Rattle.thm_stations.specs.Mixture.{Owned, Mixture}
use Rattle.thm_stations.specs.Isolated.{Isolated}
use Rattle.thm_stations.specs.LostPreset.{set_up, events}
use Rattle.thm_cases.specs.Parts.{t1}

abbrev pub FromPowerOn : Type 0
FromPowerOn =
    (page : List ℕ) (device : ℕ) (array registers counts flags : List ℕ)
    → power_answer page (length array) (length registers) counts flags ≡ Ok tt
    → (before : List Event) (s : State)
    → s ≡ after page flags before (powered_up page device array registers counts flags)
    → s.target.seen ≡ true → s.target.decoder.sequence ≡ Idle → s.target.clear ≡ true
    → (es : List (Owned Event)) → Mixture s.target.geometry es → Isolated page flags s es

-- The premises can be met together: T1 from its parameter page, FFh and EFh for program-clear, and the mixture of the lost preset.
abbrev pub set_up_t1 : List Event
set_up_t1 = map (λ (x : Owned Event). x.it) (set_up true)

abbrev pub ready_t1 : State
ready_t1 =
    after t1.params t1.flags set_up_t1
    (powered_up t1.params 0x68 t1.array t1.registers t1.counts t1.flags)

pub record PremisesMet : Type 0 where
  pub accepted : power_answer t1.params (length t1.array) (length t1.registers) t1.counts t1.flags ≡ Ok tt
  pub seen : ready_t1.target.seen ≡ true
  pub closed : ready_t1.target.decoder.sequence ≡ Idle
  pub clear : ready_t1.target.clear ≡ true
  pub mixture : Mixture ready_t1.target.geometry events
  -- and so demand 3 holds of it
  pub isolated : Isolated t1.params t1.flags ready_t1 events
