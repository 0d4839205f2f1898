-- The premises of `FromPowerOn` are met together, from T1's own parameter page on.
-- Assumes nothing.
use Rattle.std.specs.Prelude.{Ok}
use mathlib.Core.Path.{◌≡◌, refl, sym, subst}
use mathlib.Core.Bool.{true}
use lib.ListN.{length}
use Rattle.target.specs.declared.Geometry.{Geometry}
use Rattle.target.specs.declared.Sequence.TheVariants.{Idle}
use Rattle.power.specs.Power.{power_answer}
use Rattle.thm_demands.specs.Runs.{after}
use Rattle.thm_cases.specs.Parts.{t1}
use Rattle.thm_cases.proofs.Cases.{computes}
use Rattle.thm_stations.specs.Mixture.{Mixture}
use Rattle.thm_stations.specs.LostPreset as preset
use Rattle.thm_stations.specs.LostPreset.{events}
use Rattle.thm_stations.specs.Reached.{ready_t1, set_up_t1, PremisesMet}
use Rattle.thm_stations.proofs.LostPreset.{mixture}
use Rattle.thm_stations.proofs.Reached.{from-power-on}

-- T1's geometry, as power-on reads it from the page
geometry-t1 : ready_t1.target.geometry ≡ preset.t1
unfolding computes after
geometry-t1 = refl

met-mixture : Mixture ready_t1.target.geometry events
met-mixture = subst (λ (g : Geometry). Mixture g events) (sym geometry-t1) mixture

met-accepted : power_answer t1.params (length t1.array) (length t1.registers) t1.counts t1.flags ≡ Ok tt
unfolding computes
met-accepted = refl

met_start : (ready_t1.target.seen ≡ true) × (ready_t1.target.decoder.sequence ≡ Idle) × (ready_t1.target.clear ≡ true)
unfolding computes after
met_start = (refl, refl, refl)

pub premises-met : PremisesMet
premises-met = record {
  accepted = met-accepted;
  seen = met_start.0;
  closed = met_start.1;
  clear = met_start.2;
  mixture = met-mixture;
  isolated = from-power-on t1.params 0x68 t1.array t1.registers t1.counts t1.flags met-accepted set_up_t1 ready_t1 refl met_start.0 met_start.1 met_start.2 events met-mixture;
}
