-- Every run from an accepted power-on keeps four LUN records and rule 13, so demand 3 holds from whatever state it reaches.
-- Assumes nothing.
use mathlib.Core.Path.{◌≡◌, refl, sym, subst, ◌∙◌}
use mathlib.Core.Bool.{Bool, true, false}
use mathlib.Core.List.{List, [], ◌∷◌}
use Prim.Native.Nat.{ℕ}
use lib.ListN.{length, length-set}
use lib.Dec.{eqb}
use Rattle.target.specs.Pick.{pick}
use Rattle.target.specs.Commands.{second_row, closes_copyback}
use Rattle.target.specs.Events.{is_reset}
use Rattle.target.specs.Luns.{all_readied}
use Rattle.target.specs.Views.{completed, ending}
use Rattle.target.specs.declared.Event.{Event}
use Rattle.target.specs.declared.Findings.{Findings}
use Rattle.target.specs.declared.Geometry.{Geometry}
use Rattle.target.specs.declared.Lun.{Lun}
use Rattle.target.specs.declared.Reply.TheVariants as reply
use Rattle.target.specs.declared.Refusal.TheVariants as refusal
use Rattle.target.specs.declared.Sequence.{Sequence}
use Rattle.target.specs.declared.Target.{Target}
use Rattle.target.specs.declared.views.Given.{Given}
use Rattle.target.specs.declared.views.Given.TheVariants as given
use Rattle.rules.specs.Rules.{verdict}
use Rattle.lun_records.specs.LunsAfter.{ended_luns, addressed_luns, finished, luns_after}
use Rattle.effects.specs.Effects.{target_after, target_refused}
use Rattle.power.specs.Power.{powered_of}
use Rattle.step.specs.Usable.{usable}
use Rattle.step.specs.Step.{Buffers, steady, by_verdict, accepted, accepted_by, step_of, State}
use Rattle.thm_kept.proofs.Choice.{by-pick}
use Rattle.thm_demands.specs.Runs.{after, powered_up, left, step_at}
use Rattle.thm_demands.proofs.Promised.{powered-fit, run-fit}
use Rattle.thm_stations.specs.Isolated.{Fine}
use Rattle.thm_stations.specs.Reached.{FromPowerOn}
use Rattle.thm_stations.proofs.Isolation.{isolation}
use Rattle.std.specs.Prelude.{Err, None, Ok, Option, Result, Some}
use Rattle.target.specs.declared.views.Ended.{Ended}
use Rattle.target.specs.declared.Refusal.{Refusal}

-- as many LUN records as before
ended-count : (g : Geometry) (luns : List Lun) (x : Option Ended) (found : Findings)
    → length (ended_luns g luns x found) ≡ length luns
ended-count g luns None found = refl
ended-count g luns (Some k) found =
    by-pick (λ (y : List Lun). length y ≡ length luns) (second_row k.second).starts _ luns (λ _. length-set luns _ _) (λ _. refl)

addressed-count : (g : Geometry) (luns : List Lun) (x : Option Given) → length (addressed_luns g luns x) ≡ length luns
addressed-count g luns None = refl
addressed-count g luns (Some (given.Column k)) = refl
addressed-count g luns (Some (given.Row k)) =
    by-pick (λ (y : List Lun). length y ≡ length luns) (closes_copyback k.first) _ luns (λ _. length-set luns _ _) (λ _. refl)
addressed-count g luns (Some (given.Single k)) = refl

luns-four : (g : Geometry) (luns : List Lun) (s : Sequence) (e : Event) (found : Findings) → length luns ≡ 4
    → length (luns_after g luns s e found) ≡ 4
unfolding luns_after
luns-four g luns s e found h =
    let l2 = pick (eqb e.kind 4) (finished luns e.value) luns in
    let l1 = pick (eqb e.kind 1) (addressed_luns g luns (completed s e.value)) l2 in
    let l0 = pick (eqb e.kind 0) (ended_luns g luns (ending s e.value) found) l1 in
    by-pick (λ (x : List Lun). length x ≡ 4) (is_reset e) (all_readied luns) l0 (λ _. refl)
    (λ _. by-pick (λ (x : List Lun). length x ≡ 4) (eqb e.kind 0) (ended_luns g luns (ending s e.value) found) l1 (λ _. ended-count g luns (ending s e.value) found ∙ h)
    (λ _. by-pick (λ (x : List Lun). length x ≡ 4) (eqb e.kind 1) (addressed_luns g luns (completed s e.value)) l2 (λ _. addressed-count g luns (completed s e.value) ∙ h)
    (λ _. by-pick (λ (x : List Lun). length x ≡ 4) (eqb e.kind 4) (finished luns e.value) luns (λ _. length-set luns _ _ ∙ h) (λ _. h))))

module _ (t : Target) (e : Event) (page : List ℕ) (b : Buffers) (flags : List ℕ) (h : length t.luns ≡ 4) where
  verdict-four : (v : Result Unit Refusal) → length (by_verdict v t e page b flags).target.luns ≡ 4
  unfolding by_verdict accepted accepted_by target_after target_refused
  verdict-four (Ok tt) = luns-four t.geometry t.luns t.decoder.sequence e _ h
  verdict-four (Err r) = h

  pick-four : (ok : Bool)
      → length (pick ok (steady t e page b flags) (record { reply = reply.Refused refusal.NotUsable; target = t; buffers = b })).target.luns ≡ 4
  unfolding steady
  pick-four true = verdict-four (verdict t e)
  pick-four false = h

  step-four : length (step_of t e page b flags).target.luns ≡ 4
  unfolding step_of
  step-four =
      pick-four (usable t (length page) (length b.array) (length b.registers) (length b.counts) (length flags))

run-four : (page flags : List ℕ) (es : List Event) (s : State) → length s.target.luns ≡ 4
    → length (after page flags es s).target.luns ≡ 4
unfolding after
run-four page flags [] s h = h
run-four page flags (e ∷ es) s h =
    run-four page flags es (left (step_at page flags s e)) (step-four s.target e page s.buffers flags h)

powered-four : (page : List ℕ) (device : ℕ) (counts flags : List ℕ) → length (powered_of page device counts flags).luns ≡ 4
unfolding powered_of
powered-four page device counts flags = refl

pub from-power-on : FromPowerOn
from-power-on page device array registers counts flags on before s at seen closed clear es m =
    let begun-at = powered_up page device array registers counts flags in
    let fine : Fine page flags (after page flags before begun-at) = record {
      passes = run-fit page device array registers counts flags on before begun-at (powered-fit page device array registers counts flags on);
      four = run-four page flags before begun-at (powered-four page device counts flags);
    } in
    isolation page flags s es (record { fine = subst (λ (x : State). Fine page flags x) (sym at) fine; reset = seen; closed = closed; clear = clear }) m
