-- Rule 13 is kept, as specs/Kept.antt states it: every part of the record stays sound, and every length as it was.
--     steady-usable    over the step that relies on it
--     step-usable      over `step_of`
-- Assumes nothing.
use mathlib.Core.Path.{◌≡◌, refl}
use mathlib.Core.Bool.{true, false, ◌&&◌, not}
use mathlib.Core.List.{List}
use Prim.Native.Nat.{ℕ, ◌<◌}
use lib.ListN.{length}
use lib.Dec.{eqb, ltb}
use borrow.Author.Tests.{ltb-true, lt-ltb}
use Rattle.target.specs.Events.{is_bus, bad_record}
use Rattle.target.specs.Luns.{works}
use Rattle.target.specs.Views.{completed, taking}
use Rattle.target.specs.Place.{put_out}
use Rattle.target.specs.Sizes.{in_limits, sized}
use Rattle.target.specs.declared.Event.{Event}
use Rattle.target.specs.declared.Decoder.{Decoder}
use Rattle.target.specs.declared.Target.{Target}
use Rattle.target.specs.declared.Findings.{Findings}
use Rattle.target.proofs.Both.{both, neither, meant}
use Rattle.target.proofs.Limits.{limits}
use Rattle.rules.specs.Rules.{beyond, data_ended, output_ended, unoffered, out_of_range, not_offered, past_end, not_working, verdict}
use Rattle.rules.proofs.Passed.{Passed, all-passed}
use Rattle.effects.specs.Effects.{dropped, work_of, target_after, target_refused}
use Rattle.step.specs.Usable.{words_sound, marks_sound, sequence_sound, output_sound, kept_sound, record_sound, usable}
use Rattle.step.specs.Buffers.{findings}
use Rattle.step.specs.Step.{Buffers, worked, accepted_by, accepted, by_verdict, steady, step_of}
use Rattle.step.proofs.Sound.{sound, put-out-sound, passes}
use Rattle.step.proofs.WorkReady.{work-ready}
use Rattle.thm_kept.specs.Kept.{lets_pass, Kept}
use Rattle.thm_kept.proofs.Choice.{by-pick, and-true, then-not}
use Rattle.thm_kept.proofs.Sequences.{sequence-kept}
use Rattle.thm_kept.proofs.Outputs.{output-kept, memory_kept, selected-kept}
use Rattle.thm_kept.proofs.Marks.{marks-kept}
use Rattle.thm_kept.proofs.Lengths.{array-length, registers-length, counts-length}
use Rattle.std.specs.Prelude.{Err, Ok, Result}
use Rattle.target.specs.declared.Refusal.{Refusal}

-- a record with sound parts is sound
pub all_sound : (t : Target) → t.powered ≡ true → in_limits t.geometry ≡ true → words_sound t.geometry t.words ≡ true → t.selected < t.geometry.luns → marks_sound t.geometry t.luns ≡ true → sequence_sound t.geometry t.decoder.sequence ≡ true → output_sound t.geometry t.decoder.output ≡ true → kept_sound t.geometry t.decoder.kept ≡ true → record_sound t ≡ true
unfolding record_sound
all_sound t a b c d e f h k =
    let g = t.geometry in
    let w = words_sound g t.words in
    let l = ltb t.selected g.luns in
    let m = marks_sound g t.luns in
    let s = sequence_sound g t.decoder.sequence in
    let o = output_sound g t.decoder.output in
    and-true (t.powered && in_limits g && w && l && m && s && o) (kept_sound g t.decoder.kept)
    (and-true (t.powered && in_limits g && w && l && m && s) o
    (and-true (t.powered && in_limits g && w && l && m) s
    (and-true (t.powered && in_limits g && w && l) m
    (and-true (t.powered && in_limits g && w) l
    (and-true (t.powered && in_limits g) w (and-true t.powered (in_limits g) a b) c)
    (lt-ltb _ _ d))
    e)
    f)
    h)
    k

-- what an accepted event has passed, by its kind
module _ (t : Target) (e : Event) (p : Passed t e) where
  pub near : eqb e.kind 1 ≡ true → beyond t.geometry (completed t.decoder.sequence e.value) ≡ false
  unfolding out_of_range
  near is = then-not (eqb e.kind 1) _ p.rule-4 is

  pub taken : eqb e.kind 2 ≡ true → (data_ended t.geometry (taking t.decoder.sequence) ≡ false) × (unoffered t.words (taking t.decoder.sequence) e.value ≡ false)
  unfolding past_end not_offered
  taken is = (
    then-not (eqb e.kind 2) _ (neither (eqb e.kind 2 && data_ended t.geometry (taking t.decoder.sequence)) (eqb e.kind 3 && output_ended t.geometry (put_out t.decoder)) p.rule-8).0 is,
    then-not (eqb e.kind 2) _ p.rule-9 is,
  )

  pub more : eqb e.kind 3 ≡ true → output_ended t.geometry (put_out t.decoder) ≡ false
  unfolding past_end
  more is =
      then-not (eqb e.kind 3) _ (neither (eqb e.kind 2 && data_ended t.geometry (taking t.decoder.sequence)) (eqb e.kind 3 && output_ended t.geometry (put_out t.decoder)) p.rule-8).1 is

  pub finishes : eqb e.kind 4 ≡ true → e.value < t.geometry.luns
  unfolding not_working
  finishes is =
      let named = ltb e.value t.geometry.luns in
      let busy = works t.luns e.value in
      ltb-true _ _ (both named busy (meant (eqb e.kind 4) (named && busy) p.rule-10 is)).0

pub accepted-sound : (t : Target) (e : Event) (found : Findings) → record_sound t ≡ true → Passed t e → record_sound (target_after t e found) ≡ true
unfolding target_after
accepted-sound t e found h p =
    let k = sound t h in
    let g = t.geometry in
    let m = limits g k.limited in
    all_sound _ k.powered k.limited k.words
    (selected-kept g t.selected t.decoder.sequence e m.luns-min k.selected k.sequence (near t e p))
    (marks-kept g t.luns t.decoder.sequence e found m.luns-max k.sequence k.marks (near t e p) (finishes t e p))
    (sequence-kept g t.words t.decoder e k.sequence (near t e p) (taken t e p))
    (output-kept g t.selected t.decoder e k.selected k.sequence k.output (put-out-sound t k) (near t e p) (more t e p))
    (memory_kept g t.decoder e k.output k.kept)

pub refused-sound : (t : Target) (e : Event) → record_sound t ≡ true → record_sound (target_refused t e) ≡ true
unfolding target_refused
refused-sound t e h =
    let k = sound t h in
    let g = t.geometry in
    all_sound _ k.powered k.limited k.words k.selected k.marks
    (by-pick (λ (d : Decoder). sequence_sound g d.sequence ≡ true) (is_bus e && not (bad_record e)) dropped t.decoder (λ _. refl) (λ _. k.sequence))
    (by-pick (λ (d : Decoder). output_sound g d.output ≡ true) (is_bus e && not (bad_record e)) dropped t.decoder (λ _. refl) (λ _. k.output))
    (by-pick (λ (d : Decoder). kept_sound g d.kept ≡ true) (is_bus e && not (bad_record e)) dropped t.decoder (λ _. refl) (λ _. k.kept))

-- rule 13 lets pass
abbrev pub Fit : Target → List ℕ → Buffers → List ℕ → Type 0
Fit t params b flags = lets_pass t params b flags ≡ true

-- a sound record of the same geometry, with buffers of the same lengths, passes too
pub refit : (t n : Target) (params : List ℕ) (b c : Buffers) (flags : List ℕ) → Fit t params b flags → record_sound n ≡ true → n.geometry ≡ t.geometry → length c.array ≡ length b.array → length c.registers ≡ length b.registers → length c.counts ≡ length b.counts → Fit n params c flags
unfolding usable
refit t n params b c flags h k same x y z =
    let rest = (both (record_sound t) (eqb (length params) 256 && sized t.geometry (length b.array) (length b.registers) (length b.counts) (length flags)) h).1 in
    and-true (record_sound n) (eqb (length params) 256 && sized n.geometry (length c.array) (length c.registers) (length c.counts) (length flags)) k
    (rw (same, x, y, z) rest)

module _ (t : Target) (e : Event) (params : List ℕ) (b : Buffers) (flags : List ℕ) (h : Fit t params b flags) where
  fit-accepted : verdict t e ≡ (Ok tt) → (found : Findings) → found ≡ findings t.geometry t.words t.decoder.sequence e b.counts flags → Fit (accepted_by t e params b found).target params (accepted_by t e params b found).buffers flags
  unfolding accepted_by worked target_after
  fit-accepted v found told =
      let u = passes t params b.array b.registers b.counts flags h in
      let g = t.geometry in
      let w = work_of g t.clear t.decoder.sequence e found in
      let ready = work-ready t e b.counts flags u.record-sound v found told in
      refit t (target_after t e found) params b (worked g w b) flags h (accepted-sound t e found u.record-sound (all-passed t e v)) refl
      (array-length g b.array b.registers b.counts u.sizes w ready)
      (registers-length g b.array b.registers b.counts u.sizes w ready)
      (counts-length g b.array b.registers b.counts u.sizes w ready)

  fit-verdict : (v : Result Unit Refusal) → verdict t e ≡ v → Fit (by_verdict v t e params b flags).target params (by_verdict v t e params b flags).buffers flags
  unfolding by_verdict accepted target_refused
  fit-verdict (Ok tt) told = fit-accepted told _ refl
  fit-verdict (Err r) told =
      let u = passes t params b.array b.registers b.counts flags h in
      refit t (target_refused t e) params b b flags h (refused-sound t e u.record-sound) refl refl refl refl

  pub steady-usable : Fit (steady t e params b flags).target params (steady t e params b flags).buffers flags
  unfolding steady
  steady-usable = fit-verdict (verdict t e) refl

  -- where rule 13 does not hold the step is the steady one
  pub step-steady : step_of t e params b flags ≡ steady t e params b flags
  unfolding step_of
  step-steady = rw (h)

  pub step-usable : Fit (step_of t e params b flags).target params (step_of t e params b flags).buffers flags
  step-usable = rw (step-steady) (steady-usable)

pub kept : Kept
kept t e params b flags h = step-usable t e params b flags h
