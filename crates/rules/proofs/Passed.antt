-- An accepted event passed each rule: one record with a field a rule.
-- Assumes nothing.
use mathlib.Core.Path.{◌≡◌, refl}
use mathlib.Core.Bool.{Bool, true, false}
use Prim.Native.Nat.{ℕ}
use native.Mathlib.Omega.{arith}
use Rattle.target.specs.Pick.{or_else}
use Rattle.target.specs.Events.{bad_record}
use Rattle.target.specs.declared.Event.{Event}
use Rattle.target.specs.declared.Target.{Target}
use Rattle.target.specs.declared.Refusal.{Refusal}
use Rattle.rules.specs.Rules.{unknown, before_reset, misplaced, out_of_range, lun_works, no_copyback, others_busy, line_low, past_end, not_offered, not_working, line_held, rules, verdict}
use Rattle.std.specs.Prelude.{Ok, Result}

pub record Passed (t : Target) (e : Event) : Type 0 where
  pub rule-12 : bad_record e ≡ false
  pub rule-2 : before_reset t.seen e ≡ false
  pub rule-1 : unknown t.words t.decoder.sequence e ≡ false
  pub rule-3 : misplaced t.decoder e ≡ false
  pub rule-6 : others_busy t.luns t.selected e ≡ false
  pub rule-4 : out_of_range t.geometry t.decoder.sequence e ≡ false
  pub rule-9 : not_offered t.words t.decoder.sequence e ≡ false
  pub rule-5 : lun_works t.geometry t.luns t.selected t.decoder e ≡ false
  pub rule-14 : no_copyback t.geometry t.luns t.decoder.sequence e ≡ false
  pub rule-7 : line_low t.high e ≡ false
  pub rule-8 : past_end t.geometry t.decoder e ≡ false
  pub rule-10 : not_working t.geometry t.luns e ≡ false
  pub rule-11 : line_held t.luns t.decoder.sequence e ≡ false

passed : (b : Bool) (r : Refusal) (v : Result Unit Refusal) → or_else b r v ≡ (Ok tt) → (b ≡ false) × (v ≡ (Ok tt))
unfolding or_else
passed true r v h = let z : ◌≡◌ {A = ℕ} 0 1 = cc in absurd (omega arith)
passed false r v h = (refl, h)

pub all-passed : (t : Target) (e : Event) → verdict t e ≡ (Ok tt) → Passed t e
unfolding verdict rules
all-passed t e h =
    let p12 = passed _ _ _ h in
    let p2 = passed _ _ _ p12.1 in
    let p1 = passed _ _ _ p2.1 in
    let p3 = passed _ _ _ p1.1 in
    let p6 = passed _ _ _ p3.1 in
    let p4 = passed _ _ _ p6.1 in
    let p9 = passed _ _ _ p4.1 in
    let p5 = passed _ _ _ p9.1 in
    let p14 = passed _ _ _ p5.1 in
    let p7 = passed _ _ _ p14.1 in
    let p8 = passed _ _ _ p7.1 in
    let p10 = passed _ _ _ p8.1 in
    let p11 = passed _ _ _ p10.1 in
    record {
      rule-12 = p12.0;
      rule-2 = p2.0;
      rule-1 = p1.0;
      rule-3 = p3.0;
      rule-6 = p6.0;
      rule-4 = p4.0;
      rule-9 = p9.0;
      rule-5 = p5.0;
      rule-14 = p14.0;
      rule-7 = p7.0;
      rule-8 = p8.0;
      rule-10 = p10.0;
      rule-11 = p11.0;
    }
