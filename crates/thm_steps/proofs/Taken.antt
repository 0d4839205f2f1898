-- What an accepted event leaves, with the place reached and the output put in as they are known.
-- Assumes nothing.
use mathlib.Core.Path.{◌≡◌, refl, sym, ap, subst, ◌∙◌}
use mathlib.Core.Bool.{Bool, true, false, ◌&&◌, ◌||◌, not, false≢true}
use mathlib.Core.List.{List}
use Prim.Native.Nat.{ℕ}
use native.Mathlib.Omega.{arith}
use lib.Dec.{eqb}
use Rattle.target.specs.Pick.{pick}
use Rattle.target.specs.Numbers.{number_of}
use Rattle.target.specs.Commands.{second_of}
use Rattle.target.specs.Views.{ending, ended_with}
use Rattle.target.specs.Place.{is_ended, takes_command, command_fits}
use Rattle.target.specs.declared.Column.{Column}
use Rattle.target.specs.declared.Row.{Row}
use Rattle.target.specs.declared.First.{First}
use Rattle.target.specs.declared.Event.{Event}
use Rattle.target.specs.declared.Target.{Target}
use Rattle.target.specs.declared.Sequence.{Sequence}
use Rattle.target.specs.declared.Sequence.TheVariants.{Idle, Columns, Rows, Single, Due, Filling, Moving, Setting}
use Rattle.target.specs.declared.Output.{Output}
use Rattle.target.specs.declared.Refusal.{Refusal}
use Rattle.target.specs.declared.Refusal.TheVariants.{NotUsable}
use Rattle.target.specs.declared.Reply.TheVariants as reply
use Rattle.rules.specs.Rules.{verdict, fits, misplaced}
use Rattle.rules.proofs.Passed.{all-passed}
use Rattle.effects.specs.Effects.{target_refused}
use Rattle.step.specs.Step.{Buffers, Outcome, reply_of, accepted_by, accepted, by_verdict, steady, step_of}
use Rattle.thm_kept.specs.Kept.{lets_pass}
use Rattle.thm_kept.proofs.Kept.{step-steady}
use Rattle.thm_steps.specs.Steps.{command, Taken, RefusedWith, Live}
use Rattle.thm_steps.proofs.Places.{by-ending}
use Rattle.std.specs.Prelude.{Err, None, Ok, Option, Result}
use Rattle.target.specs.declared.views.Ended.{Ended}
use Rattle.target.specs.declared.Second.{Second}

-- the record with this mark of the first FFh, this place reached and this output; what is kept stays
abbrev pub put : Target → Bool → Sequence → Output → Target
put t seen s o = record {
  powered = t.powered;
  geometry = t.geometry;
  words = t.words;
  ids = t.ids;
  high = t.high;
  clear = t.clear;
  seen = seen;
  selected = t.selected;
  luns = t.luns;
  decoder = record { sequence = s; output = o; kept = t.decoder.kept };
}

pub at_place : (t : Target) (s : Sequence) → t.decoder.sequence ≡ s → t ≡ put t t.seen s t.decoder.output
at_place t s h = ap (λ (x : Sequence). put t t.seen x t.decoder.output) h

pub seen_at : (t : Target) (s : Sequence) → t.seen ≡ true → t.decoder.sequence ≡ s → t ≡ put t true s t.decoder.output
seen_at t s k h = at_place t s h ∙ ap (λ (x : Bool). put t x s t.decoder.output) k

-- an accepted event's reply is no refusal
no-refusal : (x : Bool) (v : ℕ) (q : Refusal) → pick x (reply.Byte v) reply.Accepted ≡ reply.Refused q → ⊥
no-refusal true v q h = let z : ◌≡◌ {A = ℕ} 0 1 = cc in omega arith
no-refusal false v q h = let z : ◌≡◌ {A = ℕ} 0 1 = cc in omega arith

-- a test that a second one rules out
pub and_none : (a : Bool) → (a && false) ≡ false
and_none true = refl
and_none false = refl

module _ (t : Target) (e : Event) (params : List ℕ) (b : Buffers) (flags : List ℕ) where
  by-verdict : (v : Result Unit Refusal) → ((q : Refusal) → (by_verdict v t e params b flags).reply ≡ reply.Refused q → ⊥) → v ≡ (Ok tt)
  unfolding by_verdict
  by-verdict (Ok tt) h = refl
  by-verdict (Err r) h = absurd (h r refl)

  by-usable : (ok : Bool) → ((q : Refusal) → (pick ok (steady t e params b flags) (record { reply = reply.Refused NotUsable; target = t; buffers = b })).reply ≡ reply.Refused q → ⊥)
      → (ok ≡ true) × (verdict t e ≡ (Ok tt))
  unfolding steady
  by-usable true h = (refl, by-verdict (verdict t e) h)
  by-usable false h = absurd (h NotUsable refl)

  pub taken : Taken t params b flags e → (lets_pass t params b flags ≡ true) × (verdict t e ≡ (Ok tt))
  unfolding step_of
  taken h = by-usable (lets_pass t params b flags) h

  -- by its verdict, where rule 13 lets pass
  pub decided : (v : Result Unit Refusal) → lets_pass t params b flags ≡ true → verdict t e ≡ v → step_of t e params b flags ≡ by_verdict v t e params b flags
  unfolding steady
  decided v ok h = step-steady t e params b flags ok ∙ ap (λ (x : Result Unit Refusal). by_verdict x t e params b flags) h

  pub accepts : lets_pass t params b flags ≡ true → verdict t e ≡ (Ok tt) → step_of t e params b flags ≡ accepted t e params b flags
  unfolding by_verdict
  accepts ok h = decided (Ok tt) ok h

  pub refuses : (r : Refusal) (n : ℕ) → number_of r ≡ n → lets_pass t params b flags ≡ true → verdict t e ≡ Err r → RefusedWith t params b flags n e
  unfolding by_verdict
  refuses r n same ok h = (r, (ap (λ (o : Outcome). o.reply) (decided (Err r) ok h), same))

  -- a refusal is the verdict's where rule 13 lets pass, and else 13, which changes nothing
  by-refusal : (v : Result Unit Refusal) (q : Refusal) → (by_verdict v t e params b flags).reply ≡ reply.Refused q → v ≡ Err q
  unfolding by_verdict accepted accepted_by reply_of
  by-refusal (Ok tt) q h = absurd (no-refusal (eqb e.kind 3) _ q h)
  by-refusal (Err r) q h = let is : reply.Refused r ≡ reply.Refused q = h in cc

  pub refused-by : (q : Refusal) → (step_of t e params b flags).reply ≡ reply.Refused q → lets_pass t params b flags ≡ true → verdict t e ≡ Err q
  unfolding steady
  refused-by q h ok = by-refusal (verdict t e) q (sym (ap (λ (o : Outcome). o.reply) (step-steady t e params b flags ok)) ∙ h)

  pub not-usable : lets_pass t params b flags ≡ false → step_of t e params b flags ≡ record { reply = reply.Refused NotUsable; target = t; buffers = b }
  unfolding step_of
  not-usable h = ap (λ (x : Bool). pick x (steady t e params b flags) (record { reply = reply.Refused NotUsable; target = t; buffers = b })) h

  -- and a refusal leaves the buffers and the LUN records
  abbrev Leaves : Outcome → Type 0
  Leaves o = (o.buffers ≡ b) × (o.target.luns ≡ t.luns)

  verdict-leaves : (v : Result Unit Refusal) (q : Refusal) → (by_verdict v t e params b flags).reply ≡ reply.Refused q → Leaves (by_verdict v t e params b flags)
  unfolding by_verdict accepted accepted_by reply_of target_refused
  verdict-leaves (Ok tt) q h = absurd (no-refusal (eqb e.kind 3) _ q h)
  verdict-leaves (Err r) q h = (refl, refl)

  usable-leaves : (ok : Bool) (q : Refusal) → (pick ok (steady t e params b flags) (record { reply = reply.Refused NotUsable; target = t; buffers = b })).reply ≡ reply.Refused q
      → Leaves (pick ok (steady t e params b flags) (record { reply = reply.Refused NotUsable; target = t; buffers = b }))
  unfolding steady
  usable-leaves true q h = verdict-leaves (verdict t e) q h
  usable-leaves false q h = (refl, refl)

  pub left-refused : (q : Refusal) → (step_of t e params b flags).reply ≡ reply.Refused q
      → ((step_of t e params b flags).buffers ≡ b) × ((step_of t e params b flags).target.luns ≡ t.luns)
  unfolding step_of
  left-refused q h = usable-leaves (lets_pass t params b flags) q h

  pub left_by : Taken t params b flags e → step_of t e params b flags ≡ accepted t e params b flags
  left_by h = accepts (taken h).0 (taken h).1

  -- the same with the place put in
  pub left_at : (s : Sequence) → t.decoder.sequence ≡ s → Taken t params b flags e → step_of t e params b flags ≡ accepted (put t t.seen s t.decoder.output) e params b flags
  left_at s k h = left_by h ∙ ap (λ (x : Target). accepted x e params b flags) (at_place t s k)

-- a command that is no second command is accepted with no sequence open alone
not-ended : (k : Option Second) (f : First) (c : Column) (r : Row) → k ≡ None → is_ended (ended_with k f c r) ≡ false
not-ended k f c r h = rw (h)

ends-nothing : (s : Sequence) (v : ℕ) → second_of v ≡ None → is_ended (ending s v) ≡ false
ends-nothing s v h = by-ending (λ (x : Option Ended). is_ended x ≡ false) v refl (λ f c r. not-ended (second_of v) f c r h) s

pub fits-idle : (s : Sequence) (v : ℕ) → second_of v ≡ None → command_fits s v ≡ true → s ≡ Idle
fits-idle Idle v h k = refl
fits-idle (Columns x) v h k = absurd (false≢true k)
fits-idle (Rows x) v h k = absurd (false≢true k)
fits-idle (Single f) v h k = absurd (false≢true k)
fits-idle (Due x) v h k = absurd (false≢true (sym (ends-nothing (Due x) v h) ∙ k))
fits-idle (Filling x) v h k = absurd (false≢true (sym (ends-nothing (Filling x) v h) ∙ k))
fits-idle (Moving x) v h k = absurd (false≢true k)
fits-idle (Setting x) v h k = absurd (false≢true k)

not-true-not : (a : Bool) → not a ≡ false → a ≡ true
not-true-not true h = refl
not-true-not false h = absurd (false≢true (sym h))

module _ (t : Target) (params : List ℕ) (b : Buffers) (flags : List ℕ) where
  -- the verdict at a place, once the first FFh has come
  pub verdict-at : (s : Sequence) (e : Event) → t.decoder.sequence ≡ s → Live t params b flags → verdict t e ≡ verdict (put t true s t.decoder.output) e
  verdict-at s e h live = ap (λ (x : Target). verdict x e) (seen_at t s live.seen h)

  pub command-fits : (v : ℕ) → eqb v 0xff ≡ false → Taken t params b flags (command v) → command_fits t.decoder.sequence v ≡ true
  unfolding misplaced fits
  command-fits v other h =
      let placed = not-true-not (takes_command t.decoder.sequence v) (all-passed t (command v) (taken t (command v) params b flags h).1).rule-3 in
      subst (λ (x : Bool). (x || command_fits t.decoder.sequence v) ≡ true) other placed

  pub idle-before : (v : ℕ) → eqb v 0xff ≡ false → second_of v ≡ None → Taken t params b flags (command v) → t.decoder.sequence ≡ Idle
  idle-before v other none h = fits-idle t.decoder.sequence v none (command-fits v other h)

  -- so a first command that is accepted finds no sequence open
  pub left-first : (v : ℕ) → eqb v 0xff ≡ false → second_of v ≡ None → Taken t params b flags (command v)
      → step_of t (command v) params b flags ≡ accepted (put t t.seen Idle t.decoder.output) (command v) params b flags
  left-first v other none h = left_at t (command v) params b flags Idle (idle-before v other none h) h
