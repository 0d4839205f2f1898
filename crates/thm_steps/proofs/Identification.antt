-- "Identification", as specs/Steps.antt states it.
-- Assumes nothing.
use mathlib.Core.Path.{◌≡◌, refl, ap, ◌∙◌}
use mathlib.Core.Bool.{Bool, true, false, ◌&&◌, ◌||◌, not}
use mathlib.Core.List.{List}
use Prim.Native.Nat.{ℕ}
use lib.Dec.{eqb}
use borrow.Author.Tests.{lt-leb}
use Rattle.target.specs.Pick.{pick, or_else}
use Rattle.target.specs.Commands.{row_of}
use Rattle.target.specs.Words.{has_feature}
use Rattle.target.specs.declared.Target.{Target}
use Rattle.target.specs.declared.First.TheVariants as first
use Rattle.target.specs.declared.Sequence.TheVariants.{Single, Setting}
use Rattle.target.specs.declared.Output.{Output}
use Rattle.target.specs.declared.Output.TheVariants as output
use Rattle.target.specs.declared.Refusal.TheVariants.{OutOfRange, PastEnd, NotOffered}
use Rattle.target.specs.declared.Reply.TheVariants as reply
use Rattle.target.specs.Place.{put_out, has_output}
use Rattle.rules.specs.Rules.{verdict, before_reset, misplaced, fits, out_of_range, not_offered, past_end, output_works, output_ended}
use Rattle.rules.proofs.ByKind.{address-verdict, in-verdict}
use Rattle.effects.specs.Effects.{advanced, work_of, target_after, sequence_after, output_after, clear_after}
use Rattle.lun_records.specs.LunsAfter.{luns_after}
use Rattle.memory.specs.Memory.{kept_after}
use Rattle.step.specs.Buffers.{findings, registers_after, array_after, counts_after, output_byte}
use Rattle.step.specs.Step.{Buffers, Outcome, reply_of, worked, accepted_by, accepted}
use Rattle.thm_steps.specs.Steps.{address, data_in, data_out, RefusedWith, Gives, setting, Identification, Live}
use Rattle.thm_steps.proofs.Taken.{put, verdict-at, accepts, refuses, left_at}
use Rattle.thm_steps.proofs.Status.{puts-out, none_out, given_out}
use Rattle.std.specs.Prelude.{Err, Ok, Result}
use Rattle.target.specs.declared.Refusal.{Refusal}

-- EEh and EFh know address 01h only
only-ee : (t : Target) (v : ℕ) → eqb v 0x01 ≡ false → verdict (put t true (Single first.GetFeatures) t.decoder.output) (address v) ≡ Err OutOfRange
unfolding or_else row_of before_reset misplaced fits out_of_range
only-ee t v h = address-verdict (put t true (Single first.GetFeatures) t.decoder.output) v ∙ (rw (h))

only-ef : (t : Target) (v : ℕ) → eqb v 0x01 ≡ false → verdict (put t true (Single first.SetFeatures) t.decoder.output) (address v) ≡ Err OutOfRange
unfolding or_else row_of before_reset misplaced fits out_of_range
only-ef t v h = address-verdict (put t true (Single first.SetFeatures) t.decoder.output) v ∙ (rw (h))

-- a feature byte, by whether it is offered
module _ (t : Target) (v : ℕ) where
  abbrev by_offer : Bool → Result Unit Refusal
  by_offer x = or_else (not x) NotOffered (Ok tt)

  first-offer : (value : ℕ) → verdict (put t true (Setting (record { got = 0; value = value })) t.decoder.output) (data_in v) ≡ by_offer (eqb v 0 || eqb v 0x40 && has_feature t.words 8)
  unfolding or_else before_reset misplaced fits not_offered past_end
  first-offer value = in-verdict (put t true (Setting (record { got = 0; value = value })) t.decoder.output) v

  rest-offer : (got value : ℕ) → eqb got 0 ≡ false → eqb v 0 ≡ false → verdict (put t true (Setting (record { got = got; value = value })) t.decoder.output) (data_in v) ≡ Err NotOffered
  unfolding or_else before_reset misplaced fits not_offered past_end
  rest-offer got value h k = in-verdict (put t true (Setting (record { got = got; value = value })) t.decoder.output) v ∙ (rw (h, k))

  offers : by_offer true ≡ (Ok tt)
  unfolding or_else
  offers = refl

  offers-not : by_offer false ≡ Err NotOffered
  unfolding or_else
  offers-not = refl

module _ (t : Target) (params : List ℕ) (b : Buffers) (flags : List ℕ) where
  -- a data-out cycle gives the byte of what it puts out, which is then a place further
  pub given : (o n : Output) (v : ℕ) → put_out t.decoder ≡ o → Live t params b flags → has_output o ≡ true → output_works t.luns o ≡ false → output_ended t.geometry o ≡ false
      → output_byte t params b.registers o ≡ v → advanced o ≡ n
      → Gives t params b flags v n
  unfolding accepted accepted_by reply_of worked work_of target_after output_after registers_after array_after counts_after
  given o n v s live h k l x y =
      let p = given_out t params b flags o s live h k l in (
        ap (λ (w : Outcome). w.reply) p ∙ ap (λ (w : Output). reply.Byte (output_byte t params b.registers w)) s ∙ ap reply.Byte x,
        (ap (λ (w : Outcome). w.target.decoder.output) p ∙ ap advanced s ∙ y, ap (λ (w : Outcome). w.buffers) p),
      )

  pub ended : (o : Output) → put_out t.decoder ≡ o → Live t params b flags → has_output o ≡ true → output_works t.luns o ≡ false → output_ended t.geometry o ≡ true
      → RefusedWith t params b flags 8 data_out
  ended o s live h k l =
      refuses t data_out params b flags PastEnd 8 refl live.passes (puts-out t o live.seen s ∙ none_out t o h k l)

  pub identification : Identification t params b flags
  unfolding accepted accepted_by reply_of worked work_of target_after luns_after sequence_after output_after kept_after clear_after findings registers_after array_after counts_after output_byte row_of
  identification = record {
    ids = λ s h.
        let p = left_at t (address 0x00) params b flags (Single first.ReadId) s h in
        record { decoder = ap (λ (o : Outcome). o.target.decoder) p; luns = ap (λ (o : Outcome). o.target.luns) p; buffers = ap (λ (o : Outcome). o.buffers) p };
    maker = λ s live. given (output.Ids 0) (output.Ids 1) t.ids.maker s live refl refl refl refl refl;
    device = λ s live. given (output.Ids 1) (output.Ids 2) t.ids.device s live refl refl refl refl refl;
    no_third = λ s live. ended (output.Ids 2) s live refl refl refl;
    signature = λ s h.
        let p = left_at t (address 0x20) params b flags (Single first.ReadId) s h in
        record { decoder = ap (λ (o : Outcome). o.target.decoder) p; luns = ap (λ (o : Outcome). o.target.luns) p; buffers = ap (λ (o : Outcome). o.buffers) p };
    O = λ s live. given (output.Signature 0) (output.Signature 1) 0x4f s live refl refl refl refl refl;
    N = λ s live. given (output.Signature 1) (output.Signature 2) 0x4e s live refl refl refl refl refl;
    F = λ s live. given (output.Signature 2) (output.Signature 3) 0x46 s live refl refl refl refl refl;
    I = λ s live. given (output.Signature 3) (output.Signature 4) 0x49 s live refl refl refl refl refl;
    no-fifth = λ s live. ended (output.Signature 4) s live refl refl refl;
    page = λ s h.
        let p = left_at t (address 0x00) params b flags (Single first.ParameterPage) s h in
        record { decoder = ap (λ (o : Outcome). o.target.decoder) p; luns = ap (λ (o : Outcome). o.target.luns) p; buffers = ap (λ (o : Outcome). o.buffers) p };
    page-byte = λ at h s live. given (output.Parameters at) _ _ s live refl refl (lt-leb 768 at h) refl refl;
    page-ends = λ s live. ended (output.Parameters 768) s live refl refl refl;
    get = λ s h.
        let p = left_at t (address 0x01) params b flags (Single first.GetFeatures) s h in
        record { decoder = ap (λ (o : Outcome). o.target.decoder) p; luns = ap (λ (o : Outcome). o.target.luns) p; buffers = ap (λ (o : Outcome). o.buffers) p };
    get-only = λ v h s live. refuses t (address v) params b flags OutOfRange 4 refl live.passes (verdict-at t params b flags (Single first.GetFeatures) (address v) s live ∙ only-ee t v h);
    set-bytes = λ s h. ap (λ (o : Outcome). o.target.decoder.sequence) (left_at t (address 0x01) params b flags (Single first.SetFeatures) s h);
    set-only = λ v h s live. refuses t (address v) params b flags OutOfRange 4 refl live.passes (verdict-at t params b flags (Single first.SetFeatures) (address v) s live ∙ only-ef t v h);
    p1-out = λ s live. given (output.Feature 0) (output.Feature 1) (pick t.clear 0x40 0) s live refl refl refl refl refl;
    p2-out = λ s live. given (output.Feature 1) (output.Feature 2) 0 s live refl refl refl refl refl;
    p3-out = λ s live. given (output.Feature 2) (output.Feature 3) 0 s live refl refl refl refl refl;
    p4-out = λ s live. given (output.Feature 3) (output.Feature 4) 0 s live refl refl refl refl refl;
    four-out = λ s live. ended (output.Feature 4) s live refl refl refl;
    p1-offered = λ v value s live h.
        ap (λ (o : Outcome). o.reply) (accepts t (data_in v) params b flags live.passes
        (verdict-at t params b flags (setting 0 value) (data_in v) s live ∙ first-offer t v value ∙ ap (by_offer t v) h ∙ offers t v));
    p1-else = λ v value s live h.
        refuses t (data_in v) params b flags NotOffered 9 refl live.passes
        (verdict-at t params b flags (setting 0 value) (data_in v) s live ∙ first-offer t v value ∙ ap (by_offer t v) h ∙ offers-not t v);
    rest-zero = λ got value v h s live k.
        refuses t (data_in v) params b flags NotOffered 9 refl live.passes
        (verdict-at t params b flags (setting got value) (data_in v) s live ∙ rest-offer t v got value h k);
    first_byte = λ v value s h.
        let p = left_at t (data_in v) params b flags (setting 0 value) s h in
        (ap (λ (o : Outcome). o.target.decoder.sequence) p, ap (λ (o : Outcome). o.target.clear) p);
    second-byte = λ v value s h.
        let p = left_at t (data_in v) params b flags (setting 1 value) s h in
        (ap (λ (o : Outcome). o.target.decoder.sequence) p, ap (λ (o : Outcome). o.target.clear) p);
    third-byte = λ v value s h.
        let p = left_at t (data_in v) params b flags (setting 2 value) s h in
        (ap (λ (o : Outcome). o.target.decoder.sequence) p, ap (λ (o : Outcome). o.target.clear) p);
    fourth-byte = λ v value s h.
        let p = left_at t (data_in v) params b flags (setting 3 value) s h in
        (ap (λ (o : Outcome). o.target.decoder.sequence) p, ap (λ (o : Outcome). o.target.clear) p);
    at_once = λ v got value s h.
        let p = left_at t (data_in v) params b flags (setting got value) s h in
        (ap (λ (o : Outcome). o.target.luns) p, ap (λ (o : Outcome). o.buffers) p);
  }
