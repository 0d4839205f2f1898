-- "Read", as specs/Steps.antt states it.
-- Assumes nothing.
use mathlib.Core.Path.{◌≡◌, refl, ap, ◌∙◌}
use mathlib.Core.Bool.{Bool, true, false}
use mathlib.Core.List.{List}
use Prim.Native.Nat.{ℕ, ◌<◌}
use lib.ListN.{set}
use borrow.Author.Tests.{lt-leb}
use Rattle.target.specs.Pick.{or_else}
use Rattle.target.specs.Address.{column_from, row_from, lun_of, lun_exists}
use Rattle.target.specs.Commands.{row_of, second_of, second_row}
use Rattle.target.specs.Luns.{works, copyback_at, blank_at}
use Rattle.target.specs.Sizes.{page_size}
use Rattle.target.specs.declared.Column.{Column}
use Rattle.target.specs.declared.Target.{Target}
use Rattle.target.specs.declared.First.TheVariants as first
use Rattle.target.specs.declared.Output.{Output}
use Rattle.target.specs.declared.Reply.TheVariants as reply
use Rattle.target.specs.declared.Refusal.TheVariants.{LunWorks}
use Rattle.rules.specs.Rules.{verdict, before_reset, misplaced, fits, out_of_range, lun_works, no_copyback}
use Rattle.rules.proofs.ByKind.{address-verdict}
use Rattle.effects.specs.Effects.{work_of, target_after, advanced, sequence_after, output_after, selected_after}
use Rattle.lun_records.specs.LunsAfter.{luns_after}
use Rattle.memory.specs.Memory.{kept_after}
use Rattle.step.specs.Buffers.{findings, registers_after, array_after, counts_after, output_byte}
use Rattle.step.specs.Step.{Buffers, Outcome, reply_of, worked, accepted_by, accepted}
use Rattle.thm_steps.specs.Steps.{command, address, data_out, column, due, last_row, working, Read}
use Rattle.thm_steps.proofs.Taken.{command-fits, put, verdict-at, accepts, refuses, left_by, left_at, and_none}
use Rattle.thm_steps.proofs.Places.{place-30}
use Rattle.thm_steps.proofs.Reset.{reset}
use Rattle.std.specs.Prelude.{Err, Ok}

-- the verdict on the last row cycle of 06h on a working LUN
works-06 : (t : Target) (c : Column) (low mid v : ℕ) → lun_exists t.geometry (row_from low mid v) ≡ true → works t.luns (lun_of t.geometry (row_from low mid v)) ≡ true
    → verdict (put t true (last_row first.ChangeColumnEnhanced c low mid) t.decoder.output) (address v) ≡ Err LunWorks
unfolding or_else row_of before_reset misplaced fits out_of_range lun_works
works-06 t c low mid v h k = address-verdict (put t true (last_row first.ChangeColumnEnhanced c low mid) t.decoder.output) v ∙ (rw (h, k))

-- and on the second column cycle of 05h
works-05 : (t : Target) (low v : ℕ) → (column_from low v).0 < page_size t.geometry → works t.luns t.selected ≡ true
    → verdict (put t true (column first.ChangeColumn 1 low) t.decoder.output) (address v) ≡ Err LunWorks
unfolding or_else row_of before_reset misplaced fits out_of_range lun_works
works-05 t low v h k =
    address-verdict (put t true (column first.ChangeColumn 1 low) t.decoder.output) v
    ∙ (rw (lt-leb (page_size t.geometry) (column_from low v).0 h, k))

early-05 : (t : Target) (v : ℕ) → verdict (put t true (column first.ChangeColumn 0 0) t.decoder.output) (address v) ≡ (Ok tt)
unfolding or_else row_of before_reset misplaced fits out_of_range lun_works no_copyback
early-05 t v = address-verdict (put t true (column first.ChangeColumn 0 0) t.decoder.output) v

module _ (t : Target) (params : List ℕ) (b : Buffers) (flags : List ℕ) where
  pub read : Read t params b flags
  unfolding accepted accepted_by reply_of worked work_of target_after luns_after sequence_after output_after kept_after selected_after findings registers_after array_after counts_after output_byte row_of second_of second_row
  read = record {
    only_here = λ h. place-30 t.decoder.sequence (command-fits t params b flags 0x30 refl h);
    copies = λ c r s h. ap (λ (o : Outcome). o.buffers) (left_at t (command 0x30) params b flags (due first.Read c r) s h);
    starts = λ c r s h.
        ap (λ (o : Outcome). o.target.luns) (left_at t (command 0x30) params b flags (due first.Read c r) s h)
        ∙ ap (λ (x : Bool). set t.luns (lun_of t.geometry r) (working false x (blank_at t.luns (lun_of t.geometry r)))) (and_none (copyback_at t.luns (lun_of t.geometry r)));
    puts-out = λ c r s h. ap (λ (o : Outcome). o.target.decoder) (left_at t (command 0x30) params b flags (due first.Read c r) s h);
    byte = λ l c s h.
        let p = left_by t data_out params b flags h in (
          ap (λ (o : Outcome). o.reply) p ∙ ap (λ (o : Output). reply.Byte (output_byte t params b.registers o)) s,
          ap (λ (o : Outcome). o.target.decoder.output) p ∙ ap advanced s,
        );
    needs-ready = λ c low mid v s live h k.
        refuses t (address v) params b flags LunWorks 5 refl live.passes
        (verdict-at t params b flags (last_row first.ChangeColumnEnhanced c low mid) (address v) s live ∙ works-06 t c low mid v h k);
    there = λ c r s h.
        let p = left_at t (command 0xe0) params b flags (due first.ChangeColumnEnhanced c r) s h in
        (ap (λ (o : Outcome). o.target.decoder) p, ap (λ (o : Outcome). o.target.luns) p, ap (λ (o : Outcome). o.buffers) p);
    selected = λ c r s h.
        let p = left_at t (command 0xe0) params b flags (due first.ChangeColumn c r) s h in
        (ap (λ (o : Outcome). o.target.decoder) p, ap (λ (o : Outcome). o.target.luns) p, ap (λ (o : Outcome). o.buffers) p);
    busy = λ low v s live h k.
        refuses t (address v) params b flags LunWorks 5 refl live.passes
        (verdict-at t params b flags (column first.ChangeColumn 1 low) (address v) s live ∙ works-05 t low v h k);
    not-before = λ v s live.
        ap (λ (o : Outcome). o.reply) (accepts t (address v) params b flags live.passes
        (verdict-at t params b flags (column first.ChangeColumn 0 0) (address v) s live ∙ early-05 t v));
    selects = λ f c low mid v s h. ap (λ (o : Outcome). o.target.selected) (left_at t (address v) params b flags (last_row f c low mid) s h);
    selects-first = λ ok. ap (λ (o : Outcome). o.target.selected) (reset t params b flags ok);
  }
