-- "Copyback" (document 02, A1), as specs/Steps.antt states it.
-- Assumes nothing.
use mathlib.Core.Path.{◌≡◌, refl, ap, ◌∙◌}
use mathlib.Core.Bool.{Bool, true, false, ◌&&◌, not}
use mathlib.Core.List.{List}
use Prim.Native.Nat.{ℕ}
use Rattle.target.specs.Pick.{or_else}
use Rattle.target.specs.Address.{row_from, lun_of, row_exists}
use Rattle.target.specs.Words.{has_option}
use Rattle.target.specs.Commands.{row_of, first_of, second_of, second_row, class_of, offered}
use Rattle.target.specs.Luns.{works, copyback_at}
use Rattle.target.specs.declared.Column.{Column}
use Rattle.target.specs.declared.Row.{Row}
use Rattle.target.specs.declared.Target.{Target}
use Rattle.target.specs.declared.First.{First}
use Rattle.target.specs.declared.First.TheVariants as first
use Rattle.target.specs.declared.Sequence.{Sequence}
use Rattle.target.specs.declared.Sequence.TheVariants.{Idle}
use Rattle.target.specs.declared.Refusal.TheVariants.{Unknown, OutOfRange, LunWorks, NoCopyback}
use Rattle.rules.specs.Rules.{verdict, before_reset, unknown, misplaced, fits, others_busy, out_of_range, lun_works, no_copyback, line_low}
use Rattle.rules.proofs.ByKind.{command-verdict, address-verdict}
use Rattle.effects.specs.Effects.{work_of, target_after, sequence_after, output_after}
use Rattle.lun_records.specs.LunsAfter.{luns_after}
use Rattle.memory.specs.Memory.{kept_after}
use Rattle.step.specs.Buffers.{findings, registers_after, array_after, counts_after}
use Rattle.step.specs.Step.{Buffers, Outcome, reply_of, worked, accepted_by, accepted}
use Rattle.thm_steps.specs.Steps.{command, address, due, last_row, filling, Copyback}
use Rattle.thm_steps.proofs.Places.{place-35}
use Rattle.thm_steps.proofs.Taken.{command-fits, put, verdict-at, accepts, refuses, left_at, left-refused, and_none}
use Rattle.std.specs.Prelude.{Err, Ok, Result}
use Rattle.target.specs.declared.Refusal.{Refusal}

and-all : (a : Bool) → (a && true) ≡ a
and-all true = refl
and-all false = refl

-- the verdict on the last row cycle of 85h, by its row and the LUN's record
module _ (t : Target) (c : Column) (low mid v : ℕ) where
  abbrev on_row : Result Unit Refusal
  on_row = verdict (put t true (last_row first.CopybackProgram c low mid) t.decoder.output) (address v)

  abbrev lun : ℕ
  lun = lun_of t.geometry (row_from low mid v)

  beyond-85 : row_exists t.geometry (row_from low mid v) ≡ false → on_row ≡ Err OutOfRange
  unfolding or_else row_of before_reset misplaced fits out_of_range
  beyond-85 h = address-verdict (put t true (last_row first.CopybackProgram c low mid) t.decoder.output) v ∙ (rw (h))

  works-85 : row_exists t.geometry (row_from low mid v) ≡ true → works t.luns lun ≡ true → on_row ≡ Err LunWorks
  unfolding or_else row_of before_reset misplaced fits out_of_range lun_works
  works-85 there h = address-verdict (put t true (last_row first.CopybackProgram c low mid) t.decoder.output) v ∙ (rw (there, h))

  abbrev by_mark : Bool → Result Unit Refusal
  by_mark x = or_else (not x) NoCopyback (Ok tt)

  marked-85 : row_exists t.geometry (row_from low mid v) ≡ true → works t.luns lun ≡ false → on_row ≡ by_mark (copyback_at t.luns lun)
  unfolding or_else row_of before_reset misplaced fits out_of_range lun_works no_copyback
  marked-85 there h = address-verdict (put t true (last_row first.CopybackProgram c low mid) t.decoder.output) v ∙ (rw (there, h))

  lacks : by_mark false ≡ Err NoCopyback
  unfolding or_else
  lacks = refl

  has : by_mark true ≡ (Ok tt)
  unfolding or_else
  has = refl

-- on 85h inside a program
fits-85 : (t : Target) (f : First) (r : Row) (c : Column) → verdict (put t true (filling f r c) t.decoder.output) (command 0x85) ≡ (Ok tt)
unfolding or_else row_of first_of second_of second_row class_of offered before_reset unknown misplaced fits others_busy line_low
fits-85 t f r c = command-verdict (put t true (filling f r c) t.decoder.output) 0x85

-- and on 35h, and on 85h with no sequence open, where optional bit 4 is 0
module _ (t : Target) (none : has_option t.words 4 ≡ false) where
  lacks-35 : (s : Sequence) → verdict (put t true s t.decoder.output) (command 0x35) ≡ Err Unknown
  unfolding or_else row_of first_of second_of second_row class_of offered before_reset unknown
  lacks-35 s = command-verdict (put t true s t.decoder.output) 0x35 ∙ (rw (none))

  lone-85 : verdict (put t true Idle t.decoder.output) (command 0x85) ≡ Err Unknown
  unfolding or_else row_of first_of second_of second_row class_of offered before_reset unknown
  lone-85 = command-verdict (put t true Idle t.decoder.output) 0x85 ∙ (rw (none))

module _ (t : Target) (params : List ℕ) (b : Buffers) (flags : List ℕ) where
  pub copyback : Copyback t params b flags
  unfolding accepted accepted_by reply_of worked work_of target_after luns_after sequence_after output_after kept_after findings registers_after array_after counts_after row_of first_of second_of second_row
  copyback = record {
    only_here = λ h. place-35 t.decoder.sequence (command-fits t params b flags 0x35 refl h);
    copies = λ c r s h. ap (λ (o : Outcome). o.buffers) (left_at t (command 0x35) params b flags (due first.Read c r) s h);
    puts-out = λ c r s h. ap (λ (o : Outcome). o.target.decoder) (left_at t (command 0x35) params b flags (due first.Read c r) s h);
    opens = λ c r s h. ap (λ (o : Outcome). o.target.luns) (left_at t (command 0x35) params b flags (due first.Read c r) s h);
    begins = λ s h.
        let p = left_at t (command 0x85) params b flags Idle s h in
        (ap (λ (o : Outcome). o.target.decoder) p, ap (λ (o : Outcome). o.buffers) p);
    takes-data = λ c low mid v s h.
        let p = left_at t (address v) params b flags (last_row first.CopybackProgram c low mid) s h in
        (ap (λ (o : Outcome). o.target.decoder.sequence) p, ap (λ (o : Outcome). o.target.luns) p, ap (λ (o : Outcome). o.buffers) p);
    no_row = λ c low mid v s live h.
        refuses t (address v) params b flags OutOfRange 4 refl live.passes
        (verdict-at t params b flags (last_row first.CopybackProgram c low mid) (address v) s live ∙ beyond-85 t c low mid v h);
    busy = λ c low mid v s live there h.
        refuses t (address v) params b flags LunWorks 5 refl live.passes
        (verdict-at t params b flags (last_row first.CopybackProgram c low mid) (address v) s live ∙ works-85 t c low mid v there h);
    none_open = λ c low mid v s live there h k.
        refuses t (address v) params b flags NoCopyback 14 refl live.passes
        (verdict-at t params b flags (last_row first.CopybackProgram c low mid) (address v) s live ∙ marked-85 t c low mid v there h ∙ ap (by_mark t c low mid v) k ∙ lacks t c low mid v);
    one-open = λ c low mid v s live there h k.
        ap (λ (o : Outcome). o.reply) (accepts t (address v) params b flags live.passes
        (verdict-at t params b flags (last_row first.CopybackProgram c low mid) (address v) s live ∙ marked-85 t c low mid v there h ∙ ap (by_mark t c low mid v) k ∙ has t c low mid v));
    moves = λ f r c s live.
        ap (λ (o : Outcome). o.reply) (accepts t (command 0x85) params b flags live.passes
        (verdict-at t params b flags (filling f r c) (command 0x85) s live ∙ fits-85 t f r c));
    not-offered = λ live none.
        refuses t (command 0x35) params b flags Unknown 1 refl live.passes
        (verdict-at t params b flags t.decoder.sequence (command 0x35) refl live ∙ lacks-35 t none t.decoder.sequence);
    lone = λ s live none.
        refuses t (command 0x85) params b flags Unknown 1 refl live.passes (verdict-at t params b flags Idle (command 0x85) s live ∙ lone-85 t none);
    program-closes = λ c low mid v s h. ap (λ (o : Outcome). o.target.luns) (left_at t (address v) params b flags (last_row first.Program c low mid) s h);
    closes = λ r. and_none (copyback_at t.luns (lun_of t.geometry r));
    keeps = λ r. and-all (copyback_at t.luns (lun_of t.geometry r));
    refused = λ e q h. left-refused t e params b flags q h;
  }
