-- "Reset", as specs/Steps.antt states it.
-- Assumes nothing.
use mathlib.Core.Path.{◌≡◌, ◌∙◌}
use mathlib.Core.Bool.{false, ◌&&◌}
use mathlib.Core.List.{List}
use Prim.Native.Nat.{ℕ}
use Rattle.target.specs.Pick.{or_else}
use Rattle.target.specs.Commands.{row_of, first_of, second_of, second_row, class_of, offered}
use Rattle.target.specs.Place.{is_open}
use Rattle.target.specs.declared.Target.{Target}
use Rattle.rules.specs.Rules.{verdict, before_reset, unknown, misplaced, fits, others_busy, line_low}
use Rattle.rules.proofs.ByKind.{command-verdict}
use Rattle.effects.specs.Effects.{work_of, target_after, sequence_after, output_after, selected_after, clear_after, high_after}
use Rattle.lun_records.specs.LunsAfter.{luns_after}
use Rattle.memory.specs.Memory.{kept_after}
use Rattle.step.specs.Buffers.{registers_after, array_after, counts_after}
use Rattle.step.specs.Step.{Buffers, reply_of, worked, accepted_by, accepted}
use Rattle.thm_kept.proofs.Choice.{or-true}
use Rattle.thm_steps.specs.Steps.{command, Reset}
use Rattle.thm_steps.proofs.Taken.{accepts}
use Rattle.std.specs.Prelude.{Ok}

reset-verdict : (t : Target) → verdict t (command 0xff) ≡ (Ok tt)
unfolding or_else before_reset unknown row_of first_of second_of second_row class_of offered misplaced fits others_busy line_low
reset-verdict t = command-verdict t 0xff ∙ (rw (or-true (is_open t.decoder.sequence && false)))

pub reset : (t : Target) (params : List ℕ) (b : Buffers) (flags : List ℕ) → Reset t params b flags
unfolding accepted accepted_by reply_of worked work_of target_after luns_after sequence_after output_after kept_after selected_after clear_after high_after registers_after array_after counts_after
reset t params b flags ok = accepts t (command 0xff) params b flags ok (reset-verdict t) ∙ (rw (or-true t.seen))
