-- The premises of demand 3 can be met, and program-clear is needed: with it on A reads 3Ch and A5h back, with it off B's 80h has
-- filled A's register, where A alone would read its bytes.
--     reached                      the start, from power-on
--     saved-at-once, each-alone    demand 3 and the deletion of the other station, for this mixture
--     told-A, told-B               what the stations are told
--     lost                         with program-clear off the same mixture breaks demand 3
-- Assumes nothing.
use mathlib.Core.Path.{◌≡◌, refl, sym, ap, ◌∙◌}
use mathlib.Core.Bool.{Bool, true, false}
use mathlib.Core.List.{List, [], ◌∷◌, ◌++◌, map}
use Prim.Native.Nat.{ℕ}
use native.Mathlib.Omega.{arith}
use lib.Dec.{lit<}
use lib.ListN.{replicate}
use Rattle.slices.specs.Cells.{splice, part, and_bytes, some_set}
use Rattle.target.specs.Pick.{or_else}
use Rattle.target.specs.Events.{bad_record}
use Rattle.target.specs.Commands.{row_of, first_of, second_row, second_of, class_of, offered}
use Rattle.target.specs.Address.{bits_of, field_width, column_from, row_from, lun_of, page_of, block_of, lun_exists, block_exists, row_exists}
use Rattle.target.specs.Sizes.{page_size, in_limits, sized}
use Rattle.target.specs.Words.{bit_of}
use Rattle.target.specs.declared.Reply.{Reply}
use Rattle.target.specs.declared.Reply.TheVariants.{Accepted, Byte}
use Rattle.rules.specs.Rules.{unknown, before_reset, fits, misplaced, out_of_range, lun_works, no_copyback, others_busy, line_low, past_end, not_offered, not_working, line_held, rules, verdict}
use Rattle.effects.specs.Effects.{sequence_after, output_after, selected_after, clear_after, high_after, target_after, target_refused, work_of}
use Rattle.memory.specs.Memory.{kept_after}
use Rattle.lun_records.specs.LunsAfter.{luns_after}
use Rattle.step.specs.Usable.{record_sound, usable}
use Rattle.blocks.specs.Blocks.{block_index, page_index, block_bad, page_full, higher_written, out_of_order, blank_block}
use Rattle.step.specs.Buffers.{registers_after, array_after, counts_after, findings, status_of, output_byte}
use Rattle.step.specs.Step.{reply_of, worked, accepted_by, accepted, by_verdict, steady, step_of}
use Rattle.jobs.specs.Cycles.{ColumnBytes, RowBytes}
use Rattle.thm_stations.specs.Jobs.{read_out, program, status, byte, move, cycles}
use Rattle.thm_stations.specs.Mixture.{Owned, those, serial, over, start, cycle, finish, Mixture}
use Rattle.thm_demands.specs.Runs.{after}
use Rattle.thm_stations.specs.Isolated.{Told, log, end, Start, Isolated, Undisturbed}
use Rattle.thm_stations.specs.LostPreset.{t1, params, flags, ready_state, start_with, set_up, events, told_in}
use Rattle.thm_stations.proofs.Isolation.{isolation, deletion}

-- every definition of the step is computed
computes : Unit {0}
unfolding splice part and_bytes or_else bad_record row_of first_of second_row second_of class_of offered bit_of bits_of field_width column_from row_from lun_of page_of block_of lun_exists block_exists row_exists page_size in_limits sized unknown before_reset fits misplaced out_of_range lun_works no_copyback others_busy line_low past_end not_offered not_working line_held rules verdict sequence_after output_after kept_after luns_after selected_after clear_after high_after target_after target_refused work_of record_sound usable block_index page_index registers_after array_after counts_after block_bad page_full higher_written out_of_order blank_block some_set findings status_of output_byte reply_of worked accepted_by accepted by_verdict steady step_of those serial after log end
computes = tt

-- a run gets to the start
pub reached : (clear : Bool) → end params flags (ready_state false false) (set_up clear) ≡ start_with clear
unfolding computes
reached true = refl
reached false = refl

starts : Start params flags (start_with true)
unfolding computes
starts = record { fine = record { passes = refl; four = refl }; reset = refl; closed = refl; clear = refl }

abbrev row : ℕ → RowBytes
row low = record { low = low; mid = 0; high = 0 }

abbrev column : ℕ → ColumnBytes
column low = record { low = low; high = 0 }

pub mixture : Mixture t1 events
unfolding cycles computes
mixture =
    start (program (column 0) (row 0) (byte 0x3c ∷ byte 0xa5 ∷ [])) (lit< tt) (cycle (cycle (cycle (cycle (cycle (cycle (cycle (cycle (cycle
    (start (program (column 0) (row 32) (move (column 7) ∷ byte 0xc3 ∷ [])) (lit< tt) (cycle (cycle (cycle (finish 0 (lit< tt) (cycle (cycle (cycle (cycle (cycle (cycle (cycle (cycle
    (start (read_out (column 0) (row 0) 2) (lit< tt) (cycle (cycle (cycle (cycle (cycle (cycle (cycle (cycle (finish 1 (lit< tt) (cycle
    (start (status (row 32) 1) (lit< tt) (cycle (cycle (cycle (cycle (cycle over)))))))))))))))))))))))))))))))))))))))

pub saved-at-once : Isolated params flags (start_with true) events
saved-at-once = isolation params flags (start_with true) events starts mixture

pub each-alone : (l : ℕ) → Undisturbed params flags (start_with true) events l
each-alone = deletion params flags (start_with true) events starts mixture

-- seventeen cycles of A are accepted, its finish event among them, and then it is given two bytes; of B's, sixteen, and a status
abbrev accepts : ℕ → List Reply → List Reply
accepts n rest = replicate n Accepted ++ rest

pub told-A : told_in true events 0 ≡ accepts 17 (Byte 0x3c ∷ Byte 0xa5 ∷ [])
unfolding computes
told-A = refl

pub told-B : told_in true events 1 ≡ accepts 16 (Byte 0xe0 ∷ [])
unfolding computes
told-B = refl

-- with program-clear off, in the mixture and in the run of one LUN after the other
lost-in : told_in false events 0 ≡ accepts 17 (Byte 0xff ∷ Byte 0xff ∷ [])
unfolding computes
lost-in = refl

kept_in : told_in false (serial 2 events) 0 ≡ accepts 17 (Byte 0x3c ∷ Byte 0xa5 ∷ [])
unfolding computes
kept_in = refl

pub lost : Isolated params flags (start_with false) events → ⊥
lost h =
    let same : accepts 17 (Byte 0x3c ∷ Byte 0xa5 ∷ []) ≡ accepts 17 (Byte 0xff ∷ Byte 0xff ∷ []) = sym kept_in ∙ ap (map (λ (x : Owned Told). x.it.reply)) (h.in_order.each 0) ∙ lost-in in
    let z : ◌≡◌ {A = ℕ} 0x3c 0xff = cc in
    omega arith
