-- The table of document 01's cases, computed from the two parts' pages on: power-on once for each part, and every run from the record
-- that it makes.
-- Assumes nothing.
use Rattle.std.specs.Prelude.{Err, Ok}
use mathlib.Core.Path.{◌≡◌, refl, sym, ap, subst, ◌∙◌}
use mathlib.Core.Bool.{true, false, ◌&&◌}
use mathlib.Core.List.{List, [], ◌∷◌}
use Prim.Native.Nat.{ℕ}
use lib.Dec.{eqb, ltb}
use lib.ListN.{length, replicate}
use borrow.Author.Tests.{eqb-true}
use Rattle.slices.specs.Cells.{splice, part, and_bytes, all_at_most, some_set}
use Rattle.target.specs.Pick.{pick, or_else}
use Rattle.target.specs.Events.{bad_record}
use Rattle.target.specs.Commands.{row_of, first_of, second_row, second_of, class_of, offered}
use Rattle.target.specs.Address.{bits_of, field_width, column_from, row_from, lun_of, page_of, block_of, lun_exists, block_exists, row_exists}
use Rattle.target.specs.Sizes.{page_size, in_limits, sized}
use Rattle.target.specs.Words.{bit_of}
use Rattle.target.specs.Luns.{lun_ready}
use Rattle.target.specs.declared.Geometry.{Geometry}
use Rattle.target.specs.declared.Event.{Event}
use Rattle.target.specs.declared.Target.{Target}
use Rattle.target.specs.declared.Sequence.TheVariants as sequence
use Rattle.target.specs.declared.Output.TheVariants as output
use Rattle.target.proofs.Both.{both}
use Rattle.page.specs.Crc.{crc_bit, crc_bits, crc_byte, crc_from, crc_of}
use Rattle.rules.specs.Rules.{unknown, before_reset, fits, misplaced, out_of_range, lun_works, no_copyback, others_busy, line_low, past_end, not_offered, not_working, line_held, rules, verdict}
use Rattle.effects.specs.Effects.{sequence_after, output_after, selected_after, clear_after, high_after, target_after, target_refused, work_of}
use Rattle.memory.specs.Memory.{kept_after}
use Rattle.lun_records.specs.LunsAfter.{luns_after}
use Rattle.step.specs.Usable.{record_sound, usable}
use Rattle.blocks.specs.Blocks.{block_index, page_index, block_bad, page_full, higher_written, out_of_order, blank_block, blank_blocks}
use Rattle.step.specs.Buffers.{registers_after, array_after, counts_after, findings, status_of, output_byte}
use Rattle.step.specs.Step.{Buffers, Outcome, reply_of, worked, accepted_by, accepted, by_verdict, steady, step_of}
use Rattle.page.specs.Page.{field, bit_of as page_bit, signed, features, optional_commands, maker_id, data_bytes, spare_bytes, pages_a_block, blocks_a_lun, lun_count, address_cycles, programs_a_page, stored_crc, crc_good, data_in_limits, spare_in_limits, pages_in_limits, blocks_in_limits, luns_in_limits, luns_as_featured, narrow_bus, cycles_as_house, programs_in_limits, fields_in_limits}
use Rattle.power.specs.Power.{geometry_of, words_of, walked, powered_of, wrong_length, unsigned, crc_bad, field_bad, buffer_bad, content_bad, or_refused, power_answer, Powering, power_number, power_of}
use Rattle.thm_kept.specs.Kept.{lets_pass}
use Rattle.thm_kept.proofs.Kept.{step-usable, step-steady}
use Rattle.trace.specs.Run.{Running, Traced, run_number, traced, start, next_of, written, one_more, ran_all, events_of, stands_usable, odd_answered, needed, trace_of}
use Rattle.trace.specs.declared.RunRefusal.TheVariants.{NoRoom}
use Rattle.thm_cases.specs.Parts.{Part, t1_with, t1, t2, powered, first, run}
use Rattle.thm_cases.specs.Cases.{geometry, Begun, Cases}

-- power-on is computed
unfoldable pub powers : Unit {0}
unfolding all_at_most some_set part blank_block blank_blocks walked page_size sized bit_of crc_bit crc_bits crc_byte crc_from crc_of field page_bit signed features optional_commands maker_id data_bytes spare_bytes pages_a_block blocks_a_lun lun_count address_cycles programs_a_page stored_crc crc_good data_in_limits spare_in_limits pages_in_limits blocks_in_limits luns_in_limits luns_as_featured narrow_bus cycles_as_house programs_in_limits fields_in_limits geometry_of words_of powered_of wrong_length unsigned crc_bad field_bad buffer_bad content_bad or_refused power_answer power_of
powers = tt

-- and so is every definition of a run
unfoldable pub computes : Unit {0}
unfolding powers splice and_bytes or_else bad_record row_of first_of second_row second_of class_of offered bits_of field_width column_from row_from lun_of page_of block_of lun_exists block_exists row_exists in_limits unknown before_reset fits misplaced out_of_range lun_works no_copyback others_busy line_low past_end not_offered not_working line_held rules verdict sequence_after output_after kept_after luns_after selected_after clear_after high_after target_after target_refused work_of record_sound usable block_index page_index registers_after array_after counts_after block_bad page_full higher_written out_of_order findings status_of output_byte reply_of worked accepted_by accepted by_verdict steady step_of written one_more ran_all events_of stands_usable odd_answered needed trace_of
computes = tt

-- The records that power-on makes of T1 and T2.

abbrev pub readied : ℕ → ℕ → ℕ → ℕ → Target
readied pages blocks blank other = record {
  powered = true;
  geometry = record { bytes = 512; spare = 16; pages = pages; blocks = blocks; luns = 2; programs = 4 };
  words = record { features = 0x0102; optional = 0x004c };
  ids = record { maker = 0x2c; device = 0x68 };
  high = true;
  clear = false;
  seen = false;
  selected = 0;
  luns = lun_ready blank ∷ lun_ready other ∷ lun_ready 0 ∷ lun_ready 0 ∷ [];
  decoder = record { sequence = sequence.Idle; output = output.Nothing; kept = output.Nothing };
}

abbrev fresh : Part → Buffers
fresh p = record { array = p.array; registers = replicate 1056 0xff; counts = p.counts }

-- power-on accepts the part, makes this record of it and fills its registers; rule 13 lets them pass
pub record Starts (p : Part) (t : Target) : Type 0 where
  pub on : powered p ≡ record { answer = (Ok tt); target = t; registers = replicate 1056 0xff }
  pub passes : lets_pass t p.params (fresh p) p.flags ≡ true

pub starts-1 : (byte : ℕ) → Starts (t1_with byte 0) (readied 4 8 8 8)
unfolding computes
starts-1 byte = record { on = refl; passes = refl }

-- its first block marked bad
pub starts-bad : Starts (t1_with 0xff 1) (readied 4 8 7 8)
unfolding computes
starts-bad = record { on = refl; passes = refl }

pub starts-2 : Starts t2 (readied 3 5 5 5)
unfolding computes
starts-2 = record { on = refl; passes = refl }

-- A run from there never meets rule 13, so that it need not be looked at before each event.

unfoldable pub steadily : List ℕ → List ℕ → List Event → Running → Running
steadily params flags [] s = s
steadily params flags (e ∷ es) s =
    steadily params flags es (next_of (steady s.target e params s.buffers flags) s.done s.room)

ran-steadily : (params flags : List ℕ) (es : List Event) (s : Running) → lets_pass s.target params s.buffers flags ≡ true
    → ran_all params flags es s ≡ steadily params flags es s
unfolding ran_all one_more steadily
ran-steadily params flags [] s h = refl
ran-steadily params flags (e ∷ es) s h =
    ran-steadily params flags es (one_more params flags s e) (step-usable s.target e params s.buffers flags h)
    ∙ ap (λ (o : Outcome). steadily params flags es (next_of o s.done s.room)) (step-steady s.target e params s.buffers flags h)

module _ {p : Part} {t : Target} (s : Starts p t) where
  -- a trace of the part, over a reply room of n bytes
  abbrev Ran : ℕ → List ℕ → Traced
  Ran n records =
      let begun = start t (fresh p) (replicate n 0) in
      pick (ltb (length begun.room) (needed (length records))) (traced (Err NoRoom) begun)
      (traced (Ok tt) (odd_answered p.params p.flags (length records) (steadily p.params p.flags (events_of records) begun)))

  ran : (n : ℕ) (records : List ℕ)
      → trace_of (first p).target records (replicate n 0) p.params (first p).buffers p.flags ≡ Ran n records
  unfolding trace_of
  ran n records =
      let begun = start t (fresh p) (replicate n 0) in
      ap (λ (w : Powering). trace_of w.target records (replicate n 0) p.params
      (record { array = p.array; registers = w.registers; counts = p.counts }) p.flags) s.on
      ∙ ap (λ (r : Running). pick (ltb (length begun.room) (needed (length records))) (traced (Err NoRoom) begun)
      (traced (Ok tt) (odd_answered p.params p.flags (length records) r)))
      (ran-steadily p.params p.flags (events_of records) begun s.passes)

  pub tells : (records told : List ℕ) → (Ran (length records) records).room ≡ told → (run p records).room ≡ told
  tells records told h = ap (λ (x : Traced). x.room) (ran (length records) records) ∙ h

  pub answers : (n : ℕ) (records : List ℕ) (number : ℕ) → run_number (Ran n records).answer ≡ number
      → run_number (trace_of (first p).target records (replicate n 0) p.params (first p).buffers p.flags).answer ≡ number
  answers n records number h = ap (λ (x : Traced). run_number x.answer) (ran n records) ∙ h

  pub leaves-array : (records array : List ℕ) → (Ran (length records) records).buffers.array ≡ array
      → (run p records).buffers.array ≡ array
  leaves-array records array h = ap (λ (x : Traced). x.buffers.array) (ran (length records) records) ∙ h

  pub leaves-counts : (records counts : List ℕ) → (Ran (length records) records).buffers.counts ≡ counts
      → (run p records).buffers.counts ≡ counts
  leaves-counts records counts h = ap (λ (x : Traced). x.buffers.counts) (ran (length records) records) ∙ h

  pub geometry-is : geometry p ≡ t.geometry
  geometry-is = ap (λ (w : Powering). w.target.geometry) s.on

  begins : Begun p
  begins = record {
    answer = ap (λ (w : Powering). power_number w.answer) s.on;
    passes =
        subst (λ (w : Powering). lets_pass w.target p.params
        (record { array = p.array; registers = w.registers; counts = p.counts }) p.flags ≡ true)
        (sym s.on) s.passes;
  }

-- (a): the length that `sized` asks for
abbrev g1 : Geometry
g1 = (readied 4 8 8 8).geometry

sized-1 : (n : ℕ) → sized g1 n 1056 64 16 ≡ true → n ≡ 33792
unfolding sized page_size
sized-1 n h =
    let is = eqb n 33792 in
    eqb-true n 33792 (both is true (both (is && true) true (both (is && true && true) true h).0).0).0

array-length : (n : ℕ) → sized (geometry t1) n 1056 64 16 ≡ true → n ≡ 33792
array-length n h = sized-1 n (subst (λ (g : Geometry). sized g n 1056 64 16 ≡ true) (geometry-is (starts-1 0xff)) h)

pub cases : Cases
cases =
    let erased = starts-1 0xff in
    record {
      start-1 = begins erased;
      start-2 = begins starts-2;
      a = array-length;
      b = rw (geometry-is erased) (unfold computes steadily in (refl, refl, refl, refl));
      c = rw (geometry-is starts-2) (unfold computes steadily in (refl, refl, refl));
      d = tells starts-2 _ _ (unfold computes steadily in refl);
      e = tells starts-2 _ _ (unfold computes steadily in refl);
      f-00 = tells erased _ _ (unfold computes steadily in refl);
      f-80 = tells erased _ _ (unfold computes steadily in refl);
      f-06 = tells erased _ _ (unfold computes steadily in refl);
      f-60 = tells erased _ _ (unfold computes steadily in refl);
      f-78 = tells erased _ _ (unfold computes steadily in refl);
      g-527 = tells erased _ _ (unfold computes steadily in refl);
      g-528 = tells erased _ _ (unfold computes steadily in refl);
      h = tells (starts-1 0xa5) _ _ (unfold computes steadily in refl);
      i-ready = tells erased _ _ (unfold computes steadily in refl);
      i-working = tells starts-bad _ _ (unfold computes steadily in refl);
      i-low = tells erased _ _ (unfold computes steadily in refl);
      j = tells erased _ _ (unfold computes steadily in refl);
      whole = tells erased _ _ (unfold computes steadily in refl);
    }
