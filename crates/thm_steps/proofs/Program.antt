-- "Program" and "Erase", as specs/Steps.antt states them.
-- Assumes nothing.
use mathlib.Core.Path.{◌≡◌, refl, sym, ap, subst, ◌∙◌}
use mathlib.Core.Bool.{Bool, true, false, ◌&&◌, ◌||◌, not}
use mathlib.Core.List.{List}
use Prim.Native.Nat.{ℕ, ◌+◌, ◌-◌, ◌*◌, ◌≤◌, ◌<◌}
use lib.ListN.{length, set, get_or, drop}
use lib.Seq.{get_or-take, get_or-drop}
use lib.Bits.{bit_and}
use Rattle.slices.specs.Cells.{part, splice, and_bytes}
use Rattle.slices.proofs.Splice.{length_part, part-splice}
use Rattle.slices.proofs.Anded.{length-and, get_or-and}
use Rattle.target.specs.Pick.{pick, or_else}
use Rattle.target.specs.Sizes.{page_size}
use Rattle.target.specs.Address.{row_from, lun_of}
use Rattle.target.specs.Luns.{copyback_at}
use Rattle.target.specs.Commands.{row_of, first_of, second_of, second_row, class_of, offered}
use Rattle.target.specs.declared.Column.{Column}
use Rattle.target.specs.declared.Row.{Row}
use Rattle.target.specs.declared.Lun.{Lun}
use Rattle.target.specs.declared.Event.{Event}
use Rattle.target.specs.declared.Target.{Target}
use Rattle.target.specs.declared.First.{First}
use Rattle.target.specs.declared.First.TheVariants as first
use Rattle.target.specs.declared.Sequence.{Sequence}
use Rattle.target.specs.declared.Work.{Work}
use Rattle.target.specs.declared.Work.TheVariants as work
use Rattle.rules.specs.Rules.{verdict, before_reset, unknown, misplaced, fits, others_busy, line_low}
use Rattle.rules.proofs.ByKind.{command-verdict}
use Rattle.effects.specs.Effects.{work_of, target_after, sequence_after}
use Rattle.lun_records.specs.LunsAfter.{one_more, luns_after}
use Rattle.step.specs.Usable.{sequence_sound}
use Rattle.step.proofs.Sound.{sound, passes, filling-row}
use Rattle.blocks.proofs.Places.{page-bytes-end, register-end}
use Rattle.blocks.specs.Blocks.{page_index, block_bad, page_full, out_of_order}
use Rattle.step.specs.Buffers.{findings, registers_after, array_after, counts_after}
use Rattle.step.specs.Step.{Buffers, Outcome, reply_of, worked, accepted_by, accepted}
use Rattle.thm_steps.specs.Steps.{command, address, data_in, due, last_row, filling, moving, working, still_open, blanks, is_blank, Taken, Program, Erase}
use Rattle.thm_steps.proofs.Places.{place-10, place-85, place-d0}
use Rattle.thm_steps.proofs.Taken.{taken, command-fits, put, verdict-at, accepts, left_at, left-first, and_none}
use Rattle.std.specs.Prelude.{Ok}

-- a byte of a part
pub part-byte : (xs : List ℕ) (at k i : ℕ) → i < k → get_or (part xs at k) i 0 ≡ get_or xs (at + i) 0
unfolding part
part-byte xs at k i h = get_or-take k (drop at xs) i 0 h ∙ get_or-drop at xs i 0

part_length : (xs : List ℕ) (at k : ℕ) → at + k ≤ length xs → length (part xs at k) ≡ k
unfolding part
part_length xs at k h = length_part xs at k h

-- a byte of a part that is ANDed into its list
anded-byte : (xs ys : List ℕ) (at from k i : ℕ) → at + k ≤ length xs → from + k ≤ length ys → i < k
    → get_or (splice xs at k (and_bytes (part xs at k) (part ys from k))) (at + i) 0 ≡ bit_and (get_or xs (at + i) 0) (get_or ys (from + i) 0)
anded-byte xs ys at from k i fits fitsʳ low =
    let new = and_bytes (part xs at k) (part ys from k) in
    let long : length new ≡ k = length-and (part xs at k) (part ys from k) ∙ part_length xs at k fits in
    let here : i < length (part xs at k) = subst (λ (n : ℕ). i < n) (sym (part_length xs at k fits)) low in
    let there : i < length (part ys from k) = subst (λ (n : ℕ). i < n) (sym (part_length ys from k fitsʳ)) low in
    sym (part-byte (splice xs at k new) at k i low)
    ∙ ap (λ (l : List ℕ). get_or l i 0) (part-splice xs at k new fits long)
    ∙ get_or-and (part xs at k) (part ys from k) i here there
    ∙ ap (λ (n : ℕ). bit_and n (get_or (part ys from k) i 0)) (part-byte xs at k i low)
    ∙ ap (λ (n : ℕ). bit_and (get_or xs (at + i) 0) n) (part-byte ys from k i low)

-- the verdict on 10h where data may come, with the line high
fits-10 : (t : Target) (f : First) (r : Row) (c : Column) → t.high ≡ true → verdict (put t true (filling f r c) t.decoder.output) (command 0x10) ≡ (Ok tt)
unfolding or_else row_of first_of second_of second_row class_of offered before_reset unknown misplaced fits others_busy line_low
fits-10 t f r c h = command-verdict (put t true (filling f r c) t.decoder.output) 0x10 ∙ (rw (h))

none_of : (a b c : Bool) → a ≡ false → b ≡ false → c ≡ false → (a || b || c) ≡ false
none_of a b c h k l = rw (h, k, l)

module _ (t : Target) (params : List ℕ) (b : Buffers) (flags : List ℕ) where
  -- the buffers where a test chooses between this work and none
  abbrev either : Work → Bool → Buffers
  either w x = worked t.geometry (pick x w work.Nothing) b

  -- the LUNs where the row's begins to work: a 10h and a D0h that do not proceed where the test holds
  abbrev marked : Row → Bool → ℕ → Bool → List Lun
  marked r copyback blank x = set t.luns (lun_of t.geometry r) (working (not (not x)) copyback blank)

  abbrev programmed : Row → Bool → Bool → List Lun
  programmed r copyback x =
      let n = blanks t params b flags r in marked r copyback (pick (not x && is_blank t params b flags r) (n - 1) n) x

  abbrev erased : Row → Bool → Bool → List Lun
  erased r copyback x =
      let n = blanks t params b flags r in marked r copyback (pick (not x && not (is_blank t params b flags r)) (one_more t.geometry n) n) x

  -- an event that is accepted finds a sound place
  sound-at : (e : Event) → Taken t params b flags e → sequence_sound t.geometry t.decoder.sequence ≡ true
  sound-at e h = (sound t (passes t params b.array b.registers b.counts flags (taken t e params b flags h).0).record-sound).sequence

  anded : (f : First) (r : Row) (c : Column) → t.decoder.sequence ≡ filling f r c → Taken t params b flags (command 0x10) → (i : ℕ) → i < page_size t.geometry
      → get_or (splice b.array (page_index t.geometry r * page_size t.geometry) (page_size t.geometry) (and_bytes (part b.array (page_index t.geometry r * page_size t.geometry) (page_size t.geometry)) (part b.registers (lun_of t.geometry r * page_size t.geometry) (page_size t.geometry)))) (page_index t.geometry r * page_size t.geometry + i) 0
      ≡ bit_and (get_or b.array (page_index t.geometry r * page_size t.geometry + i) 0) (get_or b.registers (lun_of t.geometry r * page_size t.geometry + i) 0)
  anded f r c s h i low =
      let g = t.geometry in
      let sizes = (passes t params b.array b.registers b.counts flags (taken t (command 0x10) params b flags h).0).sizes in
      let there = filling-row g (record { first = f; row = r; at = c }) (subst (λ (x : Sequence). sequence_sound g x ≡ true) s (sound-at (command 0x10) h)) in
      anded-byte b.array b.registers (page_index g r * page_size g) (lun_of g r * page_size g) (page_size g) i
      (subst (λ (n : ℕ). page_index g r * page_size g + page_size g ≤ n) (sym sizes.array_size) (page-bytes-end g r there))
      (subst (λ (n : ℕ). lun_of g r * page_size g + page_size g ≤ n) (sym sizes.registers-size) (register-end g r there))
      low

  pub program : Program t params b flags
  unfolding accepted accepted_by reply_of worked work_of target_after luns_after sequence_after findings registers_after array_after counts_after row_of first_of second_of second_row
  program = record {
    only-moves = λ h inside. place-85 t.decoder.sequence inside (command-fits t params b flags 0x85 refl h);
    only_here = λ h. place-10 t.geometry t.decoder.sequence (sound-at (command 0x10) h) (command-fits t params b flags 0x10 refl h);
    each-byte = λ f r c s h good room order i low.
        ap (λ (o : Outcome). get_or o.buffers.array (page_index t.geometry r * page_size t.geometry + i) 0) (left_at t (command 0x10) params b flags (filling f r c) s h)
        ∙ ap (λ (x : Bool). get_or (either (work.Program r) (not x)).array (page_index t.geometry r * page_size t.geometry + i) 0) (none_of (block_bad t.geometry r flags) (page_full t.geometry r b.counts) (out_of_order t.geometry t.words r b.counts) good room order)
        ∙ anded f r c s h i low;
    clears-all = λ off h.
        ap (λ (o : Outcome). o.buffers) (left-first t params b flags 0x80 refl refl h)
        ∙ ap (λ (x : Bool). either work.ClearAll (not x)) off;
    clears-once = λ off c low mid v s h.
        ap (λ (o : Outcome). o.buffers) (left_at t (address v) params b flags (last_row first.Program c low mid) s h)
        ∙ ap (either (work.ClearOne (lun_of t.geometry (row_from low mid v)))) off;
    clears-one = λ on c low mid v s h.
        ap (λ (o : Outcome). o.buffers) (left_at t (address v) params b flags (last_row first.Program c low mid) s h)
        ∙ ap (either (work.ClearOne (lun_of t.geometry (row_from low mid v)))) on;
    clears-later = λ on h.
        ap (λ (o : Outcome). o.buffers) (left-first t params b flags 0x80 refl refl h)
        ∙ ap (λ (x : Bool). either work.ClearAll (not x)) on;
    begins = λ c low mid v s h. ap (λ (o : Outcome). o.target.decoder.sequence) (left_at t (address v) params b flags (last_row first.Program c low mid) s h);
    goes_in = λ f r c v s h. ap (λ (o : Outcome). o.buffers) (left_at t (data_in v) params b flags (filling f r c) s h);
    upward = λ f r c v s h. ap (λ (o : Outcome). o.target.decoder.sequence) (left_at t (data_in v) params b flags (filling f r c) s h);
    moves = λ f r c s h.
        let p = left_at t (command 0x85) params b flags (filling f r c) s h in
        (ap (λ (o : Outcome). o.target.decoder.sequence) p, ap (λ (o : Outcome). o.buffers) p);
    moves-low = λ f r v s h.
        let p = left_at t (address v) params b flags (moving f r 0 0) s h in
        (ap (λ (o : Outcome). o.target.decoder.sequence) p, ap (λ (o : Outcome). o.buffers) p);
    moves-high = λ f r low v s h.
        let p = left_at t (address v) params b flags (moving f r 1 low) s h in
        (ap (λ (o : Outcome). o.target.decoder.sequence) p, ap (λ (o : Outcome). o.buffers) p);
    programs = λ f r c s h good room order.
        ap (λ (o : Outcome). o.buffers) (left_at t (command 0x10) params b flags (filling f r c) s h)
        ∙ ap (λ (x : Bool). either (work.Program r) (not x)) (none_of (block_bad t.geometry r flags) (page_full t.geometry r b.counts) (out_of_order t.geometry t.words r b.counts) good room order);
    starts = λ f r c s h good room order.
        ap (λ (o : Outcome). o.target.luns) (left_at t (command 0x10) params b flags (filling f r c) s h)
        ∙ ap (programmed r (still_open t params b flags f r)) (none_of (block_bad t.geometry r flags) (page_full t.geometry r b.counts) (out_of_order t.geometry t.words r b.counts) good room order);
    stays = λ f r c s h bad.
        let p = left_at t (command 0x10) params b flags (filling f r c) s h in (
          ap (λ (o : Outcome). o.buffers) p ∙ ap (λ (x : Bool). either (work.Program r) (not x)) bad,
          ap (λ (o : Outcome). o.target.luns) p ∙ ap (programmed r (still_open t params b flags f r)) bad,
        );
    no-data = λ f r c s live high.
        ap (λ (o : Outcome). o.reply)
        (accepts t (command 0x10) params b flags live.passes (verdict-at t params b flags (filling f r c) (command 0x10) s live ∙ fits-10 t f r c high));
  }

  pub erase : Erase t params b flags
  unfolding accepted accepted_by worked work_of target_after luns_after findings registers_after array_after counts_after row_of second_of second_row
  erase = record {
    only_here = λ h. place-d0 t.decoder.sequence (command-fits t params b flags 0xd0 refl h);
    erases = λ c r s h good.
        let p = left_at t (command 0xd0) params b flags (due first.Erase c r) s h in (
          ap (λ (o : Outcome). o.buffers) p ∙ ap (λ (x : Bool). either (work.Erase r) (not x)) good,
          ap (λ (o : Outcome). o.target.luns) p ∙ ap (erased r _) good ∙ ap (λ (x : Bool). erased r x false) (and_none (copyback_at t.luns (lun_of t.geometry r))),
        );
    stays = λ c r s h bad.
        let p = left_at t (command 0xd0) params b flags (due first.Erase c r) s h in (
          ap (λ (o : Outcome). o.buffers) p ∙ ap (λ (x : Bool). either (work.Erase r) (not x)) bad,
          ap (λ (o : Outcome). o.target.luns) p ∙ ap (erased r _) bad ∙ ap (λ (x : Bool). erased r x true) (and_none (copyback_at t.luns (lun_of t.geometry r))),
        );
  }
