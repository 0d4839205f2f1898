-- Many data cycles in a row: one accepted data cycle, and by it any number of them.
--     in_step, out_step     one data-in cycle of a program, one data-out cycle of a register: what a step makes of them
--     in-run, out-run       the rest of the trace after k of them gives what it gave before them
-- Assumes nothing.
use mathlib.Core.Path.{◌≡◌, refl, sym, ap, subst, ◌∙◌}
use mathlib.Core.Bool.{Bool, true, false, ◌||◌}
use mathlib.Core.List.{List}
use Prim.Native.Nat.{ℕ, zero, suc, ◌+◌, ◌*◌, ◌≤◌, ◌<◌, min}
use native.Mathlib.Nat.{min-le_left, min-le_right}
use native.Mathlib.Omega.{arith}
use native.Mathlib.Numerals.{add-one}
use lib.ListN.{length, get_or, set, drop}
use lib.Dec.{eqb}
use borrow.Author.Tests.{lt-leb, eqb-true}
use Rattle.slices.specs.Cells.{part, splice}
use Rattle.slices.proofs.Splice.{piece}
use Rattle.target.proofs.Both.{both}
use Rattle.target.proofs.Limits.{limits, registers-all}
use Rattle.target.specs.Pick.{or_else}
use Rattle.target.specs.Address.{lun_of}
use Rattle.target.specs.Luns.{works}
use Rattle.target.specs.Place.{is_bare}
use Rattle.target.specs.Sizes.{page_size}
use Rattle.target.specs.Events.{bad_record}
use Rattle.target.specs.declared.Fill.{Fill}
use Rattle.target.specs.declared.Column.{Column}
use Rattle.target.specs.declared.Target.{Target}
use Rattle.target.specs.declared.Sequence.TheVariants.{Filling}
use Rattle.target.specs.declared.Output.TheVariants as output
use Rattle.target.specs.declared.Reply.TheVariants as reply
use Rattle.target.specs.declared.Work.TheVariants as work
use Rattle.rules.specs.Rules.{before_reset, misplaced, fits, not_offered, lun_works, past_end, verdict}
use Rattle.rules.proofs.ByKind.{event, in-verdict, out-verdict}
use Rattle.effects.specs.Effects.{high_after, clear_after, selected_after, sequence_after, output_after, target_after, work_of}
use Rattle.lun_records.specs.LunsAfter.{luns_after}
use Rattle.memory.specs.Memory.{kept_after}
use Rattle.step.specs.Usable.{record_sound, usable, sequence_sound, output_sound}
use Rattle.step.specs.Buffers.{registers_after, array_after, counts_after, output_byte}
use Rattle.step.specs.Step.{Buffers, Outcome, reply_of, worked, accepted_by, accepted, by_verdict, steady, step_of}
use Rattle.step.proofs.Sound.{sound, filling-place, filling-row, register-place}
use Rattle.blocks.proofs.Places.{row-lun}
use Rattle.thm_kept.proofs.Kept.{step-steady}
use Rattle.trace.specs.Run.{Running, written, one_more, ran_all, events_of, stands_usable}
use Rattle.trace.specs.Data.{is_data, AllData, decoding, filling_at, register_at, filling, giving, Taking, took_one, taken_in, given_out, standing, Carried}
use Rattle.trace.proofs.Turns.{event_at, turned, stands-kept}
use Rattle.std.specs.Prelude.{Ok}

-- the verdict on a data-in cycle of a program that has room
in-passes : (t : Target) (f : Fill) (at v : ℕ) → t.seen ≡ true → at < page_size t.geometry → verdict (filling t f at) (event 2 v) ≡ (Ok tt)
unfolding or_else before_reset misplaced fits not_offered past_end
in-passes t f at v seen room = in-verdict (filling t f at) v ∙ rw (seen, lt-leb (page_size t.geometry) at room)

out-passes : (t : Target) (l c : ℕ) → t.seen ≡ true → works t.luns l ≡ false → is_bare t.decoder.sequence ≡ false → c < page_size t.geometry → verdict (giving t l c) (event 3 0) ≡ (Ok tt)
unfolding or_else bad_record before_reset misplaced fits lun_works past_end
out-passes t l c seen idle plain room = out-verdict (giving t l c) 0 ∙ rw (seen, plain, idle, lt-leb (page_size t.geometry) c room)

or-false : (b : Bool) → (b || false) ≡ b
or-false true = refl
or-false false = refl

module _ (params flags : List ℕ) (b : Buffers) where
  abbrev Fit : Target → Type 0
  Fit t = usable t (length params) (length b.array) (length b.registers) (length b.counts) (length flags) ≡ true

  in_step : (t : Target) (f : Fill) (at v : ℕ) → Fit (filling t f at) → t.seen ≡ true → at < page_size t.geometry
      → step_of (filling t f at) (event 2 v) params b flags
      ≡ record { reply = reply.Accepted; target = filling t f (at + 1); buffers = record { array = b.array; registers = registers_after t.geometry (work.Put (lun_of t.geometry f.row) (record { 0 = at }) v) b.array b.registers; counts = b.counts } }
  unfolding steady by_verdict accepted accepted_by reply_of worked work_of array_after counts_after target_after high_after clear_after selected_after luns_after sequence_after output_after kept_after
  in_step t f at v fit seen room =
      step-steady (filling t f at) (event 2 v) params b flags fit
      ∙ ap (λ x. by_verdict x (filling t f at) (event 2 v) params b flags) (in-passes t f at v seen room)
      ∙ (λ j. record { reply = reply.Accepted; target = decoding t (or-false t.seen j) (record { sequence = filling_at f (at + 1); output = t.decoder.output; kept = t.decoder.kept }); buffers = record { array = b.array; registers = registers_after t.geometry (work.Put (lun_of t.geometry f.row) (record { 0 = at }) v) b.array b.registers; counts = b.counts } })

  out_step : (t : Target) (l c : ℕ) → Fit (giving t l c) → t.seen ≡ true → works t.luns l ≡ false → is_bare t.decoder.sequence ≡ false → c < page_size t.geometry
      → step_of (giving t l c) (event 3 0) params b flags
      ≡ record { reply = reply.Byte (get_or b.registers (l * page_size t.geometry + c) 0); target = giving t l (c + 1); buffers = b }
  unfolding steady by_verdict accepted accepted_by reply_of output_byte worked work_of array_after registers_after counts_after target_after high_after clear_after selected_after luns_after sequence_after output_after kept_after
  out_step t l c fit seen idle plain room =
      step-steady (giving t l c) (event 3 0) params b flags fit
      ∙ ap (λ x. by_verdict x (giving t l c) (event 3 0) params b flags) (out-passes t l c seen idle plain room)
      ∙ rw (plain) (λ j. record { reply = reply.Byte (get_or b.registers (l * page_size t.geometry + c) 0); target = decoding t (or-false t.seen j) (record { sequence = t.decoder.sequence; output = register_at l (c + 1); kept = t.decoder.kept }); buffers = b })

-- a data record as an event
in-event : (records : List ℕ) (j : ℕ) → is_data false records j ≡ true → event_at records j ≡ event 2 (get_or records (2 * j + 1) 0)
in-event records j h = ap (λ (k : ℕ). event k (get_or records (2 * j + 1) 0)) (eqb-true (get_or records (2 * j) 0) 2 h)

out-event : (records : List ℕ) (j : ℕ) → is_data true records j ≡ true → event_at records j ≡ event 3 0
out-event records j h =
    let p = both (eqb (get_or records (2 * j) 0) 3) (eqb (get_or records (2 * j + 1) 0) 0) h in
    λ x. record { kind = eqb-true (get_or records (2 * j) 0) 3 p.0 x; value = eqb-true (get_or records (2 * j + 1) 0) 0 p.1 x }

fewer : {out : Bool} {records : List ℕ} {i k : ℕ} → AllData out records i (suc k) → AllData out records i k
fewer {out} {records} {i} {k} a = record { each = λ j h. a.each j (omega arith) }

-- for the loops: one more turn
pub gave_one : (registers : List ℕ) (i from j : ℕ) (room₀ room next : List ℕ) → next ≡ written room (i + j) (reply.Byte (get_or registers (from + j) 0)) → room ≡ given_out registers i from j room₀ → next ≡ given_out registers i from (j + 1) room₀
unfolding given_out
gave_one registers i from j room₀ room next e before =
    e ∙ ap (λ (w : List ℕ). written w (i + j) (reply.Byte (get_or registers (from + j) 0))) before
    ∙ ap (λ (n : ℕ). given_out registers i from n room₀) (sym (add-one j))

pub took_one_lem : (page base : ℕ) (records : List ℕ) (i at j : ℕ) (start s : Taking) (registers room : List ℕ)
    → registers ≡ splice s.registers base page (set (part s.registers base page) (at + j) (get_or records (2 * (i + j) + 1) 0)) → room ≡ written s.room (i + j) reply.Accepted
    → s ≡ taken_in page base records i at j start → ◌≡◌ {A = Taking} (record { registers = registers; room = room }) (taken_in page base records i at (j + 1) start)
unfolding taken_in
took_one_lem page base records i at j start s registers room put told before =
    (λ x. record { registers = put x; room = told x }) ∙ ap (took_one page base records (i + j) (at + j)) before
    ∙ ap (λ (n : ℕ). taken_in page base records i at n start) (sym (add-one j))

module _ (params flags records : List ℕ) (t : Target) (i : ℕ) (b : Buffers) (room : List ℕ) (seen : t.seen ≡ true) where
  -- where the run stands after k data-in cycles
  module _ (f : Fill) (at : ℕ) where
    abbrev took : ℕ → Taking
    took k = taken_in (page_size t.geometry) (lun_of t.geometry f.row * page_size t.geometry) records i at k (record { registers = b.registers; room = room })

    abbrev pub in_after : ℕ → Running
    in_after k = record { target = filling t f (at + k); done = i + k; buffers = record { array = b.array; registers = (took k).registers; counts = b.counts }; room = (took k).room }

    in-next : (k : ℕ) → stands_usable params flags (in_after k) ≡ true → at + k < page_size t.geometry → is_data false records (i + k) ≡ true
        → in_after (suc k) ≡ one_more params flags (in_after k) (event_at records (i + k))
    unfolding stands_usable one_more taken_in registers_after
    in-next k fit here data-in =
        let up : at + suc k ≡ at + k + 1 = omega arith in
        let on : i + suc k ≡ i + k + 1 = omega arith in
        (λ x. record { target = filling t f (up x); done = on x; buffers = record { array = b.array; registers = (took (suc k)).registers; counts = b.counts }; room = (took (suc k)).room })
        ∙ sym (ap (λ (o : Outcome). record { target = o.target; done = i + k + 1; buffers = o.buffers; room = written (took k).room (i + k) o.reply })
        (in_step params flags (record { array = b.array; registers = (took k).registers; counts = b.counts }) t f (at + k) (get_or records (2 * (i + k) + 1) 0) fit seen here))
        ∙ ap (one_more params flags (in_after k)) (sym (in-event records (i + k) data-in))

    pub in-run : (k : ℕ) (z : Running) → at + k ≤ page_size t.geometry → 2 * (i + k) ≤ length records → AllData false records i k → stands_usable params flags (in_after 0) ≡ true
        → ran_all params flags (drop (i + 0) (events_of records)) (in_after 0) ≡ z
        → (stands_usable params flags (in_after k) ≡ true) × (ran_all params flags (drop (i + k) (events_of records)) (in_after k) ≡ z)
    in-run zero z fits there all fit before = (fit, before)
    in-run (suc k) z fits there all fit before =
        let earlier = in-run k z (omega arith) (omega arith) (fewer all) fit before in
        let next = in-next k earlier.0 (omega arith) (all.each k (omega arith)) in
        let on : i + suc k ≡ i + k + 1 = omega arith in (
          ap (stands_usable params flags) next ∙ stands-kept params flags (in_after k) (event_at records (i + k)) ∙ earlier.0,
          ap (λ (n : ℕ). ran_all params flags (drop n (events_of records)) (in_after (suc k))) on
              ∙ turned params flags records (i + k) (in_after k) (in_after (suc k)) z (omega arith) next earlier.1,
        )

  -- after k data-out cycles
  module _ (l c : ℕ) (idle : works t.luns l ≡ false) (plain : is_bare t.decoder.sequence ≡ false) where
    abbrev pub out_after : ℕ → Running
    out_after k = record { target = giving t l (c + k); done = i + k; buffers = b; room = given_out b.registers i (l * page_size t.geometry + c) k room }

    out-next : (k : ℕ) → stands_usable params flags (out_after k) ≡ true → c + k < page_size t.geometry → is_data true records (i + k) ≡ true
        → out_after (suc k) ≡ one_more params flags (out_after k) (event_at records (i + k))
    unfolding stands_usable one_more given_out
    out-next k fit here data-out =
        let up : c + suc k ≡ c + k + 1 = omega arith in
        let on : i + suc k ≡ i + k + 1 = omega arith in
        let place : l * page_size t.geometry + c + k ≡ l * page_size t.geometry + (c + k) = omega arith in
        (λ x. record { target = giving t l (up x); done = on x; buffers = b; room = written (given_out b.registers i (l * page_size t.geometry + c) k room) (i + k) (reply.Byte (get_or b.registers (place x) 0)) })
        ∙ sym (ap (λ (o : Outcome). record { target = o.target; done = i + k + 1; buffers = o.buffers; room = written (given_out b.registers i (l * page_size t.geometry + c) k room) (i + k) o.reply })
        (out_step params flags b t l (c + k) fit seen idle plain here))
        ∙ ap (one_more params flags (out_after k)) (sym (out-event records (i + k) data-out))

    pub out-run : (k : ℕ) (z : Running) → c + k ≤ page_size t.geometry → 2 * (i + k) ≤ length records → AllData true records i k → stands_usable params flags (out_after 0) ≡ true
        → ran_all params flags (drop (i + 0) (events_of records)) (out_after 0) ≡ z
        → (stands_usable params flags (out_after k) ≡ true) × (ran_all params flags (drop (i + k) (events_of records)) (out_after k) ≡ z)
    out-run zero z fits there all fit before = (fit, before)
    out-run (suc k) z fits there all fit before =
        let earlier = out-run k z (omega arith) (omega arith) (fewer all) fit before in
        let next = out-next k earlier.0 (omega arith) (all.each k (omega arith)) in
        let on : i + suc k ≡ i + k + 1 = omega arith in (
          ap (stands_usable params flags) next ∙ stands-kept params flags (out_after k) (event_at records (i + k)) ∙ earlier.0,
          ap (λ (n : ℕ). ran_all params flags (drop n (events_of records)) (out_after (suc k))) on
              ∙ turned params flags records (i + k) (out_after k) (out_after (suc k)) z (omega arith) next earlier.1,
        )

-- at most the lesser is at most both
pub within_both : (a b : ℕ) {m k : ℕ} → m ≡ min a b → k ≤ m → (k ≤ a) × (k ≤ b)
within_both a b {m} {k} e h = (omega (arith, min-le_left a b), omega (arith, min-le_right a b))

-- what rule 13 says of a program's place, and of a register that is put out
module _ (t : Target) (ok : record_sound t ≡ true) (registers : List ℕ) (size : length registers ≡ t.geometry.luns * page_size t.geometry) where
  pub fill-room : (f : Fill) → t.decoder.sequence ≡ Filling f → (f.at.0 ≤ page_size t.geometry) × (lun_of t.geometry f.row * page_size t.geometry + page_size t.geometry ≤ length registers) × (length registers ≤ 73728)
  fill-room f e =
      let k : sequence_sound t.geometry (Filling f) ≡ true = subst (λ s. sequence_sound t.geometry s ≡ true) e (sound t ok).sequence in
      let few = registers-all (limits t.geometry (sound t ok).limited) in
      (filling-place t.geometry f k, omega (arith, piece (page_size t.geometry) (row-lun t.geometry f.row (filling-row t.geometry f k)), size), omega (arith, few, size))

  pub give-room : (l : ℕ) (c : Column) → t.decoder.output ≡ output.Register l c → (c.0 ≤ page_size t.geometry) × (l * page_size t.geometry + page_size t.geometry ≤ length registers) × (length registers ≤ 73728)
  give-room l c e =
      let k = register-place t.geometry l c (subst (λ o. output_sound t.geometry o ≡ true) e (sound t ok).output) in
      let few = registers-all (limits t.geometry (sound t ok).limited) in
      (k.1, omega (arith, piece (page_size t.geometry) k.0, size), omega (arith, few, size))

-- a burst carries the trace on
module _ (params flags records array registers counts room : List ℕ) (t : Target) (i : ℕ) (there : 2 * i ≤ length records) where
  abbrev held : Buffers
  held = record { array = array; registers = registers; counts = counts }

  abbrev now : Running
  now = standing t i array registers counts room

  pub nothing-on : Carried params flags records array counts t i registers room t (i + 0) registers room
  nothing-on =
      let same : i + 0 ≡ i = omega arith in
      subst (λ (n : ℕ). Carried params flags records array counts t i registers room t n registers room) (sym same) (record { within = there; fit = refl; rest = refl })

  module _ (fit : usable t (length params) (length array) (length registers) (length counts) (length flags) ≡ true) (seen : t.seen ≡ true) where
    module _ (f : Fill) (e : t.decoder.sequence ≡ Filling f) where
      in-zero : now ≡ in_after params flags records t i held room seen f f.at.0 0
      unfolding taken_in
      in-zero =
          let up : f.at.0 ≡ f.at.0 + 0 = omega arith in
          let on : i ≡ i + 0 = omega arith in
          (λ x. standing (decoding t t.seen (record { sequence = e x; output = t.decoder.output; kept = t.decoder.kept })) i array registers counts room)
          ∙ (λ x. standing (filling t f (up x)) (on x) array registers counts room)

      pub filled_on : (k : ℕ) (next : Target) (put told : List ℕ) → f.at.0 + k ≤ page_size t.geometry → 2 * (i + k) ≤ length records → AllData false records i k → next ≡ filling t f (f.at.0 + k)
          → ◌≡◌ {A = Taking} (record { registers = put; room = told }) (taken_in (page_size t.geometry) (lun_of t.geometry f.row * page_size t.geometry) records i f.at.0 k (record { registers = registers; room = room }))
          → Carried params flags records array counts t i registers room next (i + k) put told
      unfolding stands_usable
      filled_on k next put told fits upto all is took =
          let before : ran_all params flags (drop (i + 0) (events_of records)) (in_after params flags records t i held room seen f f.at.0 0) ≡ ran_all params flags (drop i (events_of records)) now
          = (let on : i + 0 ≡ i = omega arith in ap (λ (n : ℕ). ran_all params flags (drop n (events_of records)) (in_after params flags records t i held room seen f f.at.0 0)) on ∙ ap (ran_all params flags (drop i (events_of records))) (sym in-zero)) in
          let after = in-run params flags records t i held room seen f f.at.0 k _ fits upto all (ap (stands_usable params flags) (sym in-zero) ∙ fit) before in
          let end : standing next (i + k) array put counts told ≡ in_after params flags records t i held room seen f f.at.0 k = (λ x. standing (is x) (i + k) array (took x).registers counts (took x).room) in
          record { within = upto; fit = ap (stands_usable params flags) end ∙ after.0 ∙ sym fit; rest = ap (ran_all params flags (drop (i + k) (events_of records))) end ∙ after.1 }

    module _ (l : ℕ) (c : Column) (e : t.decoder.output ≡ output.Register l c) (idle : works t.luns l ≡ false) (plain : is_bare t.decoder.sequence ≡ false) where
      out-zero : now ≡ out_after params flags records t i held room seen l c.0 idle plain 0
      unfolding given_out
      out-zero =
          let up : c.0 ≡ c.0 + 0 = omega arith in
          let on : i ≡ i + 0 = omega arith in
          (λ x. standing (decoding t t.seen (record { sequence = t.decoder.sequence; output = e x; kept = t.decoder.kept })) i array registers counts room)
          ∙ (λ x. standing (giving t l (up x)) (on x) array registers counts room)

      pub given-on : (k : ℕ) (next : Target) (told : List ℕ) → c.0 + k ≤ page_size t.geometry → 2 * (i + k) ≤ length records → AllData true records i k → next ≡ giving t l (c.0 + k)
          → told ≡ given_out registers i (l * page_size t.geometry + c.0) k room → Carried params flags records array counts t i registers room next (i + k) registers told
      unfolding stands_usable
      given-on k next told fits upto all is gave =
          let before : ran_all params flags (drop (i + 0) (events_of records)) (out_after params flags records t i held room seen l c.0 idle plain 0) ≡ ran_all params flags (drop i (events_of records)) now
          = (let on : i + 0 ≡ i = omega arith in ap (λ (n : ℕ). ran_all params flags (drop n (events_of records)) (out_after params flags records t i held room seen l c.0 idle plain 0)) on ∙ ap (ran_all params flags (drop i (events_of records))) (sym out-zero)) in
          let after = out-run params flags records t i held room seen l c.0 idle plain k _ fits upto all (ap (stands_usable params flags) (sym out-zero) ∙ fit) before in
          let end : standing next (i + k) array registers counts told ≡ out_after params flags records t i held room seen l c.0 idle plain k = (λ x. standing (is x) (i + k) array registers counts (gave x)) in
          record { within = upto; fit = ap (stands_usable params flags) end ∙ after.0 ∙ sym fit; rest = ap (ran_all params flags (drop (i + k) (events_of records))) end ∙ after.1 }
