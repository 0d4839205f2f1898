-- "Polling" (document 02, A2), as specs/Steps.antt states it.
-- Assumes nothing.
use mathlib.Core.Path.{◌≡◌, refl, sym, ap, subst, ◌∙◌}
use mathlib.Core.Bool.{Bool, true, false, ◌&&◌, ◌||◌, not, false≢true}
use mathlib.Core.List.{List, [], ◌∷◌}
use Prim.Native.Nat.{ℕ, ◌≤◌, ◌<◌}
use native.Mathlib.Omega.{arith}
use lib.Dec.{eqb, ltb}
use borrow.Author.Tests.{eqb-true, eq-eqb, ne_eqb, ltb-false, lt-leb, le-leb, not-true, not-false}
use Rattle.target.specs.Pick.{pick, or_else}
use Rattle.target.specs.Events.{is_bus, bad_record}
use Rattle.target.specs.Numbers.{number_of}
use Rattle.target.specs.Address.{column_from, row_from, lun_of}
use Rattle.target.specs.Luns.{works, any_works}
use Rattle.target.specs.Commands.{first_commands, first_in, row_of, byte_of, gives_status, first_of, second_of, second_row, class_of, is_known, offered}
use Rattle.target.specs.Place.{is_bare, put_out, shows_status, is_register_of, has_output}
use Rattle.target.specs.declared.Column.{Column}
use Rattle.target.specs.declared.Row.{Row}
use Rattle.target.specs.declared.Geometry.{Geometry}
use Rattle.target.specs.declared.Event.{Event}
use Rattle.target.specs.declared.Decoder.{Decoder}
use Rattle.target.specs.declared.Target.{Target}
use Rattle.target.specs.declared.First.{First}
use Rattle.target.specs.declared.First.TheVariants as first
use Rattle.target.specs.declared.Sequence.{Sequence}
use Rattle.target.specs.declared.Sequence.TheVariants.{Idle}
use Rattle.target.specs.declared.Output.{Output}
use Rattle.target.specs.declared.Output.TheVariants as output
use Rattle.target.specs.declared.views.Given.TheVariants as given
use Rattle.target.specs.declared.Refusal.{Refusal}
use Rattle.target.specs.declared.Refusal.TheVariants.{Misplaced, OutOfRange, LunWorks, LineHeld, BadRecord, NotUsable}
use Rattle.target.specs.declared.Reply.TheVariants as reply
use Rattle.target.proofs.Both.{both, neither, other}
use Rattle.target.proofs.Firsts.{every}
use Rattle.rules.specs.Rules.{Rule, first_holding, rules, verdict, before_reset, unknown, misplaced, fits, others_busy, out_of_range, lun_works, no_copyback, line_low, line_held, output_ended}
use Rattle.rules.proofs.Passed.{all-passed}
use Rattle.rules.proofs.ByKind.{command-verdict, address-verdict, protect-verdict}
use Rattle.effects.specs.Effects.{opened, advanced, dropped, work_of, target_after, target_refused, sequence_after, output_after, selected_after, clear_after, high_after}
use Rattle.memory.specs.Memory.{remembered, first_kept, row_kept, kept_after}
use Rattle.lun_records.specs.LunsAfter.{luns_after}
use Rattle.step.specs.Usable.{output_sound, record_sound}
use Rattle.step.specs.Buffers.{findings, registers_after, array_after, counts_after, status_of, output_byte}
use Rattle.step.specs.Step.{Buffers, Outcome, reply_of, worked, accepted_by, accepted, by_verdict, step_of}
use Rattle.step.proofs.Sound.{sound, passes}
use Rattle.thm_kept.specs.Kept.{lets_pass}
use Rattle.thm_kept.proofs.Choice.{by-pick, or-true}
use Rattle.thm_kept.proofs.Kept.{all_sound, refit, step-usable}
use Rattle.thm_steps.specs.Steps.{command, address, data_out, protect, column, bare, row, due, decoding, next, putting, Taken, Live, Polling}
use Rattle.thm_steps.proofs.Taken.{put, seen_at, taken, verdict-at, decided, accepts, refuses, refused-by, not-usable, left_by, left_at, left-first}
use Rattle.thm_steps.proofs.Status.{not_yes, none-70, on_out, on_out_lem, puts-out, given_out, status}
use Rattle.thm_steps.proofs.Identification.{ended}
use Rattle.std.specs.Prelude.{Err, None, Ok, Option, Result, Some}

-- What a row's status keeps.

-- a page register of this LUN
register_of : (l : ℕ) (o : Output) → is_register_of l o ≡ true → (at : Column) × (o ≡ output.Register l at)
register_of l output.Nothing h = absurd (false≢true h)
register_of l (output.Register x c) h = (c, ap (λ (n : ℕ). output.Register n c) (eqb-true x l h))
register_of l (output.Parameters at) h = absurd (false≢true h)
register_of l (output.Status x) h = absurd (false≢true h)
register_of l (output.Ids at) h = absurd (false≢true h)
register_of l (output.Signature at) h = absurd (false≢true h)
register_of l (output.Feature at) h = absurd (false≢true h)

none-78 : second_of 0x78 ≡ None
unfolding second_of second_row
none-78 = refl

none-00 : second_of 0x00 ≡ None
unfolding second_of second_row
none-00 = refl

none-05 : second_of 0x05 ≡ None
unfolding second_of second_row
none-05 = refl

-- What loses it.

-- the first commands that may keep it, by their bytes
abbrev keeper : ℕ → Bool
keeper v = eqb v 0x70 || eqb v 0x78 || eqb v 0x00

abbrev may_keep : First → Bool
may_keep f = gives_status f || eqb (byte_of f) 0x00

abbrev found_keeps : Option First → Bool
found_keeps None = false
found_keeps (Some f) = may_keep f

no-keeper : (fs : List First) (v : ℕ) → every (λ (f : First). not (may_keep f) || keeper (byte_of f)) fs ≡ true → keeper v ≡ false → found_keeps (first_in fs v) ≡ false
no-keeper [] v test none = refl
no-keeper (f ∷ fs) v test none =
    let p = both (not (may_keep f) || keeper (byte_of f)) (every (λ (f : First). not (may_keep f) || keeper (byte_of f)) fs) test in
    by-pick (λ (k : Option First). found_keeps k ≡ false) (eqb v (byte_of f)) (Some f) (first_in fs v)
    (λ is. not-true (may_keep f) (first-of (not (may_keep f)) (keeper (byte_of f)) p.0 (ap keeper (sym (eqb-true v (byte_of f) is)) ∙ none)))
    (λ _. no-keeper fs v p.1 none)
  where
    first-of : (a b : Bool) → (a || b) ≡ true → b ≡ false → a ≡ true
    first-of true b h k = refl
    first-of false b h k = absurd (false≢true (sym k ∙ h))

names-no-keeper : (v : ℕ) → keeper v ≡ false → found_keeps (first_of v) ≡ false
unfolding first_of row_of
names-no-keeper v none = no-keeper first_commands v refl none

found-loses : (d : Decoder) (k : Option First) → found_keeps k ≡ false → first_kept d k ≡ output.Nothing
found-loses d None h = refl
found-loses d (Some f) h =
    let p = neither (gives_status f) (eqb (byte_of f) 0x00) h in
    ap (λ (x : Bool). pick x (remembered d) (pick (eqb (byte_of f) 0x00 && shows_status d.output) d.kept output.Nothing)) p.0
    ∙ ap (λ (x : Bool). pick (x && shows_status d.output) d.kept output.Nothing) p.1

-- Refusals.

-- of the refusals that a rule gives only the first, a bad record's, has number 12, and none has 13
abbrev special : Refusal → Bool
special q = eqb (number_of q) 12 || eqb (number_of q) 13

abbrev ordinary : List Rule → Bool
ordinary [] = true
ordinary (r ∷ rs) = not (special r.gives) && ordinary rs

speaks : (x : Bool) (r : Refusal) (v : Result Unit Refusal) (q : Refusal) → or_else x r v ≡ Err q → special r ≡ false → (v ≡ Err q → special q ≡ false) → special q ≡ false
unfolding or_else
speaks true r v q h own rest =
    let is : Err r ≡ Err q = h in
    let same : r ≡ q = cc in
    subst (λ (x : Refusal). special x ≡ false) same own
speaks false r v q h own rest = rest h

ordinary-speaks : (rs : List Rule) (q : Refusal) → ordinary rs ≡ true → first_holding rs ≡ Err q → special q ≡ false
ordinary-speaks [] q h k = let z : ◌≡◌ {A = ℕ} 0 1 = cc in absurd (omega arith)
ordinary-speaks (r ∷ rs) q h k =
    let p = both (not (special r.gives)) (ordinary rs) h in
    speaks r.holds r.gives (first_holding rs) q k (not-true (special r.gives) p.0) (ordinary-speaks rs q p.1)

bad-speaks : (x : Bool) (v : Result Unit Refusal) (q : Refusal) → or_else x BadRecord v ≡ Err q → special q ≡ true → (v ≡ Err q → special q ≡ false) → x ≡ true
unfolding or_else
bad-speaks true v q h own rest = refl
bad-speaks false v q h own rest = absurd (false≢true (sym (rest h) ∙ own))

abbrev later : List Rule → List Rule
later [] = []
later (r ∷ rs) = rs

-- 12 is a bad record's
special-bad : (t : Target) (e : Event) (q : Refusal) → verdict t e ≡ Err q → special q ≡ true → bad_record e ≡ true
unfolding verdict rules
special-bad t e q h own = bad-speaks (bad_record e) _ q h own (λ k. ordinary-speaks (later (rules t e)) q refl k)

good-speaks : (x : Bool) (v : Result Unit Refusal) (q : Refusal) → or_else x BadRecord v ≡ Err q → eqb (number_of q) 12 ≡ false → x ≡ false
unfolding or_else
good-speaks true v q h other =
    let is : Err BadRecord ≡ Err q = h in
    let same : BadRecord ≡ q = cc in
    absurd (false≢true (sym (subst (λ (x : Refusal). eqb (number_of x) 12 ≡ false) (sym same) other)))
good-speaks false v q h other = refl

good-record : (t : Target) (e : Event) (q : Refusal) → verdict t e ≡ Err q → eqb (number_of q) 12 ≡ false → bad_record e ≡ false
unfolding verdict rules
good-record t e q h other = good-speaks (bad_record e) _ q h other

module _ (t : Target) (e : Event) (params : List ℕ) (b : Buffers) (flags : List ℕ) (q : Refusal) (h : (step_of t e params b flags).reply ≡ reply.Refused q) where
  -- the record after the refusal of an event that rule 13 lets pass
  refused-target : lets_pass t params b flags ≡ true → (step_of t e params b flags).target ≡ target_refused t e
  unfolding by_verdict
  refused-target ok = ap (λ (o : Outcome). o.target) (decided t e params b flags (Err q) ok (refused-by t e params b flags q h ok))

  abbrev refused_with : Bool → Target
  refused_with x = record {
    powered = t.powered;
    geometry = t.geometry;
    words = t.words;
    ids = t.ids;
    high = t.high;
    clear = t.clear;
    seen = t.seen;
    selected = t.selected;
    luns = t.luns;
    decoder = pick x dropped t.decoder;
  }

  refused_as : target_refused t e ≡ refused_with (is_bus e && not (bad_record e))
  unfolding target_refused
  refused_as = refl

  unusable : (x : Bool) → lets_pass t params b flags ≡ x → eqb (number_of q) 13 ≡ false → lets_pass t params b flags ≡ true
  unusable true is k = is
  unusable false is k =
      let told : reply.Refused NotUsable ≡ reply.Refused q = sym (ap (λ (o : Outcome). o.reply) (not-usable t e params b flags is)) ∙ h in
      let same : NotUsable ≡ q = cc in
      absurd (false≢true (sym (subst (λ (x : Refusal). eqb (number_of x) 13 ≡ false) (sym same) k)))

  loses : is_bus e ≡ true → eqb (number_of q) 12 ≡ false → eqb (number_of q) 13 ≡ false → (step_of t e params b flags).target.decoder ≡ dropped
  loses bus k l =
      let ok = unusable (lets_pass t params b flags) refl l in
      let good = good-record t e q (refused-by t e params b flags q h ok) k in
      ap (λ (x : Target). x.decoder) (refused-target ok ∙ refused_as)
      ∙ ap (λ (x : Bool). pick (x && not (bad_record e)) dropped t.decoder) bus
      ∙ ap (λ (x : Bool). pick (not x) dropped t.decoder) good

  keeps-by : (x bus : Bool) → lets_pass t params b flags ≡ x → is_bus e ≡ bus → (not bus || eqb (number_of q) 12 || eqb (number_of q) 13) ≡ true → (step_of t e params b flags).target ≡ t
  keeps-by false bus is kind k = ap (λ (o : Outcome). o.target) (not-usable t e params b flags is)
  keeps-by true false is kind k = refused-target is ∙ refused_as ∙ ap (λ (x : Bool). refused_with (x && not (bad_record e))) kind
  keeps-by true true is kind k =
      refused-target is ∙ refused_as ∙ ap (λ (x : Bool). refused_with (x && not (bad_record e))) kind
      ∙ ap (λ (x : Bool). refused_with (not x)) (special-bad t e q (refused-by t e params b flags q h is) k)

  keeps : (not (is_bus e) || eqb (number_of q) 12 || eqb (number_of q) 13) ≡ true → (step_of t e params b flags).target ≡ t
  keeps k = keeps-by (lets_pass t params b flags) (is_bus e) refl refl k

-- a bench event
module _ (t : Target) (e : Event) (bench : is_bus e ≡ false) where
  other-kind : (k : ℕ) → k < 4 → eqb e.kind k ≡ false
  other-kind k low = ne_eqb e.kind k (λ (is : e.kind ≡ k). let far = ltb-false e.kind 4 bench in omega arith)

  bench-leaves : decoding (sequence_after t.decoder e) (output_after t.geometry t.selected t.decoder e) (kept_after t.geometry t.decoder e) ≡ t.decoder
  unfolding sequence_after output_after kept_after
  bench-leaves =
      let n0 = other-kind 0 (omega arith) in
      let n1 = other-kind 1 (omega arith) in
      let n2 = other-kind 2 (omega arith) in
      let n3 = other-kind 3 (omega arith) in
      rw (n0, n1, n2, n3)

-- Data out after a bare 00h.

-- what is kept comes out
bare-out : (t : Target) (low : ℕ) → t.decoder.sequence ≡ bare low → put_out t.decoder ≡ t.decoder.kept
unfolding row_of
bare-out t low s = ap (λ (x : Sequence). pick (is_bare x) t.decoder.kept t.decoder.output) s

-- the byte put out does not depend on the decoder
same_byte : (t : Target) (o : Output) (params registers : List ℕ) (w : Output) → output_byte (putting t o) params registers w ≡ output_byte t params registers w
unfolding output_byte status_of
same_byte t o params registers output.Nothing = refl
same_byte t o params registers (output.Register l c) = refl
same_byte t o params registers (output.Parameters at) = refl
same_byte t o params registers (output.Status l) = refl
same_byte t o params registers (output.Ids at) = refl
same_byte t o params registers (output.Signature at) = refl
same_byte t o params registers (output.Feature at) = refl

module _ (t : Target) (params : List ℕ) (b : Buffers) (flags : List ℕ) (low : ℕ) (s : t.decoder.sequence ≡ bare low) where
  -- the verdict is the one on that output
  same-verdict : verdict t data_out ≡ verdict (putting t t.decoder.kept) data_out
  same-verdict = on_out_lem t ∙ ap (on_out t t.seen) (bare-out t low s) ∙ sym (on_out_lem (putting t t.decoder.kept))

  -- what an accepted cycle leaves, by the place
  abbrev leaving : Sequence → Outcome
  leaving x = record {
    reply = reply.Byte (output_byte t params b.registers (pick (is_bare x) t.decoder.kept t.decoder.output));
    target = record {
      powered = t.powered;
      geometry = t.geometry;
      words = t.words;
      ids = t.ids;
      high = t.high;
      clear = t.clear;
      seen = t.seen || false;
      selected = t.selected;
      luns = t.luns;
      decoder = decoding (pick (is_bare x) Idle x) (advanced (pick (is_bare x) t.decoder.kept t.decoder.output)) (pick (is_bare x) output.Nothing t.decoder.kept);
    };
    buffers = b;
  }

  leaves : accepted t data_out params b flags ≡ leaving t.decoder.sequence
  unfolding accepted accepted_by reply_of worked work_of target_after luns_after sequence_after output_after kept_after selected_after clear_after high_after registers_after array_after counts_after
  leaves = refl

  bare-leaves : accepted t data_out params b flags ≡ leaving (bare low)
  bare-leaves = leaves ∙ ap leaving s

  abbrev plainly : ℕ → Outcome
  plainly v = record {
    reply = reply.Byte v;
    target = record {
      powered = t.powered;
      geometry = t.geometry;
      words = t.words;
      ids = t.ids;
      high = t.high;
      clear = t.clear;
      seen = t.seen || false;
      selected = t.selected;
      luns = t.luns;
      decoder = decoding Idle (advanced t.decoder.kept) output.Nothing;
    };
    buffers = b;
  }

  bare-plainly : leaving (bare low) ≡ plainly (output_byte t params b.registers t.decoder.kept)
  unfolding row_of
  bare-plainly = refl

  plain-leaves : accepted (putting t t.decoder.kept) data_out params b flags ≡ plainly (output_byte (putting t t.decoder.kept) params b.registers t.decoder.kept)
  unfolding accepted accepted_by reply_of worked work_of target_after luns_after sequence_after output_after kept_after selected_after clear_after high_after registers_after array_after counts_after
  plain-leaves = refl

  same-accepted : accepted t data_out params b flags ≡ accepted (putting t t.decoder.kept) data_out params b flags
  same-accepted = bare-leaves ∙ bare-plainly ∙ ap plainly (sym (same_byte t t.decoder.kept params b.registers t.decoder.kept)) ∙ sym plain-leaves

  same_by : (v : Result Unit Refusal) → by_verdict v t data_out params b flags ≡ by_verdict v (putting t t.decoder.kept) data_out params b flags
  unfolding by_verdict target_refused bad_record
  same_by (Ok tt) = same-accepted
  same_by (Err r) = refl

  module _ (ok : lets_pass t params b flags ≡ true) where
    plain-sound : record_sound (putting t t.decoder.kept) ≡ true
    plain-sound =
        let k = sound t (passes t params b.array b.registers b.counts flags ok).record-sound in
        let held = (both (output_sound t.geometry t.decoder.kept) (not (shows_status t.decoder.kept)) k.kept).0 in
        all_sound (putting t t.decoder.kept) k.powered k.limited k.words k.selected k.marks refl held refl

    plain_passes : lets_pass (putting t t.decoder.kept) params b flags ≡ true
    plain_passes = refit t (putting t t.decoder.kept) params b b flags ok plain-sound refl refl refl refl

    pub going_on : step_of t data_out params b flags ≡ step_of (putting t t.decoder.kept) data_out params b flags
    going_on =
        let n = putting t t.decoder.kept in
        decided t data_out params b flags (verdict t data_out) ok refl
        ∙ same_by (verdict t data_out)
        ∙ sym (decided n data_out params b flags (verdict t data_out) plain_passes (sym same-verdict))

-- Output, 70h, 00h and data out.

-- the record with this mark of the first FFh and this decoder
abbrev made : Target → Bool → Decoder → Target
made t seen d = record {
  powered = t.powered;
  geometry = t.geometry;
  words = t.words;
  ids = t.ids;
  high = t.high;
  clear = t.clear;
  seen = seen;
  selected = t.selected;
  luns = t.luns;
  decoder = d;
}

-- 00h is accepted with no sequence open
fits-00 : (t : Target) (o k : Output) → verdict (made t true (decoding Idle o k)) (command 0x00) ≡ (Ok tt)
unfolding or_else row_of first_of second_of second_row class_of offered before_reset unknown misplaced fits others_busy line_low
fits-00 t o k = command-verdict (made t true (decoding Idle o k)) 0x00

module _ (t : Target) (params : List ℕ) (b : Buffers) (flags : List ℕ) where
  abbrev done : Target → Outcome
  done n = record { reply = reply.Accepted; target = n; buffers = b }

  seen-before : Taken t params b flags (command 0x70) → t.seen ≡ true
  unfolding before_reset
  seen-before h = not-false t.seen (all-passed t (command 0x70) (taken t (command 0x70) params b flags h).1).rule-2

  abbrev polling : Target
  polling = made t true (decoding Idle (output.Status t.selected) t.decoder.output)

  abbrev asked : Target
  asked = made t true (decoding (bare 0) output.Nothing t.decoder.output)

  after-70 : shows_status t.decoder.output ≡ false → Taken t params b flags (command 0x70) → step_of t (command 0x70) params b flags ≡ done polling
  unfolding accepted accepted_by reply_of worked work_of target_after luns_after sequence_after output_after kept_after selected_after clear_after high_after registers_after array_after counts_after row_of first_of
  after-70 none h =
      left-first t params b flags 0x70 refl none-70 h
      ∙ ap (λ (x : Bool). done (made t (x || false) (decoding Idle (output.Status t.selected) (remembered t.decoder)))) (seen-before h)
      ∙ ap (λ (x : Bool). done (made t true (decoding Idle (output.Status t.selected) (pick x t.decoder.kept t.decoder.output)))) none

  module _ (none : shows_status t.decoder.output ≡ false) (h : Taken t params b flags (command 0x70)) where
    polling-passes : lets_pass polling params b flags ≡ true
    polling-passes =
        subst (λ (x : Outcome). lets_pass x.target params x.buffers flags ≡ true) (after-70 none h)
        (step-usable t (command 0x70) params b flags (taken t (command 0x70) params b flags h).0)

    after-00 : step_of polling (command 0x00) params b flags ≡ done asked
    unfolding accepted accepted_by reply_of worked work_of target_after luns_after sequence_after output_after kept_after selected_after clear_after high_after registers_after array_after counts_after row_of first_of
    after-00 = accepts polling (command 0x00) params b flags polling-passes (fits-00 t (output.Status t.selected) t.decoder.output)

    asked-passes : lets_pass asked params b flags ≡ true
    asked-passes =
        subst (λ (x : Outcome). lets_pass x.target params x.buffers flags ≡ true) after-00
        (step-usable polling (command 0x00) params b flags polling-passes)

    polled : next t params b flags (next t params b flags (step_of t (command 0x70) params b flags) (command 0x00)) data_out ≡ step_of (putting t t.decoder.output) data_out params b flags
    polled =
        ap (λ (x : Outcome). next t params b flags (next t params b flags x (command 0x00)) data_out) (after-70 none h)
        ∙ ap (λ (x : Outcome). next t params b flags x data_out) after-00
        ∙ going_on asked params b flags 0 refl asked-passes
        ∙ ap (λ (x : Bool). step_of (made t x (decoding Idle t.decoder.output output.Nothing)) data_out params b flags) (sym (seen-before h))

-- Verdicts at a bare 00h, and of 05h within the parameter page.

module _ (t : Target) (low : ℕ) where
  address-00 : (v : ℕ) → verdict (put t true (bare low) t.decoder.output) (address v) ≡ (Ok tt)
  unfolding or_else row_of before_reset misplaced fits out_of_range lun_works no_copyback
  address-00 v = address-verdict (put t true (bare low) t.decoder.output) v

  line-00 : (level : ℕ) → ltb 1 level ≡ false → verdict (put t true (bare low) t.decoder.output) (protect level) ≡ Err LineHeld
  unfolding or_else bad_record line_held
  line-00 level h = protect-verdict (put t true (bare low) t.decoder.output) level ∙ (rw (h, or-true (any_works t.luns)))

  command-00 : (v : ℕ) → eqb v 0xff ≡ false → (is_known (class_of v) && offered t.words true v) ≡ true → verdict (put t true (bare low) t.decoder.output) (command v) ≡ Err Misplaced
  unfolding or_else before_reset unknown misplaced fits
  command-00 v h k = command-verdict (put t true (bare low) t.decoder.output) v ∙ (rw (h, k))

  low-05 : (v : ℕ) → verdict (put t true (column first.ChangeColumnInPage 0 low) t.decoder.output) (address v) ≡ (Ok tt)
  unfolding or_else row_of before_reset misplaced fits out_of_range lun_works no_copyback
  low-05 v = address-verdict (put t true (column first.ChangeColumnInPage 0 low) t.decoder.output) v

  within-05 : (v : ℕ) → (column_from low v).0 < 768 → verdict (put t true (column first.ChangeColumnInPage 1 low) t.decoder.output) (address v) ≡ (Ok tt)
  unfolding or_else row_of before_reset misplaced fits out_of_range lun_works no_copyback
  within-05 v h =
      address-verdict (put t true (column first.ChangeColumnInPage 1 low) t.decoder.output) v ∙ (rw (lt-leb 768 (column_from low v).0 h))

  beyond-05 : (v : ℕ) → 768 ≤ (column_from low v).0 → verdict (put t true (column first.ChangeColumnInPage 1 low) t.decoder.output) (address v) ≡ Err OutOfRange
  unfolding or_else row_of before_reset misplaced fits out_of_range
  beyond-05 v h =
      address-verdict (put t true (column first.ChangeColumnInPage 1 low) t.decoder.output) v ∙ (rw (le-leb 768 (column_from low v).0 h))

fits-e0 : (t : Target) (c : Column) (r : Row) → verdict (put t true (due first.ChangeColumnInPage c r) t.decoder.output) (command 0xe0) ≡ (Ok tt)
unfolding or_else row_of first_of second_of second_row class_of offered before_reset unknown misplaced fits others_busy line_low
fits-e0 t c r = command-verdict (put t true (due first.ChangeColumnInPage c r) t.decoder.output) 0xe0

nothing-out : (t : Target) → on_out t true output.Nothing ≡ Err Misplaced
unfolding or_else
nothing-out t = refl

early-out : (t : Target) (l : ℕ) (at : Column) → works t.luns l ≡ true → on_out t true (output.Register l at) ≡ Err LunWorks
unfolding or_else
early-out t l at h = rw (h)

-- what has ended has begun
has-begun : (g : Geometry) (o : Output) → output_ended g o ≡ true → has_output o ≡ true
has-begun g output.Nothing h = h
has-begun g (output.Register l c) h = refl
has-begun g (output.Parameters at) h = refl
has-begun g (output.Status l) h = refl
has-begun g (output.Ids at) h = refl
has-begun g (output.Signature at) h = refl
has-begun g (output.Feature at) h = refl

module _ (t : Target) (params : List ℕ) (b : Buffers) (flags : List ℕ) where
  -- an event accepted at a place, once the first FFh has come
  taken_at : (s : Sequence) (e : Event) → t.decoder.sequence ≡ s → Live t params b flags → verdict (put t true s t.decoder.output) e ≡ (Ok tt)
      → step_of t e params b flags ≡ accepted (put t true s t.decoder.output) e params b flags
  taken_at s e at live h =
      accepts t e params b flags live.passes (verdict-at t params b flags s e at live ∙ h)
      ∙ ap (λ (x : Target). accepted x e params b flags) (seen_at t s live.seen at)

  pub polling-loaders : Polling t params b flags
  unfolding accepted accepted_by reply_of worked work_of target_after luns_after sequence_after output_after kept_after findings registers_after array_after counts_after row_of first_of second_of second_row
  polling-loaders = record {
    keeps = λ none h.
        ap (λ (o : Outcome). o.target.decoder.kept) (left-first t params b flags 0x70 refl none-70 h)
        ∙ ap (λ (x : Bool). pick x t.decoder.kept t.decoder.output) none;
    hands_on = λ l s h.
        ap (λ (o : Outcome). o.target.decoder.kept) (left-first t params b flags 0x70 refl none-70 h)
        ∙ ap (λ (x : Output). pick (shows_status x) t.decoder.kept x) s;
    holds = λ h. ap (λ (o : Outcome). o.target.decoder) (left-first t params b flags 0x78 refl none-78 h);
    still-holds = λ f c got low mid v more s h.
        ap (λ (o : Outcome). o.target.decoder.kept) (left_at t (address v) params b flags (row f c got low mid) s h)
        ∙ ap (λ (x : Bool). row_kept t.geometry (pick x (Some (given.Row (record { first = f; row = row_from low mid v }))) None) t.decoder.kept) more;
    row_keeps = λ c at low mid v s h is.
        let l = lun_of t.geometry (row_from low mid v) in
        ap (λ (d : Decoder). d.kept) ((status t params b flags).of_row c low mid v s h)
        ∙ ap (λ (x : Bool). pick x t.decoder.kept output.Nothing) (ap (is_register_of l) is ∙ eq-eqb l l refl);
    row-loses = λ c low mid v s h other.
        let l = lun_of t.geometry (row_from low mid v) in
        ap (λ (d : Decoder). d.kept) ((status t params b flags).of_row c low mid v s h)
        ∙ ap (λ (x : Bool). pick x t.decoder.kept output.Nothing)
        (not_yes (is_register_of l t.decoder.kept) (λ is. let p = register_of l t.decoder.kept is in other p.0 p.1));
    asks = λ l s h.
        ap (λ (o : Outcome). o.target.decoder) (left-first t params b flags 0x00 refl none-00 h)
        ∙ ap (λ (x : Output). decoding (bare 0) output.Nothing (pick (shows_status x) t.decoder.kept output.Nothing)) s;
    goes_on = λ low s ok. going_on t params b flags low s ok;
    next-byte = λ low s h.
        let p = left_by t data_out params b flags h ∙ bare-leaves t params b flags low s ∙ bare-plainly t params b flags low s in
        (ap (λ (o : Outcome). o.reply) p, ap (λ (o : Outcome). o.target.decoder) p, ap (λ (o : Outcome). o.buffers) p);
    gives = λ low s live begun ready more.
        ap (λ (o : Outcome). o.reply)
        (given_out t params b flags t.decoder.kept (bare-out t low s) live begun ready more ∙ bare-leaves t params b flags low s ∙ bare-plainly t params b flags low s);
    too-early = λ low l at s live is h.
        refuses t data_out params b flags LunWorks 5 refl live.passes
        (puts-out t (output.Register l at) live.seen (bare-out t low s ∙ is) ∙ early-out t l at h);
    all-given = λ low s live ready h.
        ended t params b flags t.decoder.kept (bare-out t low s) live (has-begun t.geometry t.decoder.kept h) ready h;
    polled = λ none h. polled t params b flags none h;
    no-status = λ none h.
        ap (λ (o : Outcome). o.target.decoder) (left-first t params b flags 0x00 refl none-00 h)
        ∙ ap (λ (x : Bool). decoding (bare 0) output.Nothing (pick x t.decoder.kept output.Nothing)) none;
    other-loses = λ v none s h.
        ap (λ (o : Outcome). o.target.decoder.kept) (left_at t (command v) params b flags Idle s h)
        ∙ by-pick (λ (x : Output). x ≡ output.Nothing) (eqb v 0xff) output.Nothing _ (λ _. refl)
        (λ _. found-loses (decoding Idle t.decoder.output t.decoder.kept) (first_of v) (names-no-keeper v none));
    refused-loses = λ e q h bus k l. loses t e params b flags q h bus k l;
    refused-keeps = λ e q h k. keeps t e params b flags q h k;
    bench-keeps = λ e bench h. ap (λ (o : Outcome). o.target.decoder) (left_by t e params b flags h) ∙ bench-leaves t e bench;
    none_kept = λ low s live is.
        refuses t data_out params b flags Misplaced 3 refl live.passes
        (puts-out t output.Nothing live.seen (bare-out t low s ∙ is) ∙ nothing-out t);
    plain-read = λ low v s h. ap (λ (o : Outcome). o.target.decoder) (left_at t (address v) params b flags (bare low) s h);
    plain-taken = λ low v s live. ap (λ (o : Outcome). o.reply) (taken_at (bare low) (address v) s live (address-00 t low v));
    line-held = λ low level h s live.
        refuses t (protect level) params b flags LineHeld 11 refl live.passes
        (verdict-at t params b flags (bare low) (protect level) s live ∙ line-00 t low level h);
    no-command = λ low v h k s live.
        refuses t (command v) params b flags Misplaced 3 refl live.passes
        (verdict-at t params b flags (bare low) (command v) s live ∙ command-00 t low v h k);
    in-page = λ is h.
        ap (λ (o : Outcome). o.target.decoder) (left-first t params b flags 0x05 refl none-05 h)
        ∙ ap (λ (x : Bool). decoding (opened (pick x (Some first.ChangeColumnInPage) (Some first.ChangeColumn))) output.Nothing output.Nothing) is;
    in-register = λ is h.
        ap (λ (o : Outcome). o.target.decoder) (left-first t params b flags 0x05 refl none-05 h)
        ∙ ap (λ (x : Bool). decoding (opened (pick x (Some first.ChangeColumnInPage) (Some first.ChangeColumn))) output.Nothing output.Nothing) is;
    page-low = λ low v s live.
        let p = taken_at (column first.ChangeColumnInPage 0 low) (address v) s live (low-05 t low v) in
        (ap (λ (o : Outcome). o.reply) p, ap (λ (o : Outcome). o.target.decoder) p);
    page-high = λ low v s live h.
        let p = taken_at (column first.ChangeColumnInPage 1 low) (address v) s live (within-05 t low v h) in
        (ap (λ (o : Outcome). o.reply) p, ap (λ (o : Outcome). o.target.decoder) p);
    page-beyond = λ low v s live h.
        refuses t (address v) params b flags OutOfRange 4 refl live.passes
        (verdict-at t params b flags (column first.ChangeColumnInPage 1 low) (address v) s live ∙ beyond-05 t low v h);
    page-out = λ c r s live.
        let p = taken_at (due first.ChangeColumnInPage c r) (command 0xe0) s live (fits-e0 t c r) in
        (ap (λ (o : Outcome). o.reply) p, ap (λ (o : Outcome). o.target.decoder) p, ap (λ (o : Outcome). o.target.luns) p, ap (λ (o : Outcome). o.buffers) p);
  }
