-- The cycles that a part with every option takes, as ways between targets whose LUNs are all ready.
-- Assumes nothing.
use mathlib.Core.Path.{◌≡◌, refl, ap, ◌∙◌}
use mathlib.Core.Bool.{Bool, true, false, ◌&&◌, not}
use mathlib.Core.List.{List}
use Prim.Native.Nat.{ℕ, zero, suc, ◌≤◌}
use native.Mathlib.Omega.{arith}
use lib.Dec.{eqb}
use borrow.Author.Tests.{leb-true, not-true}
use Rattle.target.specs.Pick.{pick, or_else}
use Rattle.target.specs.Address.{lun_of}
use Rattle.target.specs.Words.{bit_of}
use Rattle.target.specs.Commands.{class_of, offered, row_of, byte_of, needs_ready, waits_for, gives_status, first_of, second_of, second_row}
use Rattle.target.specs.Views.{completed, taking}
use Rattle.target.specs.Luns.{lun_ready, lun_at, works, blank_at}
use Rattle.target.specs.Events.{bad_record}
use Rattle.target.specs.Place.{is_open, is_bare, first_here, takes_address, takes_data, has_output}
use Rattle.target.specs.declared.Geometry.{Geometry}
use Rattle.target.specs.declared.Lun.{Lun}
use Rattle.target.specs.declared.Decoder.{Decoder}
use Rattle.target.specs.declared.Target.{Target}
use Rattle.target.specs.declared.Findings.{Findings}
use Rattle.target.specs.declared.First.{First}
use Rattle.target.specs.declared.First.TheVariants.{Read, ChangeColumnEnhanced}
use Rattle.target.specs.declared.Wait.{Wait}
use Rattle.target.specs.declared.Fill.{Fill}
use Rattle.target.specs.declared.Sequence.{Sequence}
use Rattle.target.specs.declared.Sequence.TheVariants.{Idle, Due, Filling}
use Rattle.target.specs.declared.Output.{Output}
use Rattle.target.specs.declared.Output.TheVariants as output
use Rattle.target.specs.declared.commands.Waits.{Waits}
use Rattle.target.specs.declared.commands.Waits.TheVariants as waits
use Rattle.target.specs.declared.views.Given.{Given}
use Rattle.target.specs.declared.views.Given.TheVariants as given
use Rattle.rules.specs.Rules.{unknown, before_reset, fits, misplaced, beyond, out_of_range, names_working, output_works, lun_works, lacks_copyback, no_copyback, work_for, others_work_for, others_busy, is_guarded, line_low, data_ended, output_ended, past_end, unoffered, not_offered}
use Rattle.rules.specs.Rules as rules
use Rattle.rules.proofs.ByKind.{event, command-verdict, address-verdict, in-verdict, out-verdict}
use Rattle.effects.specs.Effects.{opened, addressed, filled, sequence_after, first_output, addressed_output, advanced, output_after, row_selects, selected_after, clear_set, clear_after, high_after, target_after}
use Rattle.memory.specs.Memory.{first_kept, row_kept, kept_after}
use Rattle.lun_records.specs.LunsAfter.{addressed_luns, luns_after}
use Rattle.step.specs.Buffers.{findings}
use Rattle.thm_tight.proofs.Commands.{every, fresh}
use Rattle.thm_tight.proofs.Part.{Part, Fine, flags_of}
use Rattle.thm_tight.proofs.Ways.{Way, found_in, at-power, onward}
use Rattle.std.specs.Prelude.{None, Ok, Option, Some}

-- a part with every option
abbrev pub full : Geometry → ℕ → Part
full g bad = record {
  geometry = g;
  words = every;
  maker = 0;
  device = 0;
  bad = bad;
}

-- after FFh, with these LUN records, a LUN selected, a sequence, an output and one that is kept
abbrev pub keeping : Geometry → List Lun → ℕ → Sequence → Output → Output → Target
keeping g luns selected s o kept = record {
  powered = true;
  geometry = g;
  words = every;
  ids = record { maker = 0; device = 0 };
  high = true;
  clear = false;
  seen = true;
  selected = selected;
  luns = luns;
  decoder = record { sequence = s; output = o; kept = kept };
}

-- with none kept
abbrev pub standing : Geometry → List Lun → ℕ → Sequence → Output → Target
standing g luns selected s o = keeping g luns selected s o output.Nothing

-- no sequence open, none kept
abbrev pub resting : Output → Decoder
resting o = record { sequence = Idle; output = o; kept = output.Nothing }

-- the LUN records that power-on makes, which FFh leaves as they are
abbrev pub ready_luns : Geometry → ℕ → List Lun
ready_luns g bad = found_in (full g bad)

-- with every LUN so
abbrev pub stand : Geometry → ℕ → ℕ → Sequence → Output → Target
stand g bad selected s o = standing g (ready_luns g bad) selected s o

pub and_no : (b : Bool) → (b && false) ≡ false
and_no true = refl
and_no false = refl

-- No LUN works.

pub ready_at : (g : Geometry) (bad l : ℕ) → lun_at (ready_luns g bad) l ≡ lun_ready (blank_at (ready_luns g bad) l)
ready_at g bad zero = refl
ready_at g bad (suc zero) = refl
ready_at g bad (suc (suc zero)) = refl
ready_at g bad (suc (suc (suc zero))) = refl
ready_at g bad (suc (suc (suc (suc l)))) = refl

pub works-not : (g : Geometry) (bad l : ℕ) → works (ready_luns g bad) l ≡ false
works-not g bad l = ap (λ (x : Lun). x.working) (ready_at g bad l)

-- no LUN works
abbrev pub Calm : List Lun → Type 0
Calm luns = (l : ℕ) → works luns l ≡ false

-- what an address completes asks for no copyback, and closes none
pub record Unasked (g : Geometry) (luns : List Lun) (k : Option Given) : Type 0 where
  pub lacks : lacks_copyback g luns k ≡ false
  pub closes : addressed_luns g luns k ≡ luns

module _ (luns : List Lun) (calm : Calm luns) where
  asked-not : (b : Bool) (l : ℕ) → (b && works luns l) ≡ false
  asked-not b l = rw (calm l) (and_no b)

  names-not : (g : Geometry) (selected : ℕ) (k : Option Given) → names_working g luns selected k ≡ false
  names-not g selected None = refl
  names-not g selected (Some (given.Column k)) = asked-not k.asks selected
  names-not g selected (Some (given.Row k)) = asked-not (needs_ready k.first) (lun_of g k.row)
  names-not g selected (Some (given.Single k)) = refl

  work-not : (selected : ℕ) (w : Waits) → work_for luns selected w ≡ false
  work-not selected waits.Nobody = refl
  work-not selected waits.Others =
      rw (
        asked-not (not (eqb selected 0)) 0,
        asked-not (not (eqb selected 1)) 1,
        asked-not (not (eqb selected 2)) 2,
        asked-not (not (eqb selected 3)) 3,
      )
  work-not selected waits.All = rw (calm 0, calm 1, calm 2, calm 3)

  others-not : (selected : ℕ) (found : Option First) → others_work_for luns selected found ≡ false
  others-not selected None = refl
  others-not selected (Some f) = work-not selected (waits_for f)

  -- A first command, with no sequence open.

  module _ (g : Geometry) (selected : ℕ) (o : Output) (f : First) where
    abbrev opening : Target
    opening = standing g luns selected Idle o

    is_known : unknown every Idle (event 0 (byte_of f)) ≡ false
    unfolding unknown
    is_known = let p = fresh f in rw (p.0, p.1)

    is-fit : misplaced opening.decoder (event 0 (byte_of f)) ≡ false
    unfolding misplaced fits
    is-fit = let p = fresh f in rw (not-true (eqb (byte_of f) 0xff) p.3, p.2)

    is_free : others_busy luns selected (event 0 (byte_of f)) ≡ false
    unfolding others_busy
    is_free = others-not selected (first_of (byte_of f))

    is_seen : before_reset true (event 0 (byte_of f)) ≡ false
    unfolding before_reset
    is_seen = and_no (not (eqb (byte_of f) 0xff))

    is-high : line_low true (event 0 (byte_of f)) ≡ false
    unfolding line_low
    is-high = and_no (is_guarded (second_of (byte_of f)))

    opens : rules.verdict opening (event 0 (byte_of f)) ≡ (Ok tt)
    unfolding or_else
    opens = command-verdict opening (byte_of f) ∙ rw (is_seen, is_known, is-fit, is_free, is-high)

    -- which first command the byte is, the place says
    abbrev pub opened-to : Target
    opened-to =
        keeping g luns selected (opened (first_here (resting o) (byte_of f))) (first_output selected (first_of (byte_of f))) (first_kept (resting o) (first_of (byte_of f)))

    opened-by : (found : Findings) → target_after opening (event 0 (byte_of f)) found ≡ opened-to
    unfolding target_after high_after clear_after selected_after luns_after sequence_after output_after kept_after
    opened-by found = let p = fresh f in rw (not-true (eqb (byte_of f) 0xff) p.3)

-- the second commands that the ways go by
pub data Second : Sequence → ℕ → Type 0 where
  showing : {k : Wait} → k.first ≡ ChangeColumnEnhanced → Second (Due k) 0xe0
  copying : {k : Wait} → k.first ≡ Read → Second (Due k) 0x35
  moving : {k : Fill} → Second (Filling k) 0x85
  programming : {k : Fill} → Second (Filling k) 0x10

second-small : {s : Sequence} {v : ℕ} → Second s v → v ≤ 255
second-small (showing e) = omega arith
second-small (copying e) = omega arith
second-small moving = omega arith
second-small programming = omega arith

-- for each no LUN is waited for
second-known : {s : Sequence} {v : ℕ} (luns : List Lun) → Second s v → (unknown every s (event 0 v) ≡ false) × ((selected : ℕ) → others_busy luns selected (event 0 v) ≡ false)
unfolding unknown others_busy class_of offered row_of first_of second_of second_row bit_of
second-known luns (showing e) = (refl, λ _. refl)
second-known luns (copying e) = (refl, λ _. refl)
second-known luns moving = (refl, λ _. refl)
second-known luns programming = (refl, λ _. refl)

second_fits : {s : Sequence} {v : ℕ} (o : Output) → Second s v → misplaced (record { sequence = s; output = o; kept = output.Nothing }) (event 0 v) ≡ false
unfolding misplaced fits row_of second_of second_row
second_fits o (showing e) = rw (e)
second_fits o (copying e) = rw (e)
second_fits o moving = refl
second_fits o programming = refl

second-accepted : (g : Geometry) (luns : List Lun) (selected : ℕ) (o : Output) {s : Sequence} {v : ℕ} → Second s v → rules.verdict (standing g luns selected s o) (event 0 v) ≡ (Ok tt)
unfolding or_else before_reset line_low
second-accepted g luns selected o {s} {v} which =
    let p = second-known luns which in
    command-verdict (standing g luns selected s o) v
    ∙ rw (and_no (not (eqb v 0xff)), p.0, second_fits o which, p.1 selected, and_no (is_guarded (second_of v)))

reset-accepted : (t : Target) → rules.verdict t (event 0 0xff) ≡ (Ok tt)
unfolding or_else before_reset unknown class_of offered misplaced fits others_busy line_low row_of first_of second_of second_row
reset-accepted t = command-verdict t 0xff ∙ rw (and_no (is_open t.decoder.sequence))

-- where none is kept an address leaves none
none_kept : (g : Geometry) (bare : Bool) (k : Option Given) → pick bare output.Nothing (row_kept g k output.Nothing) ≡ output.Nothing
none_kept g true k = refl
none_kept g false None = refl
none_kept g false (Some (given.Column k)) = refl
none_kept g false (Some (given.Row k)) = by (gives_status k.first && true)
  where
    by : (b : Bool) → pick b output.Nothing output.Nothing ≡ output.Nothing
    by true = refl
    by false = refl
none_kept g false (Some (given.Single k)) = refl

-- the rules that each of the other cycles can meet
module _ (g : Geometry) (luns : List Lun) (calm : Calm luns) (selected : ℕ) (s : Sequence) (o : Output) where
  address-accepted : (v : ℕ) → takes_address s ≡ true → beyond g (completed s v) ≡ false → Unasked g luns (completed s v) → rules.verdict (standing g luns selected s o) (event 1 v) ≡ (Ok tt)
  unfolding or_else before_reset misplaced fits out_of_range lun_works no_copyback
  address-accepted v h near free =
      address-verdict (standing g luns selected s o) v ∙ rw (h, near, names-not luns calm g selected (completed s v), free.lacks)

  address-leaves : (v : ℕ) (found : Findings) → Unasked g luns (completed s v) → target_after (standing g luns selected s o) (event 1 v) found ≡ standing g luns (row_selects g selected (completed s v)) (addressed s v) (addressed_output g (completed s v) o)
  unfolding target_after high_after clear_after selected_after luns_after sequence_after output_after kept_after
  address-leaves v found free = rw (free.closes, none_kept g (is_bare s) (completed s v))

  -- data out with no sequence open
  out-accepted : has_output o ≡ true → output_works luns o ≡ false → output_ended g o ≡ false → rules.verdict (standing g luns selected Idle o) (event 3 0) ≡ (Ok tt)
  unfolding or_else bad_record before_reset misplaced fits lun_works past_end
  out-accepted h idle more = out-verdict (standing g luns selected Idle o) 0 ∙ rw (h, idle, more)

  out-leaves : (found : Findings) → target_after (standing g luns selected Idle o) (event 3 0) found ≡ standing g luns selected Idle (advanced o)
  unfolding target_after high_after clear_after selected_after luns_after sequence_after output_after kept_after
  out-leaves found = refl

  pub in-accepted : (v : ℕ) → takes_data s ≡ true → unoffered every (taking s) v ≡ false → data_ended g (taking s) ≡ false → rules.verdict (standing g luns selected s o) (event 2 v) ≡ (Ok tt)
  unfolding or_else before_reset misplaced fits not_offered past_end
  in-accepted v h offer more = in-verdict (standing g luns selected s o) v ∙ rw (h, offer, more)

  in-leaves : (v : ℕ) (found : Findings) → clear_set false (taking s) ≡ false → target_after (standing g luns selected s o) (event 2 v) found ≡ standing g luns selected (filled s (taking s) v) o
  unfolding target_after high_after clear_after selected_after luns_after sequence_after output_after kept_after
  in-leaves v found h = rw (h)

module _ (g : Geometry) (bad : ℕ) (fine : Fine (full g bad)) where
  -- after FFh
  pub still : Way (full g bad) (stand g bad 0 Idle output.Nothing)
  unfolding target_after high_after clear_after selected_after luns_after sequence_after output_after kept_after
  still = onward fine (at-power (full g bad)) (event 0 0xff) (omega arith) (omega arith) (reset-accepted _) _ (λ _. refl)

  pub second : (luns : List Lun) (selected : ℕ) (s : Sequence) (o : Output) (v : ℕ) → Second s v → (y : Target) → ((counts : List ℕ) → target_after (standing g luns selected s o) (event 0 v) (findings g (standing g luns selected s o).words s (event 0 v) counts (flags_of (full g bad))) ≡ y)
      → Way (full g bad) (standing g luns selected s o) → Way (full g bad) y
  second luns selected s o v which y leaves w = onward fine w (event 0 v) (omega arith) (second-small which) (second-accepted g luns selected o which) y leaves

  -- the other cycles, while no LUN works
  module _ (luns : List Lun) (calm : Calm luns) where
    pub command : (selected : ℕ) (o : Output) → Way (full g bad) (standing g luns selected Idle o) → (f : First) → Way (full g bad) (opened-to luns calm g selected o f)
    command selected o w f = onward fine w (event 0 (byte_of f)) (omega arith) (leb-true _ _ (fresh f).4) (opens luns calm g selected o f) _ (λ _. opened-by luns calm g selected o f _)

    pub address : (selected : ℕ) (s : Sequence) (o : Output) (v : ℕ) → v ≤ 255 → takes_address s ≡ true → beyond g (completed s v) ≡ false → Unasked g luns (completed s v)
        → Way (full g bad) (standing g luns selected s o) → Way (full g bad) (standing g luns (row_selects g selected (completed s v)) (addressed s v) (addressed_output g (completed s v) o))
    address selected s o v small h near free w = onward fine w (event 1 v) (omega arith) small (address-accepted g luns calm selected s o v h near free) _ (λ _. address-leaves g luns calm selected s o v _ free)

    pub out : (selected : ℕ) (o : Output) → has_output o ≡ true → output_works luns o ≡ false → output_ended g o ≡ false
        → Way (full g bad) (standing g luns selected Idle o) → Way (full g bad) (standing g luns selected Idle (advanced o))
    out selected o h idle more w = onward fine w (event 3 0) (omega arith) (omega arith) (out-accepted g luns calm selected Idle o h idle more) _ (λ _. out-leaves g luns calm selected Idle o _)

    pub data-in : (selected : ℕ) (s : Sequence) (o : Output) (v : ℕ) → v ≤ 255 → takes_data s ≡ true → unoffered every (taking s) v ≡ false → data_ended g (taking s) ≡ false → clear_set false (taking s) ≡ false
        → Way (full g bad) (standing g luns selected s o) → Way (full g bad) (standing g luns selected (filled s (taking s) v) o)
    data-in selected s o v small h offer more same w = onward fine w (event 2 v) (omega arith) small (in-accepted g luns calm selected s o v h offer more) _ (λ _. in-leaves g luns calm selected s o v _ same)
