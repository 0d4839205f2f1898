-- Ways: the targets that a part comes to, one accepted event after the other, from its power-on.
--     at-power   where power-on leaves it
--     onward     one accepted event more
--     to_end     every column up to an end
--     reached    a way is a run as specs/Tight.antt asks for one
-- Assumes nothing.
use mathlib.Core.Path.{◌≡◌, refl, ap, ◌∙◌, subst}
use mathlib.Core.Bool.{Bool, true, false, ◌&&◌}
use mathlib.Core.List.{List, [], ◌∷◌, ◌++◌}
use Prim.Native.Nat.{ℕ, ◌+◌, ◌-◌, ◌≤◌, ◌<◌}
use native.Mathlib.Omega.{arith}
use lib.Dec.{leb, ltb}
use borrow.Author.Tests.{le-leb, ltb-true, ltb-false}
use Rattle.target.specs.declared.Lun.{Lun}
use Rattle.target.specs.declared.Column.{Column}
use Rattle.target.specs.declared.Event.{Event}
use Rattle.target.specs.declared.Target.{Target}
use Rattle.target.specs.declared.Sequence.TheVariants.{Idle}
use Rattle.target.specs.declared.Output.TheVariants as output
use Rattle.target.proofs.Both.{both}
use Rattle.power.specs.Power.{luns_found, powered_of}
use Rattle.rules.specs.Rules.{verdict}
use Rattle.effects.specs.Effects.{target_after}
use Rattle.step.specs.Buffers.{findings}
use Rattle.step.specs.Step.{State, Buffers, Outcome, accepted_by, accepted, by_verdict, steady}
use Rattle.thm_kept.proofs.Choice.{and-true}
use Rattle.thm_kept.proofs.Kept.{step-steady}
use Rattle.thm_demands.specs.Runs.{step_at, left, after, powered_up}
use Rattle.thm_demands.proofs.Promised.{powered-fit, run-fit}
use Rattle.thm_tight.specs.Tight.{byte_events, Reached}
use Rattle.thm_tight.proofs.Part.{Part, Fine, page_of, array_of, registers_of, counts_of, flags_of, geometry-is, words-is, maker-is, powers-on, page-bytes, array-bytes, registers-bytes}
use Rattle.std.specs.Prelude.{Ok}

abbrev powered : Part → State
powered k = powered_up (page_of k) k.device (array_of k) (registers_of k) (counts_of k) (flags_of k)

abbrev standing : Part → List Event → State
standing k es = after (page_of k) (flags_of k) es (powered k)

-- some events bring the part to this target
pub record Way (k : Part) (x : Target) : Type 0 where
  pub events : List Event
  pub bytes : byte_events events ≡ true
  pub stands : (standing k events).target ≡ x

-- the LUN records that power-on makes
abbrev pub found_in : Part → List Lun
found_in k = luns_found k.geometry (counts_of k) (flags_of k)

-- and the record
abbrev pub fresh : Part → Target
fresh k = record {
  powered = true;
  geometry = k.geometry;
  words = k.words;
  ids = record { maker = k.maker; device = k.device };
  high = true;
  clear = false;
  seen = false;
  selected = 0;
  luns = found_in k;
  decoder = record { sequence = Idle; output = output.Nothing; kept = output.Nothing };
}

pub at-power : (k : Part) → Way k (fresh k)
unfolding byte_events after powered_of
at-power k = record {
  events = [];
  bytes = refl;
  stands = λ i. record {
    powered = true;
    geometry = geometry-is k i;
    words = words-is k i;
    ids = record { maker = maker-is k i; device = k.device };
    high = true;
    clear = false;
    seen = false;
    selected = 0;
    luns = luns_found (geometry-is k i) (counts_of k) (flags_of k);
    decoder = record { sequence = Idle; output = output.Nothing; kept = output.Nothing };
  };
}

-- One event more.

snoc-bytes : (es : List Event) (e : Event) → byte_events es ≡ true → e.kind ≤ 255 → e.value ≤ 255 → byte_events (es ++ (e ∷ [])) ≡ true
unfolding byte_events
snoc-bytes [] e h k v = rw (le-leb e.kind 255 k, le-leb e.value 255 v)
snoc-bytes (d ∷ es) e h k v =
    let p = both (leb d.kind 255 && leb d.value 255) (byte_events es) h in
    and-true (leb d.kind 255 && leb d.value 255) (byte_events (es ++ (e ∷ []))) p.0 (snoc-bytes es e p.1 k v)

snoc : (page flags : List ℕ) (es : List Event) (e : Event) (s : State) → after page flags (es ++ (e ∷ [])) s ≡ left (step_at page flags (after page flags es s) e)
unfolding after
snoc page flags [] e s = refl
snoc page flags (d ∷ es) e s = snoc page flags es e (left (step_at page flags s d))

steady-accepted : (t : Target) (e : Event) (page : List ℕ) (b : Buffers) (flags : List ℕ) → verdict t e ≡ (Ok tt) → (steady t e page b flags).target ≡ target_after t e (findings t.geometry t.words t.decoder.sequence e b.counts flags)
unfolding steady by_verdict accepted accepted_by
steady-accepted t e page b flags h = rw (h)

module _ {k : Part} (f : Fine k) {x : Target} (w : Way k x) (e : Event) (kind : e.kind ≤ 255) (value : e.value ≤ 255) (ok : verdict x e ≡ (Ok tt)) where
  steps : (step_at (page_of k) (flags_of k) (standing k w.events) e).target ≡ target_after x e (findings x.geometry x.words x.decoder.sequence e (standing k w.events).buffers.counts (flags_of k))
  steps =
      let s = standing k w.events in
      let on = powered-fit (page_of k) k.device (array_of k) (registers_of k) (counts_of k) (flags_of k) (powers-on k f) in
      let fit = run-fit (page_of k) k.device (array_of k) (registers_of k) (counts_of k) (flags_of k) (powers-on k f) w.events (powered k) on in
      ap (λ (o : Outcome). o.target) (step-steady s.target e (page_of k) s.buffers (flags_of k) fit)
      ∙ steady-accepted s.target e (page_of k) s.buffers (flags_of k) (ap (λ (t : Target). verdict t e) w.stands ∙ ok)
      ∙ ap (λ (t : Target). target_after t e (findings t.geometry t.words t.decoder.sequence e s.buffers.counts (flags_of k))) w.stands

  pub onward : (y : Target) → ((counts : List ℕ) → target_after x e (findings x.geometry x.words x.decoder.sequence e counts (flags_of k)) ≡ y) → Way k y
  onward y leaves = record {
    events = w.events ++ (e ∷ []);
    bytes = snoc-bytes w.events e w.bytes kind value;
    stands = ap (λ (s : State). s.target) (snoc (page_of k) (flags_of k) w.events e (powered k)) ∙ steps ∙ leaves _;
  }

-- A family of targets up to a column: those below it, and one more from the last of these.
module _ {k : Part} (places : Column → Target) (end : ℕ) (some : 0 < end) (below : (c : Column) → c.0 < end → Way k (places c)) (next : (c : Column) → c.0 < end → Way k (places c) → Way k (places (record { 0 = c.0 + 1 }))) where
  at-end : (c : Column) → c.0 ≡ end → Way k (places c)
  at-end c e =
      let last : Column = record { 0 = c.0 - 1 } in
      let within : last.0 < end = omega arith in
      let up : last.0 + 1 ≡ c.0 = omega arith in
      let whole : record { 0 = last.0 + 1 } ≡ c = λ i. record { 0 = up i } in
      subst (λ (x : Column). Way k (places x)) whole (next last within (below last within))

  pub to_end : (c : Column) → c.0 ≤ end → Way k (places c)
  to_end c most = by (ltb c.0 end) refl
    where
      by : (b : Bool) → ltb c.0 end ≡ b → Way k (places c)
      by true e = below c (ltb-true c.0 end e)
      by false e = at-end c (omega (arith, ltb-false c.0 end e))

-- P holds where a way leads
pub reached : {k : Part} {x : Target} (P : Target → Type 0) → Fine k → Way k x → P x → Reached k.geometry P
reached {k} {x} P f w h = record {
  page = page_of k;
  device = k.device;
  array = array_of k;
  registers = registers_of k;
  counts = counts_of k;
  flags = flags_of k;
  events = w.events;
  page-bytes = page-bytes k f;
  device-byte = f.device-byte;
  array-bytes = array-bytes k f;
  registers-bytes = registers-bytes k f;
  events-bytes = w.bytes;
  on = powers-on k f;
  sizes = geometry-is k;
  holds = rw w.stands h;
}
