-- Rule 13 is tight, as specs/Tight.antt states it.
-- Assumes nothing.
use mathlib.Core.Path.{◌≡◌, refl}
use mathlib.Core.Bool.{Bool, true, false}
use Prim.Native.Nat.{ℕ, ◌*◌, ◌≤◌, ◌<◌}
use lib.Dec.{leb}
use native.Mathlib.Omega.{arith}
use Rattle.target.specs.Pick.{or_else}
use Rattle.target.specs.Events.{bad_record}
use Rattle.target.specs.Words.{bit_of}
use Rattle.target.specs.Sizes.{in_limits}
use Rattle.target.specs.declared.Geometry.{Geometry}
use Rattle.target.specs.declared.Words.{Words}
use Rattle.target.specs.declared.Findings.{Findings}
use Rattle.target.specs.declared.Target.{Target}
use Rattle.target.specs.declared.Sequence.TheVariants.{Setting}
use Rattle.target.specs.declared.Output.TheVariants as output
use Rattle.rules.specs.Rules.{line_held, verdict}
use Rattle.rules.proofs.ByKind.{event, protect-verdict}
use Rattle.lun_records.specs.LunsAfter.{luns_after}
use Rattle.effects.specs.Effects.{clear_after, high_after, target_after}
use Rattle.step.specs.Usable.{words_sound}
use Rattle.step.specs.Buffers.{nothing_found}
use Rattle.step.proofs.Sound.{sound}
use Rattle.thm_kept.proofs.Choice.{or-true}
use Rattle.thm_tight.specs.Tight.{Reached, Tight}
use Rattle.thm_tight.proofs.Part.{Part, Fine}
use Rattle.thm_tight.proofs.Ways.{fresh, at-power, onward, reached}
use Rattle.thm_tight.proofs.Commands.{every}
use Rattle.thm_tight.proofs.Cycles.{full, ready_luns, stand, works-not, still, in-accepted}
use Rattle.thm_tight.proofs.Sequences.{setting, setting-three, sequence-given}
use Rattle.thm_tight.proofs.Outputs.{status, output-given, kept-given}
use Rattle.thm_tight.proofs.Marks.{working-given, fail-given, copyback-given, blank-given}
use Rattle.std.specs.Prelude.{Ok}

-- a part of the geometry, with these words and IDs
abbrev made : Geometry → Words → ℕ → ℕ → Part
made g w maker device = record { geometry = g; words = w; maker = maker; device = device; bad = 0 }

made-fine : (g : Geometry) (w : Words) (maker device : ℕ) → in_limits g ≡ true → words_sound g w ≡ true → w.features ≤ 65535 → w.optional ≤ 65535 → maker ≤ 255 → device ≤ 255 → Fine (made g w maker device)
made-fine g w maker device h s f o p q = record {
  limited = h;
  worded = s;
  features-word = f;
  optional-word = o;
  maker-byte = p;
  device-byte = q;
  bad-there = omega arith;
}

-- the words with every bit but the 16-bit bus, for any count of LUNs
every-sound : (g : Geometry) → words_sound g every ≡ true
unfolding bit_of
every-sound g = or-true (leb g.luns 1)

full-fine : (g : Geometry) → in_limits g ≡ true → (bad : ℕ) → bad ≤ g.luns * g.blocks → Fine (full g bad)
full-fine g h bad k = record {
  limited = h;
  worded = every-sound g;
  features-word = omega arith;
  optional-word = omega arith;
  maker-byte = omega arith;
  device-byte = omega arith;
  bad-there = k;
}

-- The protect line, program-clear, the first FFh.

lowers : (k : Part) → verdict (fresh k) (event 5 0) ≡ (Ok tt)
unfolding or_else bad_record line_held
lowers k = protect-verdict (fresh k) 0

lowered : (k : Part) (found : Findings) → target_after (fresh k) (event 5 0) found ≡ target_after (fresh k) (event 5 0) nothing_found
unfolding target_after luns_after
lowered k found = refl

is-low : (k : Part) → (target_after (fresh k) (event 5 0) nothing_found).high ≡ false
unfolding target_after high_after
is-low k = refl

-- EFh's fourth byte
abbrev set : Geometry → Target
set g = stand g 0 0 (Setting (setting 3 0x40)) output.Nothing

cleared : (g : Geometry) (found : Findings) → target_after (set g) (event 2 0) found ≡ target_after (set g) (event 2 0) nothing_found
unfolding target_after luns_after
cleared g found = refl

is-clear : (g : Geometry) → (target_after (set g) (event 2 0) nothing_found).clear ≡ true
unfolding target_after clear_after
is-clear g = refl

module _ (g : Geometry) (fine : Fine (full g 0)) where
  high-given : (b : Bool) → Reached g (λ t. t.high ≡ b)
  high-given true = reached (λ (t : Target). t.high ≡ true) fine (at-power (full g 0)) refl
  high-given false =
      reached (λ (t : Target). t.high ≡ false) fine
      (onward fine (at-power (full g 0)) (event 5 0) (omega arith) (omega arith) (lowers (full g 0)) (target_after (fresh (full g 0)) (event 5 0) nothing_found) (λ _. lowered (full g 0) _))
      (is-low (full g 0))

  clear-given : (b : Bool) → Reached g (λ t. t.clear ≡ b)
  clear-given true =
      reached (λ (t : Target). t.clear ≡ true) fine
      (onward fine (setting-three g 0 fine 0x40 refl) (event 2 0) (omega arith) (omega arith) (in-accepted g (ready_luns g 0) (works-not g 0) 0 (Setting (setting 3 0x40)) output.Nothing 0 refl refl refl) (target_after (set g) (event 2 0) nothing_found) (λ _. cleared g _))
      (is-clear g)
  clear-given false = reached (λ (t : Target). t.clear ≡ false) fine (at-power (full g 0)) refl

  seen-given : (b : Bool) → Reached g (λ t. t.seen ≡ b)
  seen-given true = reached (λ (t : Target). t.seen ≡ true) fine (still g 0 fine) refl
  seen-given false = reached (λ (t : Target). t.seen ≡ false) fine (at-power (full g 0)) refl

  selected-given : (l : ℕ) → l < g.luns → Reached g (λ t. t.selected ≡ l)
  selected-given l h = reached (λ (t : Target). t.selected ≡ l) fine (status g 0 fine l h) refl

pub tight : Tight
tight t typed h =
    let s = sound t h in
    let g = t.geometry in
    let w = t.words in
    let part = full-fine g s.limited in
    let fine = part 0 (omega arith) in
    let worded = made-fine g w 0 0 s.limited s.words typed.features typed.optional (omega arith) (omega arith) in
    let named = made-fine g w t.ids.maker t.ids.device s.limited s.words typed.features typed.optional typed.maker typed.device in
    record {
      geometry = reached (λ (u : Target). u.geometry ≡ g) fine (at-power (full g 0)) refl;
      features = reached (λ (u : Target). u.words.features ≡ w.features) worded (at-power (made g w 0 0)) refl;
      optional = reached (λ (u : Target). u.words.optional ≡ w.optional) worded (at-power (made g w 0 0)) refl;
      maker = reached (λ (u : Target). u.ids.maker ≡ t.ids.maker) named (at-power (made g w t.ids.maker t.ids.device)) refl;
      device = reached (λ (u : Target). u.ids.device ≡ t.ids.device) named (at-power (made g w t.ids.maker t.ids.device)) refl;
      high = high-given g fine t.high;
      clear = clear-given g fine t.clear;
      seen = seen-given g fine t.seen;
      selected = selected-given g fine t.selected s.selected;
      working = λ l k. working-given g part l k t.luns s.marks;
      fail = λ l k. fail-given g part l k t.luns s.marks;
      copyback = λ l k. copyback-given g part l k t.luns s.marks;
      blank = λ l k. blank-given g part l k t.luns s.marks;
      sequence = sequence-given g 0 fine t.decoder.sequence typed.sequence s.sequence;
      output = output-given g 0 fine t.decoder.output s.output;
      kept = kept-given g 0 fine t.decoder.kept s.kept;
    }
