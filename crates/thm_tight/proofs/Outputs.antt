-- Every output that rule 13 lets pass: the cycles that leave it open, and 70h after them, which keeps it.
-- Assumes nothing.
use mathlib.Core.Path.{◌≡◌, refl, ap, ◌∙◌, subst}
use mathlib.Core.Bool.{true, false, not}
use Prim.Native.Nat.{ℕ, zero, suc, ◌+◌, ◌≤◌, ◌<◌}
use native.Mathlib.Numerals.{add-one}
use native.Mathlib.Omega.{arith}
use lib.Dec.{eqb, ltb, leb}
use borrow.Author.Tests.{ltb-true, leb-true, lt-ltb, lt-leb, not-true}
use Rattle.target.specs.Address.{lun_of, lun_exists}
use Rattle.target.specs.Sizes.{page_size}
use Rattle.target.specs.Commands.{needs_copyback, in_page, row_of, cycles_of, then_of, takes_column, takes_row, knows_address, first_of, second_of, second_row}
use Rattle.target.specs.Place.{has_output, shows_status}
use Rattle.target.specs.declared.Column.{Column}
use Rattle.target.specs.declared.Row.{Row}
use Rattle.target.specs.declared.Geometry.{Geometry}
use Rattle.target.specs.declared.Target.{Target}
use Rattle.target.specs.declared.Findings.{Findings}
use Rattle.target.specs.declared.First.TheVariants.{ChangeColumnEnhanced, Status, StatusEnhanced, ReadId, GetFeatures}
use Rattle.target.specs.declared.Wait.{Wait}
use Rattle.target.specs.declared.Sequence.TheVariants.{Idle, Due}
use Rattle.target.specs.declared.Output.{Output}
use Rattle.target.specs.declared.Output.TheVariants as output
use Rattle.target.specs.declared.commands.Then.TheVariants as then
use Rattle.target.proofs.Both.{both}
use Rattle.target.proofs.Limits.{Limits, limits}
use Rattle.rules.specs.Rules.{row_fits, output_works, output_ended}
use Rattle.rules.proofs.ByKind.{event}
use Rattle.effects.specs.Effects.{shown, advanced, sequence_after, output_after, selected_after, clear_after, high_after, target_after}
use Rattle.memory.specs.Memory.{kept_after}
use Rattle.lun_records.specs.LunsAfter.{luns_after}
use Rattle.step.specs.Usable.{column_held, output_sound, kept_sound}
use Rattle.thm_tight.specs.Tight.{Shows, Keeps, EachGiven, OutputGiven, KeptGiven}
use Rattle.thm_tight.proofs.Part.{Fine}
use Rattle.thm_tight.proofs.Ways.{Way, to_end, reached}
use Rattle.thm_tight.proofs.Cycles.{showing, second, full, keeping, ready_luns, stand, opened-to, works-not, still, command, out}
use Rattle.thm_tight.proofs.Addresses.{row_at, lun-at, lun-there}
use Rattle.thm_tight.proofs.Sequences.{ready-free, paged, begin, row-whole, answered}

-- 06h, and what it shows
abbrev asked : Column → Row → Wait
asked c r = record { first = ChangeColumnEnhanced; column = c; row = r }

showed : (g : Geometry) (bad selected : ℕ) (c : Column) (r : Row) (found : Findings) → target_after (stand g bad selected (Due (asked c r)) output.Nothing) (event 0 0xe0) found ≡ stand g bad selected Idle (output.Register (lun_of g r) c)
unfolding target_after high_after clear_after selected_after luns_after sequence_after output_after kept_after row_of second_of second_row
showed g bad selected c r found = refl

-- the attributes of the commands that are named here
asked_is : (takes_row ChangeColumnEnhanced ≡ true) × (takes_column ChangeColumnEnhanced ≡ true) × (then_of ChangeColumnEnhanced ≡ then.Second) × (needs_copyback ChangeColumnEnhanced ≡ false) × (in_page ChangeColumnEnhanced ≡ false)
unfolding row_of
asked_is = (refl, refl, refl, refl, refl)

status-is : (takes_row StatusEnhanced ≡ true) × (takes_column StatusEnhanced ≡ false) × (then_of StatusEnhanced ≡ then.Status) × (needs_copyback StatusEnhanced ≡ false)
unfolding row_of
status-is = (refl, refl, refl, refl)

lun-fits : (g : Geometry) (r : Row) → lun_exists g r ≡ true → (row_fits g ChangeColumnEnhanced r ≡ true) × (row_fits g StatusEnhanced r ≡ true)
unfolding row_of
lun-fits g r h = (h, h)

ids-is : (eqb (cycles_of ReadId) 1 ≡ true) × (then_of ReadId ≡ then.Id) × (knows_address ReadId 0x00 ≡ true) × (knows_address ReadId 0x20 ≡ true)
unfolding row_of
ids-is = (refl, refl, refl, refl)

feature-is : (eqb (cycles_of GetFeatures) 1 ≡ true) × (then_of GetFeatures ≡ then.FeatureOut) × (knows_address GetFeatures 0x01 ≡ true)
unfolding row_of
feature-is = (refl, refl, refl)

-- a run that leaves the whole output gives each of its numbers
each-given : (Leaving : Output → Type 0) (o : Output) → Leaving o → EachGiven Leaving o
each-given Leaving output.Nothing w = w
each-given Leaving (output.Register l c) w = ((c, w), (l, w))
each-given Leaving (output.Parameters at) w = w
each-given Leaving (output.Status l) w = w
each-given Leaving (output.Ids at) w = w
each-given Leaving (output.Signature at) w = w
each-given Leaving (output.Feature at) w = w

-- 70h with no sequence open: the output that it ends is kept, unless it is a status itself
kept-behind : (g : Geometry) (bad selected : ℕ) (o : Output) → shows_status o ≡ false → opened-to (ready_luns g bad) (works-not g bad) g selected o Status ≡ keeping g (ready_luns g bad) selected Idle (output.Status selected) o
unfolding row_of first_of
kept-behind g bad selected o none = rw (none)

module _ (g : Geometry) (bad : ℕ) (fine : Fine (full g bad)) where
  m : Limits g
  m = limits g fine.limited

  -- An output that goes one place up with each byte, to its end.
  module _ (places : ℕ → Output) (end : ℕ) (has : (n : ℕ) → has_output (places n) ≡ true) (free : (n : ℕ) → output_works (ready_luns g bad) (places n) ≡ false) (ends : (n : ℕ) → output_ended g (places n) ≡ leb end n) (next : (n : ℕ) → advanced (places n) ≡ places (n + 1)) where
    outs : (selected : ℕ) → Way (full g bad) (stand g bad selected Idle (places 0)) → (n : ℕ) → n ≤ end → Way (full g bad) (stand g bad selected Idle (places n))
    outs selected w zero h = w
    outs selected w (suc n) h =
        subst (λ (o : Output). Way (full g bad) (stand g bad selected Idle o)) (next n ∙ ap places (add-one n))
        (out g bad fine (ready_luns g bad) (works-not g bad) selected (places n) (has n) (free n) (ends n ∙ lt-leb end n h) (outs selected w n (omega arith)))

  -- A register.

  register-below : (l : ℕ) → l < g.luns → (c : Column) → c.0 < page_size g → Way (full g bad) (stand g bad l Idle (output.Register l c))
  register-below l h c below =
      let r = row_at g l in
      let held : column_held g ChangeColumnEnhanced c ≡ true = rw (asked_is.1, asked_is.4) (lt-ltb c.0 (page_size g) below) in
      let due = row-whole g bad fine ChangeColumnEnhanced (begin g bad fine ChangeColumnEnhanced) asked_is.0 c held r (lun-fits g r (lun-there g m l h)).0 (ready-free g bad ChangeColumnEnhanced r asked_is.3) then.Second asked_is.2 in
      subst (λ (n : ℕ). Way (full g bad) (stand g bad n Idle (output.Register n c))) (lun-at g l)
      (second g bad fine (ready_luns g bad) (lun_of g r) (Due (asked c r)) output.Nothing 0xe0 (showing refl) _ (λ _. showed g bad (lun_of g r) c r _) due)

  -- past its last byte by data out there
  register : (l : ℕ) → l < g.luns → (c : Column) → c.0 ≤ page_size g → Way (full g bad) (stand g bad l Idle (output.Register l c))
  register l h c most =
      let least = m.page-min in
      to_end (λ (x : Column). stand g bad l Idle (output.Register l x)) (page_size g) (omega arith) (register-below l h)
      (λ x below w. out g bad fine (ready_luns g bad) (works-not g bad) l (output.Register l x) refl (works-not g bad l) (lt-leb (page_size g) x.0 below) w)
      c most

  -- 78h: the status of the LUN, which it selects
  pub status : (l : ℕ) → l < g.luns → Way (full g bad) (stand g bad l Idle (output.Status l))
  status l h =
      subst (λ (n : ℕ). Way (full g bad) (stand g bad n Idle (output.Status n))) (lun-at g l)
      (row-whole g bad fine StatusEnhanced (begin g bad fine StatusEnhanced) status-is.0 (record { 0 = 0 }) (rw status-is.1) (row_at g l) (lun-fits g (row_at g l) (lun-there g m l h)).1 (ready-free g bad StatusEnhanced (row_at g l) status-is.3) then.Status status-is.2)

  -- Every output that passes stands open after some cycles.

  abbrev Open : Output → Type 0
  Open o = (selected : ℕ) × Way (full g bad) (stand g bad selected Idle o)

  -- the first byte of an answer to a lone address
  ids : (v : ℕ) → v ≤ 255 → knows_address ReadId v ≡ true → Way (full g bad) (stand g bad 0 Idle (shown then.Id 0 v output.Nothing))
  ids v small h = answered g bad fine ReadId (begin g bad fine ReadId) ids-is.0 then.Id ids-is.1 v small h

  feature : Way (full g bad) (stand g bad 0 Idle (output.Feature 0))
  feature =
      answered g bad fine GetFeatures (begin g bad fine GetFeatures) feature-is.0 then.FeatureOut feature-is.1 0x01 (omega arith) feature-is.2

  shows : (o : Output) → output_sound g o ≡ true → Open o
  shows output.Nothing h = (0, still g bad fine)
  shows (output.Register l c) h =
      let p = both (ltb l g.luns) (leb c.0 (page_size g)) h in
      (l, register l (ltb-true _ _ p.0) c (leb-true _ _ p.1))
  shows (output.Parameters at) h =
      (0, outs output.Parameters 768 (λ _. refl) (λ _. refl) (λ _. refl) (λ _. refl) 0 (paged g bad fine) at (leb-true _ _ h))
  shows (output.Status l) h = (l, status l (ltb-true _ _ h))
  shows (output.Ids at) h =
      (0, outs output.Ids 2 (λ _. refl) (λ _. refl) (λ _. refl) (λ _. refl) 0 (ids 0x00 (omega arith) ids-is.2) at (leb-true _ _ h))
  shows (output.Signature at) h =
      (0, outs output.Signature 4 (λ _. refl) (λ _. refl) (λ _. refl) (λ _. refl) 0 (ids 0x20 (omega arith) ids-is.3) at (leb-true _ _ h))
  shows (output.Feature at) h =
      (0, outs output.Feature 4 (λ _. refl) (λ _. refl) (λ _. refl) (λ _. refl) 0 feature at (leb-true _ _ h))

  pub output-given : (o : Output) → output_sound g o ≡ true → OutputGiven g o
  output-given o h =
      each-given (Shows g) o (reached (λ (t : Target). t.decoder.output ≡ o) fine (shows o h).1 refl)

  -- and is kept by 70h there, unless it is a status
  keeps : (o : Output) → shows_status o ≡ false → Open o → Keeps g o
  keeps o none w =
      reached (λ (t : Target). t.decoder.kept ≡ o) fine
      (subst (Way (full g bad)) (kept-behind g bad w.0 o none) (command g bad fine (ready_luns g bad) (works-not g bad) w.0 o w.1 Status))
      refl

  pub kept-given : (o : Output) → kept_sound g o ≡ true → KeptGiven g o
  kept-given o h =
      let p = both (output_sound g o) (not (shows_status o)) h in
      each-given (Keeps g) o (keeps o (not-true (shows_status o) p.1) (shows o p.0))
