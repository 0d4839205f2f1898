-- A powered record each of whose numbers is given by some run passes rule 13, as specs/Tight.antt states it.
-- Assumes nothing.
use mathlib.Core.Path.{◌≡◌, refl, sym, ap, ◌∙◌, subst}
use mathlib.Core.Bool.{Bool, true, false, ◌&&◌, ◌||◌, not}
use mathlib.Core.List.{List, [], ◌∷◌}
use Prim.Native.Nat.{ℕ, ◌<◌}
use lib.ListN.{length}
use lib.Dec.{eqb, ltb, leb, lit<}
use Rattle.target.specs.Pick.{pick}
use Rattle.target.specs.Address.{row_exists}
use Rattle.target.specs.Commands.{takes_column, takes_row, waits_second, takes_program_data}
use Rattle.target.specs.Luns.{is_unused, lun_at, works, failed, copyback_at, blank_at}
use Rattle.target.specs.Place.{shows_status}
use Rattle.target.specs.Sizes.{page_size, in_limits}
use Rattle.target.specs.declared.Column.{Column}
use Rattle.target.specs.declared.Row.{Row}
use Rattle.target.specs.declared.Lun.{Lun}
use Rattle.target.specs.declared.Event.{Event}
use Rattle.target.specs.declared.Geometry.{Geometry}
use Rattle.target.specs.declared.Target.{Target}
use Rattle.target.specs.declared.First.{First}
use Rattle.target.specs.declared.Words.{Words}
use Rattle.target.specs.declared.Sequence.{Sequence}
use Rattle.target.specs.declared.Sequence.TheVariants.{Idle, Columns, Rows, Single, Due, Filling, Moving, Setting}
use Rattle.target.specs.declared.Output.{Output}
use Rattle.target.specs.declared.Output.TheVariants as output
use Rattle.target.specs.declared.Refusal.TheVariants.{NotUsable}
use Rattle.target.specs.declared.Reply.TheVariants.{Refused}
use Rattle.target.proofs.Both.{both, both3, both4}
use Rattle.power.specs.Power.{powered_of}
use Rattle.rules.specs.Rules.{verdict}
use Rattle.effects.specs.Effects.{target_after, target_refused}
use Rattle.step.specs.Usable.{column_held, row_held, words_sound, sequence_sound, output_sound, kept_sound, mark_sound, usable}
use Rattle.step.specs.Step.{State, Buffers, accepted_by, accepted, by_verdict, steady, step_of}
use Rattle.step.proofs.Sound.{Sound, sound, passes}
use Rattle.thm_kept.proofs.Choice.{and-true}
use Rattle.thm_kept.proofs.Kept.{all_sound}
use Rattle.thm_demands.specs.Runs.{step_at, left, after, powered_up}
use Rattle.thm_demands.proofs.Promised.{powered-fit, run-fit}
use Rattle.thm_tight.specs.Tight.{Reached, Stands, Shows, Keeps, SequenceGiven, EachGiven, OutputGiven, KeptGiven, ByItself}
use Rattle.thm_tight.proofs.Marks.{one-mark}
use Rattle.std.specs.Prelude.{Err, Ok, Result}
use Rattle.target.specs.declared.Refusal.{Refusal}

-- No event changes the geometry.

module _ (t : Target) (e : Event) (page : List ℕ) (b : Buffers) (flags : List ℕ) where
  by-verdict : (v : Result Unit Refusal) → (by_verdict v t e page b flags).target.geometry ≡ t.geometry
  unfolding by_verdict accepted accepted_by target_after target_refused
  by-verdict (Ok tt) = refl
  by-verdict (Err r) = refl

  by-usable : (ok : Bool) → (pick ok (steady t e page b flags) (record { reply = Refused NotUsable; target = t; buffers = b })).target.geometry ≡ t.geometry
  unfolding steady
  by-usable true = by-verdict (verdict t e)
  by-usable false = refl

  same-geometry : (step_of t e page b flags).target.geometry ≡ t.geometry
  unfolding step_of
  same-geometry = by-usable (usable t (length page) (length b.array) (length b.registers) (length b.counts) (length flags))

run-geometry : (page flags : List ℕ) (es : List Event) (s : State) → (after page flags es s).target.geometry ≡ s.target.geometry
unfolding after
run-geometry page flags [] s = refl
run-geometry page flags (e ∷ es) s = run-geometry page flags es (left (step_at page flags s e)) ∙ same-geometry s.target e page s.buffers flags

-- Where a run stands, rule 13 lets pass.

module _ {g : Geometry} {P : Target → Type 0} (w : Reached g P) where
  abbrev run : State
  run = after w.page w.flags w.events (powered_up w.page w.device w.array w.registers w.counts w.flags)

  run_sound : Sound run.target
  run_sound =
      let on = powered-fit w.page w.device w.array w.registers w.counts w.flags w.on in
      let fit = run-fit w.page w.device w.array w.registers w.counts w.flags w.on w.events (powered_up w.page w.device w.array w.registers w.counts w.flags) on in
      sound run.target (passes run.target w.page run.buffers.array run.buffers.registers run.buffers.counts w.flags fit).record-sound

  run-sized : run.target.geometry ≡ g
  unfolding powered_of
  run-sized = run-geometry w.page w.flags w.events (powered_up w.page w.device w.array w.registers w.counts w.flags) ∙ w.sizes

  run-mark : (l : ℕ) → l < 4 → mark_sound g run.target.luns l ≡ true
  run-mark l h = subst (λ (x : Geometry). mark_sound x run.target.luns l ≡ true) run-sized (one-mark run.target.geometry run.target.luns run_sound.marks l h)

sequence-held : {g : Geometry} {s : Sequence} → Stands g s → sequence_sound g s ≡ true
sequence-held {g} {s} w = ap (λ (x : Geometry). sequence_sound x s) (sym (run-sized w)) ∙ ap (sequence_sound (run w).target.geometry) (sym w.holds) ∙ (run_sound w).sequence

output-held : {g : Geometry} {o : Output} → Shows g o → output_sound g o ≡ true
output-held {g} {o} w = ap (λ (x : Geometry). output_sound x o) (sym (run-sized w)) ∙ ap (output_sound (run w).target.geometry) (sym w.holds) ∙ (run_sound w).output

kept-held : {g : Geometry} {o : Output} → Keeps g o → kept_sound g o ≡ true
kept-held {g} {o} w = ap (λ (x : Geometry). kept_sound x o) (sym (run-sized w)) ∙ ap (kept_sound (run w).target.geometry) (sym w.holds) ∙ (run_sound w).kept

-- Tests that two runs pass, each for one number.

mix : (a b c d : Bool) → (a && b) ≡ true → (c && d) ≡ true → (a && d) ≡ true
mix a b c d h k = and-true a d (both a b h).0 (both c d k).1

-- the first test of one run's value and the second of another's
mixed : {A B : Type 0} (p : A → Bool) (q : B → Bool) {a : A} {b : B} (x : A) (y : B) (z : A) (u : B) → x ≡ a → u ≡ b → (p x && q y) ≡ true → (p z && q u) ≡ true → (p a && q b) ≡ true
mixed p q {a} {b} x y z u e d h k =
    and-true (p a) (q b) (subst (λ i. p i ≡ true) e (both (p x) (q y) h).0) (subst (λ i. q i ≡ true) d (both (p z) (q u) k).1)

-- each mark of a LUN past the count is off, and its number 0, by a run of its own; the number of one that exists is within its blocks
mark-mix : (there a b c : Bool) (most : ℕ) (x p q r s : Lun) → p.working ≡ x.working → q.fail ≡ x.fail → r.copyback ≡ x.copyback
    → s.blank ≡ x.blank → pick there a (is_unused p) ≡ true → pick there b (is_unused q) ≡ true → pick there c (is_unused r) ≡ true
    → pick there (leb s.blank most) (is_unused s) ≡ true → pick there (leb x.blank most) (is_unused x) ≡ true
mark-mix true a b c most x p q r s ep eq er es hp hq hr hs = subst (λ (n : ℕ). leb n most ≡ true) es hs
mark-mix false a b c most x p q r s ep eq er es hp hq hr hs =
    and-true (not x.working && not x.fail && not x.copyback) (eqb x.blank 0)
    (and-true (not x.working && not x.fail) (not x.copyback)
    (and-true (not x.working) (not x.fail)
    (subst (λ (m : Bool). not m ≡ true) ep (unused p hp).0) (subst (λ (m : Bool). not m ≡ true) eq (unused q hq).1))
    (subst (λ (m : Bool). not m ≡ true) er (unused r hr).2))
    (subst (λ (n : ℕ). eqb n 0 ≡ true) es (unused s hs).3)
  where
    unused : (y : Lun) → is_unused y ≡ true
        → (not y.working ≡ true) × (not y.fail ≡ true) × (not y.copyback ≡ true) × (eqb y.blank 0 ≡ true)
    unused y h = both4 (not y.working) (not y.fail) (not y.copyback) (eqb y.blank 0) h

sequence-sound : (g : Geometry) (s : Sequence) → SequenceGiven g s → sequence_sound g s ≡ true
sequence-sound g Idle w = refl
sequence-sound g (Columns k) w = subst (λ (x : First × ℕ). (takes_column x.0 && ltb x.1 2) ≡ true) w.0.same (sequence-held w.0.stands)
sequence-sound g (Rows k) w =
    let f = k.first in
    let i = w.0.other in
    let j = w.1.other in
    let p = both3 (takes_row i.first) (ltb i.got 3) (column_held g i.first i.column) (sequence-held w.0.stands) in
    let q = both3 (takes_row j.first) (ltb j.got 3) (column_held g j.first j.column) (sequence-held w.1.stands) in
    let counted = and-true (takes_row j.first) (ltb j.got 3) q.0 q.1 in
    and-true (takes_row f && ltb k.got 3) (column_held g f k.column)
    (subst (λ (x : First × ℕ). (takes_row x.0 && ltb x.1 3) ≡ true) w.1.same counted)
    (subst (λ (x : First × Column). column_held g x.0 x.1 ≡ true) w.0.same p.2)
sequence-sound g (Single f) w = sequence-held w
sequence-sound g (Due k) w =
    let f = k.first in
    let i = w.0.other in
    let j = w.1.other in
    let p = both3 (waits_second i.first) (column_held g i.first i.column) (row_held g i.first i.row) (sequence-held w.0.stands) in
    let q = both3 (waits_second j.first) (column_held g j.first j.column) (row_held g j.first j.row) (sequence-held w.1.stands) in
    let waiting = and-true (waits_second i.first) (column_held g i.first i.column) p.0 p.1 in
    and-true (waits_second f && column_held g f k.column) (row_held g f k.row)
    (subst (λ (x : First × Column). (waits_second x.0 && column_held g x.0 x.1) ≡ true) w.0.same waiting)
    (subst (λ (x : First × Row). row_held g x.0 x.1 ≡ true) w.1.same q.2)
sequence-sound g (Filling k) w =
    let i = w.0.other in
    let j = w.1.other in
    let p = both3 (takes_program_data i.first) (leb i.at.0 (page_size g)) (row_exists g i.row) (sequence-held w.0.stands) in
    let q = both3 (takes_program_data j.first) (leb j.at.0 (page_size g)) (row_exists g j.row) (sequence-held w.1.stands) in
    let placed = and-true (takes_program_data j.first) (leb j.at.0 (page_size g)) q.0 q.1 in
    and-true (takes_program_data k.first && leb k.at.0 (page_size g)) (row_exists g k.row)
    (subst (λ (x : First × Column). (takes_program_data x.0 && leb x.1.0 (page_size g)) ≡ true) w.1.same placed)
    (subst (λ (x : First × Row). row_exists g x.1 ≡ true) w.0.same p.2)
sequence-sound g (Moving k) w =
    let i = w.0.other in
    let j = w.1.other in
    let p = both3 (takes_program_data i.first) (ltb i.got 2) (row_exists g i.row) (sequence-held w.0.stands) in
    let q = both3 (takes_program_data j.first) (ltb j.got 2) (row_exists g j.row) (sequence-held w.1.stands) in
    let counted = and-true (takes_program_data j.first) (ltb j.got 2) q.0 q.1 in
    and-true (takes_program_data k.first && ltb k.got 2) (row_exists g k.row)
    (subst (λ (x : First × ℕ). (takes_program_data x.0 && ltb x.1 2) ≡ true) w.1.same counted)
    (subst (λ (x : First × Row). row_exists g x.1 ≡ true) w.0.same p.2)
sequence-sound g (Setting k) w =
    let i = w.0.other in
    let j = w.1.other in
    mixed (λ (x : ℕ). ltb x 4) (λ (x : ℕ). eqb x 0 || eqb x 0x40) i.got i.value j.got j.value w.0.same w.1.same
    (sequence-held w.0.stands) (sequence-held w.1.stands)

-- where a run can leave only outputs that pass, one whose numbers are given passes
each-sound : (g : Geometry) (Leaving : Output → Type 0) → ((o : Output) → Leaving o → output_sound g o ≡ true) → (o : Output) → EachGiven Leaving o → output_sound g o ≡ true
each-sound g Leaving held output.Nothing w = refl
each-sound g Leaving held (output.Register l c) w =
    mix (ltb l g.luns) (leb w.0.0.0 (page_size g)) (ltb w.1.0 g.luns) (leb c.0 (page_size g)) (held _ w.0.1) (held _ w.1.1)
each-sound g Leaving held (output.Parameters at) w = held _ w
each-sound g Leaving held (output.Status l) w = held _ w
each-sound g Leaving held (output.Ids at) w = held _ w
each-sound g Leaving held (output.Signature at) w = held _ w
each-sound g Leaving held (output.Feature at) w = held _ w

output-sound : (g : Geometry) (o : Output) → OutputGiven g o → output_sound g o ≡ true
output-sound g o w = each-sound g (Shows g) (λ x run. output-held run) o w

-- no run keeps a status
no-status : (g : Geometry) (o : Output) → KeptGiven g o → not (shows_status o) ≡ true
no-status g output.Nothing w = refl
no-status g (output.Register l c) w = refl
no-status g (output.Parameters at) w = refl
no-status g (output.Status l) w = (both (output_sound g (output.Status l)) false (kept-held w)).1
no-status g (output.Ids at) w = refl
no-status g (output.Signature at) w = refl
no-status g (output.Feature at) w = refl

kept-sound : (g : Geometry) (o : Output) → KeptGiven g o → kept_sound g o ≡ true
kept-sound g o w =
    and-true (output_sound g o) (not (shows_status o))
    (each-sound g (Keeps g) (λ x run. (both (output_sound g x) (not (shows_status x)) (kept-held run)).0) o w)
    (no-status g o w)

mark-sound : (g : Geometry) (luns : List Lun) (l : ℕ) → l < 4 → Reached g (λ u. works u.luns l ≡ works luns l)
    → Reached g (λ u. failed u.luns l ≡ failed luns l) → Reached g (λ u. copyback_at u.luns l ≡ copyback_at luns l)
    → Reached g (λ u. blank_at u.luns l ≡ blank_at luns l) → mark_sound g luns l ≡ true
mark-sound g luns l h w f c n =
    mark-mix (ltb l g.luns) _ _ _ g.blocks (lun_at luns l) (lun_at (run w).target.luns l) (lun_at (run f).target.luns l)
    (lun_at (run c).target.luns l) (lun_at (run n).target.luns l) w.holds f.holds c.holds n.holds
    (run-mark w l h) (run-mark f l h) (run-mark c l h) (run-mark n l h)

-- the optional word may be any
words-sound : (g : Geometry) (w : Words) → Reached g (λ u. u.words.features ≡ w.features) → words_sound g w ≡ true
words-sound g w given =
    subst (λ (n : ℕ). words_sound g (record { features = n; optional = w.optional }) ≡ true) given.holds
    (subst (λ (x : Geometry). words_sound x (run given).target.words ≡ true) (run-sized given) (run_sound given).words)

pub by_itself : ByItself
by_itself t on w =
    let g = t.geometry in
    let mark : (l : ℕ) → l < 4 → mark_sound g t.luns l ≡ true = λ l h. mark-sound g t.luns l h (w.working l h) (w.fail l h) (w.copyback l h) (w.blank l h) in
    all_sound t on
    (subst (λ (x : Geometry). in_limits x ≡ true) (run-sized w.geometry) (run_sound w.geometry).limited)
    (words-sound g t.words w.features)
    (subst (λ (n : ℕ). n < g.luns) w.selected.holds (subst (λ (x : Geometry). (run w.selected).target.selected < x.luns) (run-sized w.selected) (run_sound w.selected).selected))
    (and-true (mark_sound g t.luns 0 && mark_sound g t.luns 1 && mark_sound g t.luns 2) (mark_sound g t.luns 3)
    (and-true (mark_sound g t.luns 0 && mark_sound g t.luns 1) (mark_sound g t.luns 2)
    (and-true (mark_sound g t.luns 0) (mark_sound g t.luns 1) (mark 0 (lit< tt)) (mark 1 (lit< tt)))
    (mark 2 (lit< tt)))
    (mark 3 (lit< tt)))
    (sequence-sound g t.decoder.sequence w.sequence)
    (output-sound g t.decoder.output w.output)
    (kept-sound g t.decoder.kept w.kept)
