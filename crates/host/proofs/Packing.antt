-- Packing and unpacking undo each other, and what can't be unpacked is refused 13 and stays as it is.
--     packed-back      what is packed unpacks to itself
--     packed-good      what is packed can be unpacked
--     image-back       what can be unpacked packs back to itself
--     kept-image       taken out and put back, a record is as it was
--     kept-event       an event that 13 refuses changes no number of the record and no lent byte
--     bad-event        on numbers that no record packs to every event is refused 13
-- A record has four LUN records, and the numbers four marks of each kind and four numbers of blank blocks: the types of the code say so.
-- Assumes nothing.
use mathlib.Core.Path.{◌≡◌, refl, sym, ap, ◌∙◌}
use mathlib.Core.Bool.{Bool, true, false, ◌&&◌}
use mathlib.Core.List.{List, [], ◌∷◌}
use Prim.Native.Nat.{ℕ, ◌≤◌}
use native.Mathlib.Omega.{arith}
use lib.ListN.{length, get_or}
use lib.Dec.{eqb, leb}
use borrow.Author.Tests.{eqb-true, eqb-false, leb-true, eq-eqb}
use Rattle.target.proofs.Both.{both, both3, both4, both5}
use Rattle.target.specs.Pick.{pick}
use Rattle.target.specs.Commands.{place_of}
use Rattle.target.specs.Luns.{lun_unused, works, failed, copyback_at, blank_at}
use Rattle.target.specs.declared.Lun.{Lun}
use Rattle.target.specs.declared.First.{First}
use Rattle.target.specs.declared.First.TheVariants as first
use Rattle.target.specs.declared.Sequence.{Sequence}
use Rattle.target.specs.declared.Sequence.TheVariants.{Idle, Columns, Rows, Single, Due, Filling, Moving, Setting}
use Rattle.target.specs.declared.Output.{Output}
use Rattle.target.specs.declared.Output.TheVariants as output
use Rattle.target.specs.declared.Target.{Target}
use Rattle.target.specs.declared.Reply.TheVariants as reply
use Rattle.target.specs.declared.Refusal.TheVariants as refusal
use Rattle.power.specs.Power.{unpowered}
use Rattle.step.specs.Usable.{record_sound, usable}
use Rattle.step.specs.Step.{Buffers, steady, step_of}
use Rattle.host.specs.declared.numbers.Cycles.{Cycles}
use Rattle.host.specs.declared.numbers.Place.{Place}
use Rattle.host.specs.declared.Image.{Image}
use Rattle.host.specs.Numbers.{mark_byte, is_set, first_at, sequence_of, cycles_of, output_of, output_place, luns_of, working_of, fail_of, copyback_of, blank_of, same_cycles, same_place, four_marks}
use Rattle.host.specs.Image.{cycles_in, place_in, kept_in, unpacked, packed, marks_good, good, taken, put_back, evented, event_on}

mark-back : (b : Bool) → is_set (mark_byte b) ≡ b
mark-back true = refl
mark-back false = refl

mark-small : (b : Bool) → leb (mark_byte b) 1 ≡ true
mark-small true = refl
mark-small false = refl

first_back : (f : First) → first_at (place_of f) ≡ f
first_back first.Read = refl
first_back first.ChangeColumn = refl
first_back first.ChangeColumnEnhanced = refl
first_back first.Erase = refl
first_back first.Status = refl
first_back first.StatusEnhanced = refl
first_back first.Program = refl
first_back first.ReadId = refl
first_back first.ParameterPage = refl
first_back first.GetFeatures = refl
first_back first.SetFeatures = refl
first_back first.CopybackProgram = refl
first_back first.ChangeColumnInPage = refl

sequence-back : (s : Sequence) → sequence_of (cycles_of s) ≡ s
sequence-back Idle = refl
sequence-back (Columns k) = ap (λ (x : First). Columns (record { first = x; got = k.got; low = k.low })) (first_back k.first)
sequence-back (Rows k) = ap (λ (x : First). Rows (record { first = x; column = k.column; got = k.got; low = k.low; mid = k.mid })) (first_back k.first)
sequence-back (Single f) = ap Single (first_back f)
sequence-back (Due k) = ap (λ (x : First). Due (record { first = x; column = k.column; row = k.row })) (first_back k.first)
sequence-back (Filling k) = ap (λ (x : First). Filling (record { first = x; row = k.row; at = k.at })) (first_back k.first)
sequence-back (Moving k) = ap (λ (x : First). Moving (record { first = x; row = k.row; got = k.got; low = k.low })) (first_back k.first)
sequence-back (Setting k) = refl

output-back : (x : Output) → output_of (output_place x) ≡ x
output-back output.Nothing = refl
output-back (output.Register l c) = refl
output-back (output.Parameters at) = refl
output-back (output.Status l) = refl
output-back (output.Ids at) = refl
output-back (output.Signature at) = refl
output-back (output.Feature at) = refl

-- a list of four is its four elements
four : {X : Type 0} (x : X) (xs : List X) → length xs ≡ 4 → get_or xs 0 x ∷ get_or xs 1 x ∷ get_or xs 2 x ∷ get_or xs 3 x ∷ [] ≡ xs
four x [] h = absurd (omega arith)
four x (a ∷ []) h = absurd (omega arith)
four x (a ∷ b ∷ []) h = absurd (omega arith)
four x (a ∷ b ∷ c ∷ []) h = absurd (omega arith)
four x (a ∷ b ∷ c ∷ d ∷ []) h = refl
four x (a ∷ b ∷ c ∷ d ∷ e ∷ xs) h = absurd (omega arith)

luns-back : (ls : List Lun) → length ls ≡ 4 → luns_of (working_of ls) (fail_of ls) (copyback_of ls) (blank_of ls) ≡ ls
luns-back ls h =
    (λ j.
    record { working = mark-back (works ls 0) j; fail = mark-back (failed ls 0) j; copyback = mark-back (copyback_at ls 0) j; blank = blank_at ls 0 }
    ∷ record { working = mark-back (works ls 1) j; fail = mark-back (failed ls 1) j; copyback = mark-back (copyback_at ls 1) j; blank = blank_at ls 1 }
    ∷ record { working = mark-back (works ls 2) j; fail = mark-back (failed ls 2) j; copyback = mark-back (copyback_at ls 2) j; blank = blank_at ls 2 }
    ∷ record { working = mark-back (works ls 3) j; fail = mark-back (failed ls 3) j; copyback = mark-back (copyback_at ls 3) j; blank = blank_at ls 3 }
    ∷ [])
    ∙ four lun_unused ls h

-- what is packed unpacks to itself
pub packed-back : (t : Target) → length t.luns ≡ 4 → unpacked (packed t) ≡ t
unfolding unpacked packed
packed-back t h = λ j. record {
  powered = mark-back t.powered j;
  geometry = t.geometry;
  words = t.words;
  ids = t.ids;
  high = mark-back t.high j;
  clear = mark-back t.clear j;
  seen = mark-back t.seen j;
  selected = t.selected;
  luns = luns-back t.luns h j;
  decoder = record { sequence = sequence-back t.decoder.sequence j; output = output-back t.decoder.output j; kept = output-back t.decoder.kept j };
}

-- tests that hold, put together
and : {a b : Bool} → a ≡ true → b ≡ true → (a && b) ≡ true
and {a} {b} p q = rw (p, q)

self : (n : ℕ) → eqb n n ≡ true
self n = eq-eqb n n refl

cycles-self : (c : Cycles) → same_cycles c c ≡ true
unfolding same_cycles
cycles-self c =
    and (and (and (and (and (and (and (self c.kind) (self c.first)) (self c.got)) (self c.low)) (self c.mid)) (self c.value)) (self c.column)) (self c.row)

place-self : (p : Place) → same_place p p ≡ true
unfolding same_place
place-self p = and (and (self p.kind) (self p.lun)) (self p.at)

working-small : (ls : List Lun) → four_marks (working_of ls) ≡ true
unfolding four_marks
working-small ls = and (and (and (mark-small (works ls 0)) (mark-small (works ls 1))) (mark-small (works ls 2))) (mark-small (works ls 3))

fail-small : (ls : List Lun) → four_marks (fail_of ls) ≡ true
unfolding four_marks
fail-small ls = and (and (and (mark-small (failed ls 0)) (mark-small (failed ls 1))) (mark-small (failed ls 2))) (mark-small (failed ls 3))

copyback-small : (ls : List Lun) → four_marks (copyback_of ls) ≡ true
unfolding four_marks
copyback-small ls = and (and (and (mark-small (copyback_at ls 0)) (mark-small (copyback_at ls 1))) (mark-small (copyback_at ls 2))) (mark-small (copyback_at ls 3))

marks-small : (t : Target) → marks_good (packed t) ≡ true
unfolding marks_good packed
marks-small t =
    and (and (and (and (and (and (mark-small t.powered) (mark-small t.high)) (mark-small t.clear)) (mark-small t.seen))
    (working-small t.luns)) (fail-small t.luns)) (copyback-small t.luns)

packed-cycles : (t : Target) → cycles_in (packed t) ≡ cycles_of t.decoder.sequence
unfolding packed
packed-cycles t = refl

packed-place : (t : Target) → place_in (packed t) ≡ output_place t.decoder.output
unfolding packed
packed-place t = refl

packed-kept : (t : Target) → kept_in (packed t) ≡ output_place t.decoder.kept
unfolding packed
packed-kept t = refl

-- what an output packs to is what it packs to again
placed : (p : Place) (o : Output) → p ≡ output_place o → same_place p (output_place (output_of p)) ≡ true
placed p o e =
    ap (λ (x : Place). same_place x (output_place (output_of x))) e
    ∙ ap (λ (x : Output). same_place (output_place o) (output_place x)) (output-back o) ∙ place-self (output_place o)

-- what is packed can be unpacked
pub packed-good : (t : Target) → good (packed t) ≡ true
unfolding good
packed-good t =
    and (and (and (marks-small t)
    (ap (λ (c : Cycles). same_cycles c (cycles_of (sequence_of c))) (packed-cycles t)
    ∙ ap (λ (s : Sequence). same_cycles (cycles_of t.decoder.sequence) (cycles_of s)) (sequence-back t.decoder.sequence) ∙ cycles-self (cycles_of t.decoder.sequence)))
    (placed (place_in (packed t)) t.decoder.output (packed-place t)))
    (placed (kept_in (packed t)) t.decoder.kept (packed-kept t))

-- a byte that is a mark
mark-fits : (n : ℕ) → leb n 1 ≡ true → mark_byte (is_set n) ≡ n
mark-fits n h = by (eqb n 1) refl where
  by : (b : Bool) → eqb n 1 ≡ b → mark_byte b ≡ n
  by true e = sym (eqb-true n 1 e)
  by false e = let small = leb-true n 1 h in let other = eqb-false n 1 e in zero small other where
    zero : n ≤ 1 → (n ≡ 1 → ⊥) → 0 ≡ n
    zero small other = omega arith

same-cycles : (a b : Cycles) → same_cycles a b ≡ true → a ≡ b
unfolding same_cycles
same-cycles a b h =
    let h7 = both (eqb a.kind b.kind && eqb a.first b.first && eqb a.got b.got && eqb a.low b.low && eqb a.mid b.mid && eqb a.value b.value && eqb a.column b.column) (eqb a.row b.row) h in
    let h6 = both (eqb a.kind b.kind && eqb a.first b.first && eqb a.got b.got && eqb a.low b.low && eqb a.mid b.mid && eqb a.value b.value) (eqb a.column b.column) h7.0 in
    let h5 = both (eqb a.kind b.kind && eqb a.first b.first && eqb a.got b.got && eqb a.low b.low && eqb a.mid b.mid) (eqb a.value b.value) h6.0 in
    let h4 = both (eqb a.kind b.kind && eqb a.first b.first && eqb a.got b.got && eqb a.low b.low) (eqb a.mid b.mid) h5.0 in
    let h3 = both4 (eqb a.kind b.kind) (eqb a.first b.first) (eqb a.got b.got) (eqb a.low b.low) h4.0 in
    λ j. record {
      kind = eqb-true a.kind b.kind h3.0 j;
      first = eqb-true a.first b.first h3.1 j;
      got = eqb-true a.got b.got h3.2 j;
      low = eqb-true a.low b.low h3.3 j;
      mid = eqb-true a.mid b.mid h4.1 j;
      value = eqb-true a.value b.value h5.1 j;
      column = eqb-true a.column b.column h6.1 j;
      row = eqb-true a.row b.row h7.1 j;
    }

same_place_lem : (a b : Place) → same_place a b ≡ true → a ≡ b
unfolding same_place
same_place_lem a b h =
    let p = both3 (eqb a.kind b.kind) (eqb a.lun b.lun) (eqb a.at b.at) h in
    λ j. record { kind = eqb-true a.kind b.kind p.0 j; lun = eqb-true a.lun b.lun p.1 j; at = eqb-true a.at b.at p.2 j }

working-back : (w f c b : List ℕ) → length w ≡ 4 → four_marks w ≡ true → working_of (luns_of w f c b) ≡ w
unfolding four_marks
working-back w f c b l h =
    let p = both4 (leb (get_or w 0 0) 1) (leb (get_or w 1 0) 1) (leb (get_or w 2 0) 1) (leb (get_or w 3 0) 1) h in
    (λ j. mark-fits (get_or w 0 0) p.0 j ∷ mark-fits (get_or w 1 0) p.1 j ∷ mark-fits (get_or w 2 0) p.2 j ∷ mark-fits (get_or w 3 0) p.3 j ∷ []) ∙ four 0 w l

fail-back : (w f c b : List ℕ) → length f ≡ 4 → four_marks f ≡ true → fail_of (luns_of w f c b) ≡ f
unfolding four_marks
fail-back w f c b l h =
    let p = both4 (leb (get_or f 0 0) 1) (leb (get_or f 1 0) 1) (leb (get_or f 2 0) 1) (leb (get_or f 3 0) 1) h in
    (λ j. mark-fits (get_or f 0 0) p.0 j ∷ mark-fits (get_or f 1 0) p.1 j ∷ mark-fits (get_or f 2 0) p.2 j ∷ mark-fits (get_or f 3 0) p.3 j ∷ []) ∙ four 0 f l

copyback-back : (w f c b : List ℕ) → length c ≡ 4 → four_marks c ≡ true → copyback_of (luns_of w f c b) ≡ c
unfolding four_marks
copyback-back w f c b l h =
    let p = both4 (leb (get_or c 0 0) 1) (leb (get_or c 1 0) 1) (leb (get_or c 2 0) 1) (leb (get_or c 3 0) 1) h in
    (λ j. mark-fits (get_or c 0 0) p.0 j ∷ mark-fits (get_or c 1 0) p.1 j ∷ mark-fits (get_or c 2 0) p.2 j ∷ mark-fits (get_or c 3 0) p.3 j ∷ []) ∙ four 0 c l

blank-back : (w f c b : List ℕ) → length b ≡ 4 → blank_of (luns_of w f c b) ≡ b
blank-back w f c b l = four 0 b l

-- four marks of each kind, and four numbers
pub record FourOfEach (i : Image) : Type 0 where
  pub working : length i.working ≡ 4
  pub fail : length i.fail ≡ 4
  pub copyback : length i.copyback ≡ 4
  pub blank : length i.blank ≡ 4

-- what can be unpacked packs back to itself
pub image-back : (i : Image) → FourOfEach i → good i ≡ true → packed (unpacked i) ≡ i
unfolding good marks_good packed unpacked
image-back i l h =
    let g = both4 (marks_good i) (same_cycles (cycles_in i) (cycles_of (sequence_of (cycles_in i)))) (same_place (place_in i) (output_place (output_of (place_in i)))) (same_place (kept_in i) (output_place (output_of (kept_in i)))) h in
    let cycles = sym (same-cycles (cycles_in i) (cycles_of (sequence_of (cycles_in i))) g.1) in
    let place = sym (same_place_lem (place_in i) (output_place (output_of (place_in i))) g.2) in
    let kept = sym (same_place_lem (kept_in i) (output_place (output_of (kept_in i))) g.3) in
    let m6 = both (leb i.powered 1 && leb i.high 1 && leb i.clear 1 && leb i.seen 1 && four_marks i.working && four_marks i.fail) (four_marks i.copyback) g.0 in
    let m5 = both (leb i.powered 1 && leb i.high 1 && leb i.clear 1 && leb i.seen 1 && four_marks i.working) (four_marks i.fail) m6.0 in
    let m4 = both5 (leb i.powered 1) (leb i.high 1) (leb i.clear 1) (leb i.seen 1) (four_marks i.working) m5.0 in
    λ j. record {
      data_bytes = i.data_bytes;
      spare_bytes = i.spare_bytes;
      features = i.features;
      optional_commands = i.optional_commands;
      pages = i.pages;
      blocks = i.blocks;
      luns = i.luns;
      programs = i.programs;
      selected = i.selected;
      column = (cycles j).column;
      row = (cycles j).row;
      output_lun = (place j).lun;
      output_at = (place j).at;
      kept_lun = (kept j).lun;
      kept_at = (kept j).at;
      powered = mark-fits i.powered m4.0 j;
      high = mark-fits i.high m4.1 j;
      clear = mark-fits i.clear m4.2 j;
      seen = mark-fits i.seen m4.3 j;
      working = working-back i.working i.fail i.copyback i.blank l.working m4.4 j;
      fail = fail-back i.working i.fail i.copyback i.blank l.fail m5.1 j;
      maker = i.maker;
      device = i.device;
      sequence = (cycles j).kind;
      first = (cycles j).first;
      got = (cycles j).got;
      low = (cycles j).low;
      mid = (cycles j).mid;
      value = (cycles j).value;
      output = (place j).kind;
      copyback = copyback-back i.working i.fail i.copyback i.blank l.copyback m6.1 j;
      kept = (kept j).kind;
      blank = blank-back i.working i.fail i.copyback i.blank l.blank j;
    }

-- a record that is taken out and put back unchanged is as it was, whatever its numbers
pub kept-image : (i : Image) → FourOfEach i → put_back i (taken i) ≡ i
kept-image i l = by (good i) refl where
  by : (b : Bool) → good i ≡ b → put_back i (taken i) ≡ i
  by true e = ap (λ (g : Bool). pick g (packed (pick g (unpacked i) unpowered)) i) e ∙ image-back i l e
  by false e = ap (λ (g : Bool). pick g (packed (pick g (unpacked i) unpowered)) i) e

-- an event that rule 13 refuses changes no number of the record and no lent byte
module _ (i : Image) (page : List ℕ) (b : Buffers) (flags : List ℕ) (l : FourOfEach i) where
  abbrev Usable : Target → Bool
  Usable t = usable t (length page) (length b.array) (length b.registers) (length b.counts) (length flags)

  pub kept-event : (kind value : ℕ) → Usable (taken i) ≡ false → event_on i kind value page b flags ≡ record { answer = 525; image = i; buffers = b }
  unfolding step_of
  kept-event kind value h =
      ap (λ (g : Bool). evented i (pick g (steady (taken i) (record { kind = kind; value = value }) page b flags) (record { reply = reply.Refused refusal.NotUsable; target = taken i; buffers = b }))) h
      ∙ (λ j. record { answer = 525; image = kept-image i l j; buffers = b })

  -- numbers that no record packs to are never usable
  pub bad-taken : good i ≡ false → taken i ≡ unpowered
  bad-taken h = ap (λ (g : Bool). pick g (unpacked i) unpowered) h

  bad-unusable : Usable unpowered ≡ false
  unfolding usable record_sound unpowered
  bad-unusable = refl

  pub bad-event : (kind value : ℕ) → good i ≡ false → event_on i kind value page b flags ≡ record { answer = 525; image = i; buffers = b }
  bad-event kind value h = kept-event kind value (ap Usable (bad-taken h) ∙ bad-unusable)
