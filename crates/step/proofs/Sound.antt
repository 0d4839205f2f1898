-- What a record that rule 13 lets pass says: its parts, the places in it as numbers, the buffers' lengths.
-- Assumes nothing.
use mathlib.Core.Path.{◌≡◌}
use mathlib.Core.Bool.{Bool, true, false, ◌&&◌, not}
use mathlib.Core.List.{List}
use Prim.Native.Nat.{ℕ, ◌*◌, ◌≤◌, ◌<◌}
use native.Mathlib.Omega.{arith}
use lib.ListN.{length}
use lib.Dec.{eqb, ltb, leb}
use borrow.Author.Tests.{eqb-true, ltb-true, leb-true}
use Rattle.target.specs.Address.{row_exists}
use Rattle.target.specs.Pick.{pick}
use Rattle.target.specs.Commands.{takes_program_data}
use Rattle.target.specs.Place.{is_bare, put_out, shows_status}
use Rattle.target.specs.Views.{taking}
use Rattle.target.specs.Sizes.{page_size, in_limits, sized}
use Rattle.target.specs.declared.Column.{Column}
use Rattle.target.specs.declared.Fill.{Fill}
use Rattle.target.specs.declared.Geometry.{Geometry}
use Rattle.target.specs.declared.Target.{Target}
use Rattle.target.specs.declared.Sequence.{Sequence}
use Rattle.target.specs.declared.Sequence.TheVariants.{Idle, Columns, Rows, Single, Due, Filling, Moving, Setting}
use Rattle.target.specs.declared.Output.{Output}
use Rattle.target.specs.declared.Output.TheVariants as output
use Rattle.target.proofs.Both.{both, both3, both4, both5}
use Rattle.target.proofs.Limits.{Limits, limits}
use Rattle.effects.specs.Effects.{place_in, place_out}
use Rattle.step.specs.Usable.{sequence_sound, output_sound, kept_sound, marks_sound, words_sound, record_sound, usable}
use Rattle.step.specs.Step.{Sizes}

pub record Sound (t : Target) : Type 0 where
  pub powered : t.powered ≡ true
  pub limited : in_limits t.geometry ≡ true
  pub words : words_sound t.geometry t.words ≡ true
  pub selected : t.selected < t.geometry.luns
  pub marks : marks_sound t.geometry t.luns ≡ true
  pub sequence : sequence_sound t.geometry t.decoder.sequence ≡ true
  pub output : output_sound t.geometry t.decoder.output ≡ true
  pub kept : kept_sound t.geometry t.decoder.kept ≡ true

pub sound : (t : Target) → record_sound t ≡ true → Sound t
unfolding record_sound
sound t h =
    let g = t.geometry in
    let m = marks_sound g t.luns in
    let s = sequence_sound g t.decoder.sequence in
    let o = output_sound g t.decoder.output in
    let w = words_sound g t.words in
    let l = ltb t.selected g.luns in
    let k = kept_sound g t.decoder.kept in
    let p = both (t.powered && in_limits g && w && l && m && s && o) k h in
    let n = both (t.powered && in_limits g && w && l && m && s) o p.0 in
    let q = both (t.powered && in_limits g && w && l && m) s n.0 in
    let r = both5 t.powered (in_limits g) w l m q.0 in
    record {
      powered = r.0;
      limited = r.1;
      words = r.2;
      selected = ltb-true _ _ r.3;
      marks = r.4;
      sequence = q.1;
      output = n.1;
      kept = p.1;
    }

-- whichever of the two is put out is sound
pub put-out-sound : (t : Target) → Sound t → output_sound t.geometry (put_out t.decoder) ≡ true
put-out-sound t k = by (is_bare t.decoder.sequence)
  where
    by : (b : Bool) → output_sound t.geometry (pick b t.decoder.kept t.decoder.output) ≡ true
    by true = (both (output_sound t.geometry t.decoder.kept) (not (shows_status t.decoder.kept)) k.kept).0
    by false = k.output

-- a program's place and its row
pub filling-place : (g : Geometry) (k : Fill) → sequence_sound g (Filling k) ≡ true → k.at.0 ≤ page_size g
filling-place g k h =
    leb-true _ _ (both3 (takes_program_data k.first) (leb k.at.0 (page_size g)) (row_exists g k.row) h).1

pub filling-row : (g : Geometry) (k : Fill) → sequence_sound g (Filling k) ≡ true → row_exists g k.row ≡ true
filling-row g k h = (both3 (takes_program_data k.first) (leb k.at.0 (page_size g)) (row_exists g k.row) h).2

-- a register that is put out lies within
pub register-place : (g : Geometry) (l : ℕ) (c : Column) → output_sound g (output.Register l c) ≡ true → (l < g.luns) × (c.0 ≤ page_size g)
register-place g l c h =
    let p = both (ltb l g.luns) (leb c.0 (page_size g)) h in
    (ltb-true _ _ p.0, leb-true _ _ p.1)

-- no place is near the end of the numbers
place-in : (g : Geometry) → Limits g → (s : Sequence) → sequence_sound g s ≡ true → place_in (taking s) < 65536
place-in g m Idle h = omega arith
place-in g m (Columns k) h = omega arith
place-in g m (Rows k) h = omega arith
place-in g m (Single f) h = omega arith
place-in g m (Due k) h = omega arith
place-in g m (Filling k) h = omega (arith, filling-place g k h)
place-in g m (Moving k) h = omega arith
place-in g m (Setting k) h = omega arith

place_out_lem : (g : Geometry) → Limits g → (o : Output) → output_sound g o ≡ true → place_out o < 65536
place_out_lem g m output.Nothing h = omega arith
place_out_lem g m (output.Register l c) h = omega (arith, (register-place g l c h).1)
place_out_lem g m (output.Parameters at) h = omega (arith, leb-true at 768 h)
place_out_lem g m (output.Status l) h = omega arith
place_out_lem g m (output.Ids at) h = omega (arith, leb-true at 2 h)
place_out_lem g m (output.Signature at) h = omega (arith, leb-true at 4 h)
place_out_lem g m (output.Feature at) h = omega (arith, leb-true at 4 h)

pub places-small : (t : Target) → record_sound t ≡ true → (place_in (taking t.decoder.sequence) < 65536) × (place_out (put_out t.decoder) < 65536)
places-small t h =
    let k = sound t h in
    let m = limits t.geometry k.limited in
    (place-in t.geometry m t.decoder.sequence k.sequence, place_out_lem t.geometry m (put_out t.decoder) (put-out-sound t k))

-- what rule 13 lets pass
pub record Passes (t : Target) (params array registers counts flags : List ℕ) : Type 0 where
  pub record-sound : record_sound t ≡ true
  pub params-size : length params ≡ 256
  pub sizes : Sizes t.geometry array registers counts
  pub flags-size : length flags ≡ t.geometry.luns * t.geometry.blocks

pub passes : (t : Target) (params array registers counts flags : List ℕ) → usable t (length params) (length array) (length registers) (length counts) (length flags) ≡ true → Passes t params array registers counts flags
unfolding usable sized
passes t params array registers counts flags h =
    let g = t.geometry in
    let a = eqb (length array) (g.luns * g.blocks * g.pages * page_size g) in
    let r = eqb (length registers) (g.luns * page_size g) in
    let n = eqb (length counts) (g.luns * g.blocks * g.pages) in
    let f = eqb (length flags) (g.luns * g.blocks) in
    let p = both (record_sound t) (eqb (length params) 256 && (a && r && n && f)) h in
    let s = both (eqb (length params) 256) (a && r && n && f) p.1 in
    let q = both4 a r n f s.1 in
    record {
      record-sound = p.0;
      params-size = eqb-true _ _ s.0;
      sizes = record { array_size = eqb-true _ _ q.0; registers-size = eqb-true _ _ q.1; counts-size = eqb-true _ _ q.2 };
      flags-size = eqb-true _ _ q.3;
    }
