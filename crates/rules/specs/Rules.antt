-- Which rule refuses an event (document 01, "Refusal numbers"; document 02, A1 and A2): one definition for each number, and their list in the document's
-- order. `verdict` is the first of the list that holds.
use Rattle.std.specs.Prelude.{ℕ, Bool, true, false, ◌&&◌, ◌||◌, not, List, [], ◌∷◌, eqb, ltb, leb, None, Ok, Option, Result, Some}
use Rattle.target.specs.Pick.{pick, or_else}
use Rattle.target.specs.Words.{has_feature}
use Rattle.target.specs.Sizes.{page_size, column_end}
use Rattle.target.specs.Address.{lun_of, lun_exists, block_exists, row_exists}
use Rattle.target.specs.Commands.{class_of, is_known, offered, first_of, second_of, second_row, looks_of, needs_ready, waits_for, needs_copyback, knows_address}
use Rattle.target.specs.Views.{completed, taking}
use Rattle.target.specs.Luns.{works, copyback_at, any_works, others_work}
use Rattle.target.specs.Events.{is_bus, is_reset, bad_record}
use Rattle.target.specs.Place.{is_open, takes_command, takes_address, takes_data, put_out, has_output}
use Rattle.target.specs.declared.Event.{Event}
use Rattle.target.specs.declared.Geometry.{Geometry}
use Rattle.target.specs.declared.Words.{Words}
use Rattle.target.specs.declared.Lun.{Lun}
use Rattle.target.specs.declared.Row.{Row}
use Rattle.target.specs.declared.Decoder.{Decoder}
use Rattle.target.specs.declared.Target.{Target}
use Rattle.target.specs.declared.First.{First}
use Rattle.target.specs.declared.Sequence.{Sequence}
use Rattle.target.specs.declared.Output.{Output}
use Rattle.target.specs.declared.Output.TheVariants as output
use Rattle.target.specs.declared.commands.Looks.{Looks}
use Rattle.target.specs.declared.commands.Looks.TheVariants as looks
use Rattle.target.specs.declared.commands.Waits.{Waits}
use Rattle.target.specs.declared.commands.Waits.TheVariants as waits
use Rattle.target.specs.declared.views.Given.{Given}
use Rattle.target.specs.declared.views.Given.TheVariants as given
use Rattle.target.specs.declared.views.Taker.{Taker}
use Rattle.target.specs.declared.views.Taker.TheVariants as taker
use Rattle.target.specs.declared.Refusal.{Refusal}
use Rattle.target.specs.declared.Refusal.TheVariants.{Unknown, BeforeReset, Misplaced, OutOfRange, LunWorks, OthersWork, Protected, PastEnd, NotOffered, NotWorking, LineHeld, BadRecord, NoCopyback}
use Rattle.target.specs.declared.Second.{Second}

-- 1: command byte not listed; or 78h, 06h, EEh/EFh, 35h, or 85h with no sequence open, whose optional bit is 0
unfoldable pub unknown : Words → Sequence → Event → Bool
unknown w s e = eqb e.kind 0 && not (is_known (class_of e.value) && offered w (is_open s) e.value)

-- 2: bus cycle other than FFh before the first FFh
unfoldable pub before_reset : Bool → Event → Bool
before_reset seen e = is_bus e && not (is_reset e) && not seen

-- the cycle fits the place reached
unfoldable pub fits : Decoder → Event → Bool
fits d e =
    pick (eqb e.kind 0) (takes_command d.sequence e.value)
    (pick (eqb e.kind 1) (takes_address d.sequence)
    (pick (eqb e.kind 2) (takes_data d.sequence)
    (has_output (put_out d))))

-- 3: known cycle that doesn't fit the place reached
unfoldable pub misplaced : Decoder → Event → Bool
misplaced d e = is_bus e && not (fits d e)

-- a row is in range if the fields that are looked at name what exists
abbrev pub exists : Geometry → Looks → Row → Bool
exists g looks.Nothing r = true
exists g looks.Lun r = lun_exists g r
exists g looks.Block r = block_exists g r
exists g looks.Page r = row_exists g r

abbrev pub row_fits : Geometry → First → Row → Bool
row_fits g f r = exists g (looks_of f) r

-- a column is below P, or below 768 within the parameter page, a row's fields exist, a feature or identification address is one that the command knows
abbrev pub beyond : Geometry → Option Given → Bool
beyond g None = false
beyond g (Some (given.Column k)) = leb (column_end g k.page) k.column.0
beyond g (Some (given.Row k)) = not (row_fits g k.first k.row)
beyond g (Some (given.Single k)) = not (knows_address k.first k.value)

-- 4: row, column, feature or identification address not in range
unfoldable pub out_of_range : Geometry → Sequence → Event → Bool
out_of_range g s e = eqb e.kind 1 && beyond g (completed s e.value)

-- the row's LUN works, looked at with the row's third cycle; for 05h the selected LUN, with the column's second
abbrev pub names_working : Geometry → List Lun → ℕ → Option Given → Bool
names_working g luns selected None = false
names_working g luns selected (Some (given.Column k)) = k.asks && works luns selected
names_working g luns selected (Some (given.Row k)) = needs_ready k.first && works luns (lun_of g k.row)
names_working g luns selected (Some (given.Single k)) = false

-- the LUN of the page register that is put out works
abbrev pub output_works : List Lun → Output → Bool
output_works luns output.Nothing = false
output_works luns (output.Register l c) = works luns l
output_works luns (output.Parameters at) = false
output_works luns (output.Status l) = false
output_works luns (output.Ids at) = false
output_works luns (output.Signature at) = false
output_works luns (output.Feature at) = false

-- 5: LUN named by 00h, 80h, 85h, 60h or 06h is working (not 78h); also data out of a page register, or 05h, on a working LUN
unfoldable pub lun_works : Geometry → List Lun → ℕ → Decoder → Event → Bool
lun_works g luns selected d e =
    eqb e.kind 1 && names_working g luns selected (completed d.sequence e.value) || eqb e.kind 3 && output_works luns (put_out d)

-- a row that wants a copyback open on its LUN, where none is
abbrev pub lacks_copyback : Geometry → List Lun → Option Given → Bool
lacks_copyback g luns None = false
lacks_copyback g luns (Some (given.Column k)) = false
lacks_copyback g luns (Some (given.Row k)) = needs_copyback k.first && not (copyback_at luns (lun_of g k.row))
lacks_copyback g luns (Some (given.Single k)) = false

-- 14: 85h's last row cycle, and no copyback open on the LUN that it names
unfoldable pub no_copyback : Geometry → List Lun → Sequence → Event → Bool
no_copyback g luns s e = eqb e.kind 1 && lacks_copyback g luns (completed s e.value)

-- a LUN works that the command waits for
abbrev pub work_for : List Lun → ℕ → Waits → Bool
work_for luns selected waits.Nobody = false
work_for luns selected waits.Others = others_work luns selected
work_for luns selected waits.All = any_works luns

abbrev pub others_work_for : List Lun → ℕ → Option First → Bool
others_work_for luns selected None = false
others_work_for luns selected (Some f) = work_for luns selected (waits_for f)

-- 6: 90h, ECh, EEh, EFh while any LUN works; 70h while a LUN other than the selected one works
unfoldable pub others_busy : List Lun → ℕ → Event → Bool
others_busy luns selected e = eqb e.kind 0 && others_work_for luns selected (first_of e.value)

abbrev pub is_guarded : Option Second → Bool
is_guarded None = false
is_guarded (Some s) = (second_row s).guarded

-- 7: 10h or D0h with the protect line low
unfoldable pub line_low : Bool → Event → Bool
line_low high e = eqb e.kind 0 && is_guarded (second_of e.value) && not high

-- a program has come to the end of the register
abbrev pub data_ended : Geometry → Option Taker → Bool
data_ended g None = false
data_ended g (Some (taker.Program k)) = leb (page_size g) k.at.0
data_ended g (Some (taker.Feature k)) = false

-- all of the output has been given: the register to its end, the page three times, two IDs, four bytes; a status never ends
abbrev pub output_ended : Geometry → Output → Bool
output_ended g output.Nothing = false
output_ended g (output.Register l c) = leb (page_size g) c.0
output_ended g (output.Parameters at) = leb 768 at
output_ended g (output.Status l) = false
output_ended g (output.Ids at) = leb 2 at
output_ended g (output.Signature at) = leb 4 at
output_ended g (output.Feature at) = leb 4 at

-- 8: data in or out past the end
unfoldable pub past_end : Geometry → Decoder → Event → Bool
past_end g d e = eqb e.kind 2 && data_ended g (taking d.sequence) || eqb e.kind 3 && output_ended g (put_out d)

-- P1 is 0 or 40h, the rest 0; 40h needs feature bit 8
abbrev pub unoffered : Words → Option Taker → ℕ → Bool
unoffered w None v = false
unoffered w (Some (taker.Program k)) v = false
unoffered w (Some (taker.Feature k)) v = not (eqb v 0 || eqb k.got 0 && eqb v 0x40 && has_feature w 8)

-- 9: feature byte not offered, each looked at as it comes
unfoldable pub not_offered : Words → Sequence → Event → Bool
not_offered w s e = eqb e.kind 2 && unoffered w (taking s) e.value

-- 10: finish of a LUN that is not working or doesn't exist
unfoldable pub not_working : Geometry → List Lun → Event → Bool
not_working g luns e = eqb e.kind 4 && not (ltb e.value g.luns && works luns e.value)

-- 11: protect event, even to the level it has, while a LUN works or a sequence is open
unfoldable pub line_held : List Lun → Sequence → Event → Bool
line_held luns s e = eqb e.kind 5 && (any_works luns || is_open s)

-- a rule: whether it holds, and the refusal that it gives
pub record Rule : Type 0 where
  pub holds : Bool
  pub gives : Refusal

abbrev pub rule : Bool → Refusal → Rule
rule b r = record { holds = b; gives = r }

-- document 01's order, with document 02's 14: 12, 2, 1, 3, 6, 4, 9, 5, 14, 7, 8 (13 is looked at before, in `usable`); 10 and 11 are
-- met by bench events only
unfoldable pub rules : Target → Event → List Rule
rules t e =
    rule (bad_record e) BadRecord
    ∷ rule (before_reset t.seen e) BeforeReset
    ∷ rule (unknown t.words t.decoder.sequence e) Unknown
    ∷ rule (misplaced t.decoder e) Misplaced
    ∷ rule (others_busy t.luns t.selected e) OthersWork
    ∷ rule (out_of_range t.geometry t.decoder.sequence e) OutOfRange
    ∷ rule (not_offered t.words t.decoder.sequence e) NotOffered
    ∷ rule (lun_works t.geometry t.luns t.selected t.decoder e) LunWorks
    ∷ rule (no_copyback t.geometry t.luns t.decoder.sequence e) NoCopyback
    ∷ rule (line_low t.high e) Protected
    ∷ rule (past_end t.geometry t.decoder e) PastEnd
    ∷ rule (not_working t.geometry t.luns e) NotWorking
    ∷ rule (line_held t.luns t.decoder.sequence e) LineHeld
    ∷ []

-- the first rule of a list that holds
abbrev pub first_holding : List Rule → Result Unit Refusal
first_holding [] = Ok tt
first_holding (r ∷ rs) = or_else r.holds r.gives (first_holding rs)

unfoldable pub verdict : Target → Event → Result Unit Refusal
verdict t e = first_holding (rules t e)
