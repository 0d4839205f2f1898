-- The record after an event, field by field, and the work that an accepted event asks of the lent buffers (document 01, "The
-- steps"). Each definition takes only what it reads.
use Rattle.std.specs.Prelude.{ℕ, ◌+◌, Bool, true, false, ◌&&◌, ◌||◌, not, eqb, None, Option, Some}
use Rattle.target.specs.Pick.{pick}
use Rattle.target.specs.Address.{column_from, row_from, lun_of}
use Rattle.target.specs.Commands.{takes_column, takes_row, cycles_of, then_of, in_page, clears_register, first_of, second_row}
use Rattle.target.specs.Views.{completed, taking, ending}
use Rattle.target.specs.Place.{is_open, is_bare, put_out, first_here}
use Rattle.target.specs.Events.{is_bus, is_reset, bad_record}
use Rattle.target.specs.declared.Column.{Column}
use Rattle.target.specs.declared.Row.{Row}
use Rattle.target.specs.declared.Geometry.{Geometry}
use Rattle.target.specs.declared.Event.{Event}
use Rattle.target.specs.declared.Decoder.{Decoder}
use Rattle.target.specs.declared.Target.{Target}
use Rattle.target.specs.declared.Findings.{Findings}
use Rattle.target.specs.declared.First.{First}
use Rattle.target.specs.declared.Sequence.{Sequence}
use Rattle.target.specs.declared.Sequence.TheVariants.{Idle, Columns, Rows, Single, Due, Filling, Moving, Setting}
use Rattle.target.specs.declared.Output.{Output}
use Rattle.target.specs.declared.Output.TheVariants as output
use Rattle.target.specs.declared.Work.{Work}
use Rattle.target.specs.declared.Work.TheVariants as work
use Rattle.target.specs.declared.commands.Then.{Then}
use Rattle.target.specs.declared.commands.Then.TheVariants as then
use Rattle.target.specs.declared.commands.Act.{Act}
use Rattle.target.specs.declared.commands.Act.TheVariants as act
use Rattle.target.specs.declared.views.Given.{Given}
use Rattle.target.specs.declared.views.Given.TheVariants as given
use Rattle.target.specs.declared.views.Taker.{Taker}
use Rattle.target.specs.declared.views.Taker.TheVariants as taker
use Rattle.target.specs.declared.views.Ended.{Ended}
use Rattle.memory.specs.Memory.{kept_after}
use Rattle.lun_records.specs.LunsAfter.{luns_after}

-- The sequence.

-- a first command waits for its address cycles: the column's come first
abbrev pub started : First → Sequence
started f =
    pick (takes_column f) (Columns (record { first = f; got = 0; low = 0 }))
    (pick (takes_row f) (Rows (record { first = f; column = record { 0 = 0 }; got = 0; low = 0; mid = 0 }))
    (pick (eqb (cycles_of f) 1) (Single f)
    Idle))

-- the sequence that a first command opens
abbrev pub opened : Option First → Sequence
opened None = Idle
opened (Some f) = started f

abbrev pub is_move : Act → Bool
is_move act.Nothing = false
is_move act.Load = false
is_move act.Program = false
is_move act.Erase = false
is_move act.Move = true

-- a second command ends the sequence; 85h waits for two column cycles inside the program
abbrev pub ended_sequence : Option Ended → Sequence
ended_sequence None = Idle
ended_sequence (Some k) =
    pick (is_move (second_row k.second).act) (Moving (record { first = k.first; row = k.row; got = 0; low = 0 })) Idle

-- the sequence after a command
abbrev pub commanded : Decoder → ℕ → Sequence
commanded d v = pick (is_open d.sequence) (ended_sequence (ending d.sequence v)) (opened (first_here d v))

-- after its last address cycle a command waits for its second command, for data or for four bytes, or it has ended
abbrev pub followed : Then → First → Column → Row → Sequence
followed then.Second f c r = Due (record { first = f; column = c; row = r })
followed then.Data f c r = Filling (record { first = f; row = r; at = c })
followed then.FeatureIn f c r = Setting (record { got = 0; value = 0 })
followed then.Status f c r = Idle
followed then.Id f c r = Idle
followed then.ParameterPage f c r = Idle
followed then.FeatureOut f c r = Idle

-- after the column: the row's cycles, if it has a row
abbrev pub column_given : First → Column → Sequence
column_given f c =
    pick (takes_row f) (Rows (record { first = f; column = c; got = 0; low = 0; mid = 0 })) (followed (then_of f) f c (record { 0 = 0 }))

-- the sequence after an address cycle
abbrev pub addressed : Sequence → ℕ → Sequence
addressed Idle v = Idle
addressed (Columns k) v =
    pick (eqb k.got 0) (Columns (record { first = k.first; got = 1; low = v })) (column_given k.first (column_from k.low v))
addressed (Rows k) v =
    pick (eqb k.got 0) (Rows (record { first = k.first; column = k.column; got = 1; low = v; mid = k.mid }))
    (pick (eqb k.got 1) (Rows (record { first = k.first; column = k.column; got = 2; low = k.low; mid = v }))
    (followed (then_of k.first) k.first k.column (row_from k.low k.mid v)))
addressed (Single f) v = followed (then_of f) f (record { 0 = 0 }) (record { 0 = 0 })
addressed (Due k) v = Due k
addressed (Filling k) v = Filling k
addressed (Moving k) v =
    pick (eqb k.got 0) (Moving (record { first = k.first; row = k.row; got = 1; low = v }))
    (Filling (record { first = k.first; row = k.row; at = column_from k.low v }))
addressed (Setting k) v = Setting k

-- the sequence after a data-in byte: a program goes one place up; EFh's fourth byte ends it
abbrev pub filled : Sequence → Option Taker → ℕ → Sequence
filled s None v = s
filled s (Some (taker.Program k)) v = Filling (record { first = k.first; row = k.row; at = record { 0 = k.at.0 + 1 } })
filled s (Some (taker.Feature k)) v =
    pick (eqb k.got 0) (Setting (record { got = 1; value = v }))
    (pick (eqb k.got 1) (Setting (record { got = 2; value = k.value }))
    (pick (eqb k.got 2) (Setting (record { got = 3; value = k.value }))
    Idle))

-- data out closes a bare 00h
unfoldable pub sequence_after : Decoder → Event → Sequence
sequence_after d e =
    pick (is_reset e) Idle
    (pick (eqb e.kind 0) (commanded d e.value)
    (pick (eqb e.kind 1) (addressed d.sequence e.value)
    (pick (eqb e.kind 2) (filled d.sequence (taking d.sequence) e.value)
    (pick (eqb e.kind 3 && is_bare d.sequence) Idle
    d.sequence))))

-- The output.

-- 30h, 35h and E0h put out a register from the column on: of the row's LUN, and for 05h, which has no row, of the selected one
abbrev pub ended_lun : Geometry → ℕ → Ended → ℕ
ended_lun g selected k = pick (takes_row k.first) (lun_of g k.row) selected

-- and where 05h moves within the parameter page, the page from the column on
abbrev pub ended_place : Geometry → ℕ → Ended → Output
ended_place g selected k =
    pick (in_page k.first) (output.Parameters k.column.0) (output.Register (ended_lun g selected k) k.column)

abbrev pub ended_output : Geometry → ℕ → Option Ended → Output
ended_output g selected None = output.Nothing
ended_output g selected (Some k) = pick (second_row k.second).shows (ended_place g selected k) output.Nothing

-- what comes out after a command's last address cycle: a LUN's status; 90h with 00h the IDs, with 20h 4F 4E 46 49; ECh the page;
-- EEh four bytes
abbrev pub shown : Then → ℕ → ℕ → Output → Output
shown then.Second l v o = o
shown then.Data l v o = o
shown then.FeatureIn l v o = o
shown then.Status l v o = output.Status l
shown then.Id l v o = pick (eqb v 0x00) (output.Ids 0) (output.Signature 0)
shown then.ParameterPage l v o = output.Parameters 0
shown then.FeatureOut l v o = output.Feature 0

-- a first command ends output; 70h has no address cycles, and gives the selected LUN's status at once
abbrev pub first_output : ℕ → Option First → Output
first_output selected None = output.Nothing
first_output selected (Some f) = pick (eqb (cycles_of f) 0) (shown (then_of f) selected 0 output.Nothing) output.Nothing

-- the output after a command
abbrev pub command_output : Geometry → ℕ → Sequence → ℕ → Output
command_output g selected s v = pick (is_open s) (ended_output g selected (ending s v)) (first_output selected (first_of v))

-- the output after an address cycle
abbrev pub addressed_output : Geometry → Option Given → Output → Output
addressed_output g None o = o
addressed_output g (Some (given.Column k)) o = o
addressed_output g (Some (given.Row k)) o = shown (then_of k.first) (lun_of g k.row) 0 o
addressed_output g (Some (given.Single k)) o = shown (then_of k.first) 0 k.value o

-- the output after a data-out byte: one place further; a status is given as often as asked
abbrev pub advanced : Output → Output
advanced output.Nothing = output.Nothing
advanced (output.Register l c) = output.Register l (record { 0 = c.0 + 1 })
advanced (output.Parameters at) = output.Parameters (at + 1)
advanced (output.Status l) = output.Status l
advanced (output.Ids at) = output.Ids (at + 1)
advanced (output.Signature at) = output.Signature (at + 1)
advanced (output.Feature at) = output.Feature (at + 1)

unfoldable pub output_after : Geometry → ℕ → Decoder → Event → Output
output_after g selected d e =
    pick (is_reset e) output.Nothing
    (pick (eqb e.kind 0) (command_output g selected d.sequence e.value)
    (pick (eqb e.kind 1) (addressed_output g (completed d.sequence e.value) d.output)
    (pick (eqb e.kind 3) (advanced (put_out d))
    d.output)))

-- The rest of the record.

-- selected is the LUN of the last accepted row
abbrev pub row_selects : Geometry → ℕ → Option Given → ℕ
row_selects g selected None = selected
row_selects g selected (Some (given.Column k)) = selected
row_selects g selected (Some (given.Row k)) = lun_of g k.row
row_selects g selected (Some (given.Single k)) = selected

-- LUN 0 after FFh
unfoldable pub selected_after : Geometry → ℕ → Sequence → Event → ℕ
selected_after g selected s e =
    pick (is_reset e) 0 (pick (eqb e.kind 1) (row_selects g selected (completed s e.value)) selected)

-- EFh takes hold at its fourth byte
abbrev pub clear_set : Bool → Option Taker → Bool
clear_set clear None = clear
clear_set clear (Some (taker.Program k)) = clear
clear_set clear (Some (taker.Feature k)) = pick (eqb k.got 3) (eqb k.value 0x40) clear

-- FFh: program-clear off
unfoldable pub clear_after : Bool → Sequence → Event → Bool
clear_after clear s e = pick (is_reset e) false (pick (eqb e.kind 2) (clear_set clear (taking s)) clear)

-- the protect line: 0 low, 1 high
unfoldable pub high_after : Bool → Event → Bool
high_after high e = pick (eqb e.kind 5) (eqb e.value 1) high

-- the record after an accepted event
unfoldable pub target_after : Target → Event → Findings → Target
target_after t e found = record {
  powered = t.powered;
  geometry = t.geometry;
  words = t.words;
  ids = t.ids;
  high = high_after t.high e;
  clear = clear_after t.clear t.decoder.sequence e;
  seen = t.seen || is_reset e;
  selected = selected_after t.geometry t.selected t.decoder.sequence e;
  luns = luns_after t.geometry t.luns t.decoder.sequence e found;
  decoder = record {
    sequence = sequence_after t.decoder e;
    output = output_after t.geometry t.selected t.decoder e;
    kept = kept_after t.geometry t.decoder e;
  };
}

-- no sequence open, no output, and none kept
abbrev pub dropped : Decoder
dropped = record { sequence = Idle; output = output.Nothing; kept = output.Nothing }

-- the record after a refusal: a bus cycle (12 apart) drops sequence, output and memory, a bench event or a bad record nothing
unfoldable pub target_refused : Target → Event → Target
target_refused t e = record {
  powered = t.powered;
  geometry = t.geometry;
  words = t.words;
  ids = t.ids;
  high = t.high;
  clear = t.clear;
  seen = t.seen;
  selected = t.selected;
  luns = t.luns;
  decoder = pick (is_bus e && not (bad_record e)) dropped t.decoder;
}

-- The work.

-- 30h and 35h load the page; 10h programs it and D0h erases the block, unless they do not proceed
abbrev pub acted : Act → Row → Findings → Work
acted act.Nothing r found = work.Nothing
acted act.Load r found = work.Load r
acted act.Program r found = pick found.proceeds (work.Program r) work.Nothing
acted act.Erase r found = pick found.proceeds (work.Erase r) work.Nothing
acted act.Move r found = work.Nothing

abbrev pub ended_work : Option Ended → Findings → Work
ended_work None found = work.Nothing
ended_work (Some k) found = acted (second_row k.second).act k.row found

-- with program-clear off 80h fills every register when it is accepted
abbrev pub first_work : Bool → Option First → Work
first_work clear None = work.Nothing
first_work clear (Some f) = pick (clears_register f && not clear) work.ClearAll work.Nothing

abbrev pub command_work : Bool → Sequence → ℕ → Findings → Work
command_work clear s v found = pick (is_open s) (ended_work (ending s v) found) (first_work clear (first_of v))

-- with it on only the addressed LUN's, when 80h's last row cycle is accepted
abbrev pub address_work : Geometry → Bool → Option Given → Work
address_work g clear None = work.Nothing
address_work g clear (Some (given.Column k)) = work.Nothing
address_work g clear (Some (given.Row k)) = pick (clears_register k.first && clear) (work.ClearOne (lun_of g k.row)) work.Nothing
address_work g clear (Some (given.Single k)) = work.Nothing

-- data goes in from the column upward
abbrev pub data_work : Geometry → Option Taker → ℕ → Work
data_work g None v = work.Nothing
data_work g (Some (taker.Program k)) v = work.Put (lun_of g k.row) k.at v
data_work g (Some (taker.Feature k)) v = work.Nothing

-- what an accepted event asks of the buffers; FFh fills the registers
unfoldable pub work_of : Geometry → Bool → Sequence → Event → Findings → Work
work_of g clear s e found =
    pick (is_reset e) work.ClearAll
    (pick (eqb e.kind 0) (command_work clear s e.value found)
    (pick (eqb e.kind 1) (address_work g clear (completed s e.value))
    (pick (eqb e.kind 2) (data_work g (taking s) e.value)
    work.Nothing)))

-- For the code: the place of a program's next byte, and of the next byte put out.
abbrev pub place_in : Option Taker → ℕ
place_in None = 0
place_in (Some (taker.Program k)) = k.at.0
place_in (Some (taker.Feature k)) = 0

abbrev pub place_out : Output → ℕ
place_out output.Nothing = 0
place_out (output.Register l c) = c.0
place_out (output.Parameters at) = at
place_out (output.Status l) = 0
place_out (output.Ids at) = at
place_out (output.Signature at) = at
place_out (output.Feature at) = at
