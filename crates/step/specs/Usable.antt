-- Rule 13 (document 01): the target is powered, each number of the record, taken by itself, is one that a run with that
-- geometry gives it, and the lent buffers have the geometry's lengths.
use Rattle.std.specs.Prelude.{ℕ, Bool, true, ◌&&◌, ◌||◌, not, List, eqb, ltb, leb}
use Rattle.target.specs.Pick.{pick}
use Rattle.target.specs.Words.{has_feature}
use Rattle.target.specs.Address.{row_exists}
use Rattle.target.specs.Commands.{takes_column, takes_row, cycles_of, waits_second, takes_program_data, in_page}
use Rattle.target.specs.Luns.{is_unused, lun_at, blank_at}
use Rattle.target.specs.Place.{shows_status}
use Rattle.target.specs.Sizes.{page_size, column_end, in_limits, sized}
use Rattle.target.specs.declared.Column.{Column}
use Rattle.target.specs.declared.Row.{Row}
use Rattle.target.specs.declared.Geometry.{Geometry}
use Rattle.target.specs.declared.Words.{Words}
use Rattle.target.specs.declared.Lun.{Lun}
use Rattle.target.specs.declared.Target.{Target}
use Rattle.target.specs.declared.First.{First}
use Rattle.target.specs.declared.Sequence.{Sequence}
use Rattle.target.specs.declared.Sequence.TheVariants.{Idle, Columns, Rows, Single, Due, Filling, Moving, Setting}
use Rattle.target.specs.declared.Output.{Output}
use Rattle.target.specs.declared.Output.TheVariants as output
use Rattle.rules.specs.Rules.{row_fits}

-- a column that has come is below P, and one of the parameter page below 768; where none comes it is 0
abbrev pub column_held : Geometry → First → Column → Bool
column_held g f c = pick (takes_column f) (ltb c.0 (column_end g (in_page f))) (eqb c.0 0)

-- a row that has come exists, as its command looks at it; where none comes it is 0
abbrev pub row_held : Geometry → First → Row → Bool
row_held g f r = pick (takes_row f) (row_fits g f r) (eqb r.0 0)

-- cycle counts below the command's, whole columns below P (a program's place up to P), rows that exist, a program opened by 80h or
-- 85h, a first feature byte of 0 or 40h; half-given bytes may be any
abbrev pub sequence_sound : Geometry → Sequence → Bool
sequence_sound g Idle = true
sequence_sound g (Columns k) = takes_column k.first && ltb k.got 2
sequence_sound g (Rows k) = takes_row k.first && ltb k.got 3 && column_held g k.first k.column
sequence_sound g (Single f) = eqb (cycles_of f) 1
sequence_sound g (Due k) = waits_second k.first && column_held g k.first k.column && row_held g k.first k.row
sequence_sound g (Filling k) = takes_program_data k.first && leb k.at.0 (page_size g) && row_exists g k.row
sequence_sound g (Moving k) = takes_program_data k.first && ltb k.got 2 && row_exists g k.row
sequence_sound g (Setting k) = ltb k.got 4 && (eqb k.value 0 || eqb k.value 0x40)

-- the next byte's place is at most the end; the LUN exists
abbrev pub output_sound : Geometry → Output → Bool
output_sound g output.Nothing = true
output_sound g (output.Register l c) = ltb l g.luns && leb c.0 (page_size g)
output_sound g (output.Parameters at) = leb at 768
output_sound g (output.Status l) = ltb l g.luns
output_sound g (output.Ids at) = leb at 2
output_sound g (output.Signature at) = leb at 4
output_sound g (output.Feature at) = leb at 4

-- what is kept behind a status is any output but a status
abbrev pub kept_sound : Geometry → Output → Bool
kept_sound g o = output_sound g o && not (shows_status o)

-- of the LUN's blocks none to all are blank, and the copyback mark may be either way; a LUN past the count is as power-on left it
abbrev pub mark_sound : Geometry → List Lun → ℕ → Bool
mark_sound g luns l = pick (ltb l g.luns) (leb (blank_at luns l) g.blocks) (is_unused (lun_at luns l))

abbrev pub marks_sound : Geometry → List Lun → Bool
marks_sound g luns = mark_sound g luns 0 && mark_sound g luns 1 && mark_sound g luns 2 && mark_sound g luns 3

-- feature bit 0 (16-bit bus) is clear; with more than one LUN bit 1 is set; the optional word may be any
abbrev pub words_sound : Geometry → Words → Bool
words_sound g w = not (has_feature w 0) && (leb g.luns 1 || has_feature w 1)

unfoldable pub record_sound : Target → Bool
record_sound t =
    t.powered
    && in_limits t.geometry
    && words_sound t.geometry t.words
    && ltb t.selected t.geometry.luns
    && marks_sound t.geometry t.luns
    && sequence_sound t.geometry t.decoder.sequence
    && output_sound t.geometry t.decoder.output
    && kept_sound t.geometry t.decoder.kept

-- rule 13 does not hold: the record is sound, the parameter bytes are 256, the other buffers have the geometry's lengths
unfoldable pub usable : Target → ℕ → ℕ → ℕ → ℕ → ℕ → Bool
usable t params array registers counts flags =
    record_sound t && (eqb params 256 && sized t.geometry array registers counts flags)
