-- Views of the open sequence: what an address cycle completes, what takes data, which second command ends it (document 01, "Place"
-- and "Addresses"). The rules and the effects are stated over these.
use Rattle.std.specs.Prelude.{ℕ, Bool, false, ◌&&◌, ◌||◌, not, eqb, None, Option, Some}
use Rattle.target.specs.Pick.{pick}
use Rattle.target.specs.Address.{column_from, row_from}
use Rattle.target.specs.Commands.{end_of, other_end, needs_ready, takes_row, in_page, second_of}
use Rattle.target.specs.declared.Column.{Column}
use Rattle.target.specs.declared.Row.{Row}
use Rattle.target.specs.declared.First.{First}
use Rattle.target.specs.declared.Sequence.{Sequence}
use Rattle.target.specs.declared.Sequence.TheVariants.{Idle, Columns, Rows, Single, Due, Filling, Moving, Setting}
use Rattle.target.specs.declared.views.Given.{Given}
use Rattle.target.specs.declared.views.Given.TheVariants as completes
use Rattle.target.specs.declared.views.Taker.{Taker}
use Rattle.target.specs.declared.views.Taker.TheVariants as takes
use Rattle.target.specs.declared.views.Ended.{Ended}
use Rattle.target.specs.declared.Second.{Second}

-- 05h has no row: 5 is asked of the selected LUN, with its second column cycle; within the parameter page it is not asked
abbrev pub asks_selected : First → Bool
asks_selected f = needs_ready f && not (takes_row f)

-- a column is whole with its second cycle, a row with its third, a feature or identification address with its one cycle
abbrev pub completed : Sequence → ℕ → Option Given
completed Idle v = None
completed (Columns k) v =
    pick (eqb k.got 1) (Some (completes.Column (record { column = column_from k.low v; asks = asks_selected k.first; page = in_page k.first })))
    None
completed (Rows k) v =
    pick (eqb k.got 2) (Some (completes.Row (record { first = k.first; row = row_from k.low k.mid v }))) None
completed (Single f) v = Some (completes.Single (record { first = f; value = v }))
completed (Due k) v = None
completed (Filling k) v = None
completed (Moving k) v =
    pick (eqb k.got 1) (Some (completes.Column (record { column = column_from k.low v; asks = false; page = false }))) None
completed (Setting k) v = None

-- data goes into a program, or is EFh's four bytes
abbrev pub taking : Sequence → Option Taker
taking Idle = None
taking (Columns k) = None
taking (Rows k) = None
taking (Single f) = None
taking (Due k) = None
taking (Filling k) = Some (takes.Program k)
taking (Moving k) = None
taking (Setting k) = Some (takes.Feature k)

abbrev pub ended_with : Option Second → First → Column → Row → Option Ended
ended_with None f c r = None
ended_with (Some s) f c r = Some (record { first = f; second = s; column = c; row = r })

abbrev pub ended_by : ℕ → First → Column → Row → Option Ended
ended_by v f c r = ended_with (second_of v) f c r

-- the second command of a first one, or the other that may stand for it
abbrev pub ends_with : First → ℕ → Bool
ends_with f v = eqb v (end_of f) || eqb v (other_end f)

-- the second command where its cycles have come, and 10h or 85h inside a program
abbrev pub ending : Sequence → ℕ → Option Ended
ending Idle v = None
ending (Columns k) v = None
ending (Rows k) v = None
ending (Single f) v = None
ending (Due k) v = pick (ends_with k.first v) (ended_by v k.first k.column k.row) None
ending (Filling k) v = pick (eqb v 0x10 || eqb v 0x85) (ended_by v k.first k.at k.row) None
ending (Moving k) v = None
ending (Setting k) v = None
