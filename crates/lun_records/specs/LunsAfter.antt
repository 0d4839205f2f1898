-- The LUN records after an event (document 01, "Work", "Reset"; document 02, A1, A7).
use Rattle.std.specs.Prelude.{ℕ, ◌+◌, ◌-◌, Bool, ◌&&◌, ◌||◌, not, List, set, eqb, ltb, None, Option, Some}
use Rattle.target.specs.Pick.{pick}
use Rattle.target.specs.Address.{lun_of}
use Rattle.target.specs.Commands.{closes_copyback, needs_copyback, second_row}
use Rattle.target.specs.Views.{completed, ending}
use Rattle.target.specs.Luns.{lun_begun, lun_finished, lun_closed, lun_at, blank_at, all_readied}
use Rattle.target.specs.Events.{is_reset}
use Rattle.target.specs.declared.Row.{Row}
use Rattle.target.specs.declared.Lun.{Lun}
use Rattle.target.specs.declared.Geometry.{Geometry}
use Rattle.target.specs.declared.Event.{Event}
use Rattle.target.specs.declared.Findings.{Findings}
use Rattle.target.specs.declared.Sequence.{Sequence}
use Rattle.target.specs.declared.commands.Act.{Act}
use Rattle.target.specs.declared.commands.Act.TheVariants as act
use Rattle.target.specs.declared.views.Given.{Given}
use Rattle.target.specs.declared.views.Given.TheVariants as given
use Rattle.target.specs.declared.views.Ended.{Ended}

-- the LUN that the row names works from now on
abbrev pub begun : Geometry → List Lun → Row → Bool → Bool → Bool → ℕ → List Lun
begun g luns r fail opens closes blank = set luns (lun_of g r) (lun_begun (lun_at luns (lun_of g r)) fail opens closes blank)

-- one blank block more, and no more than the LUN has blocks
abbrev pub one_more : Geometry → ℕ → ℕ
one_more g n = pick (ltb n g.blocks) (n + 1) n

-- the number of blank blocks: a program that proceeds takes its block away if it was blank, an erase adds it if it was not. Where a
-- lent record is untrue the number stops at 0 and at the LUN's blocks
abbrev pub blank_after : Geometry → Act → Findings → ℕ → ℕ
blank_after g act.Nothing found n = n
blank_after g act.Load found n = n
blank_after g act.Program found n = pick (found.proceeds && found.blank) (n - 1) n
blank_after g act.Erase found n = pick (found.proceeds && not found.blank) (one_more g n) n
blank_after g act.Move found n = n

-- 30h and D0h close the LUN's copyback, and so does the 10h of a copyback program
abbrev pub end_closes : Ended → Bool
end_closes k = (second_row k.second).closes || needs_copyback k.first

-- a LUN works from 30h, 35h, 10h or D0h on; FAIL is 1 where a program or an erase does not proceed, and 0 for a read
abbrev pub ended_luns : Geometry → List Lun → Option Ended → Findings → List Lun
ended_luns g luns None found = luns
ended_luns g luns (Some k) found =
    pick (second_row k.second).starts
    (begun g luns k.row (not found.proceeds) (second_row k.second).opens (end_closes k)
    (blank_after g (second_row k.second).act found (blank_at luns (lun_of g k.row))))
    luns

-- to its finish event
abbrev pub finished : List Lun → ℕ → List Lun
finished luns l = set luns l (lun_finished (lun_at luns l))

-- 80h's row closes the copyback of the LUN that it names
abbrev pub addressed_luns : Geometry → List Lun → Option Given → List Lun
addressed_luns g luns None = luns
addressed_luns g luns (Some (given.Column k)) = luns
addressed_luns g luns (Some (given.Row k)) =
    pick (closes_copyback k.first) (set luns (lun_of g k.row) (lun_closed (lun_at luns (lun_of g k.row)))) luns
addressed_luns g luns (Some (given.Single k)) = luns

-- FFh: every LUN ready, FAIL 0, no copyback; the numbers of blank blocks stay
unfoldable pub luns_after : Geometry → List Lun → Sequence → Event → Findings → List Lun
luns_after g luns s e found =
    pick (is_reset e) (all_readied luns)
    (pick (eqb e.kind 0) (ended_luns g luns (ending s e.value) found)
    (pick (eqb e.kind 1) (addressed_luns g luns (completed s e.value))
    (pick (eqb e.kind 4) (finished luns e.value)
    luns)))
