-- The memory of the output that was open before a status, after an event (document 02, A2).
use Rattle.std.specs.Prelude.{ℕ, ◌&&◌, not, eqb, None, Option, Some}
use Rattle.target.specs.Pick.{pick}
use Rattle.target.specs.Address.{lun_of}
use Rattle.target.specs.Commands.{byte_of, gives_status, first_of}
use Rattle.target.specs.Views.{completed}
use Rattle.target.specs.Place.{is_open, is_bare, shows_status, is_register_of}
use Rattle.target.specs.Events.{is_reset}
use Rattle.target.specs.declared.Geometry.{Geometry}
use Rattle.target.specs.declared.Event.{Event}
use Rattle.target.specs.declared.Decoder.{Decoder}
use Rattle.target.specs.declared.Output.{Output}
use Rattle.target.specs.declared.Output.TheVariants as output
use Rattle.target.specs.declared.views.Given.{Given}
use Rattle.target.specs.declared.views.Given.TheVariants as given
use Rattle.target.specs.declared.First.{First}

-- what a status keeps: the output that was open before; a second status hands on what the first kept
abbrev pub remembered : Decoder → Output
remembered d = pick (shows_status d.output) d.kept d.output

-- 70h and 78h keep it; 00h goes on from it, if a status came before; any other first command loses it
abbrev pub first_kept : Decoder → Option First → Output
first_kept d None = output.Nothing
first_kept d (Some f) =
    pick (gives_status f) (remembered d) (pick (eqb (byte_of f) 0x00 && shows_status d.output) d.kept output.Nothing)

abbrev pub command_kept : Decoder → ℕ → Output
command_kept d v = pick (is_open d.sequence) d.kept (first_kept d (first_of v))

-- of what 78h holds its row keeps only a page register of the LUN that it names
abbrev pub row_kept : Geometry → Option Given → Output → Output
row_kept g None o = o
row_kept g (Some (given.Column k)) o = o
row_kept g (Some (given.Row k)) o =
    pick (gives_status k.first && not (is_register_of (lun_of g k.row) o)) output.Nothing o
row_kept g (Some (given.Single k)) o = o

-- an address after 00h makes it a plain read
abbrev pub addressed_kept : Geometry → Decoder → ℕ → Output
addressed_kept g d v = pick (is_bare d.sequence) output.Nothing (row_kept g (completed d.sequence v) d.kept)

-- data out after a bare 00h makes the memory plain output again
unfoldable pub kept_after : Geometry → Decoder → Event → Output
kept_after g d e =
    pick (is_reset e) output.Nothing
    (pick (eqb e.kind 0) (command_kept d e.value)
    (pick (eqb e.kind 1) (addressed_kept g d e.value)
    (pick (eqb e.kind 3 && is_bare d.sequence) output.Nothing
    d.kept)))
