-- The unread rest of the present output, as a part of a lent buffer (document 01, "The steps": "A data-out byte comes ..").
use Rattle.std.specs.Prelude.{Option, Some, None, Bool, ◌&&◌, ◌||◌, List, [], ℕ, ◌+◌, ◌-◌, ◌*◌, ◌%◌, length, eqb, leb}
use Rattle.slices.specs.Cells.{part}
use Rattle.target.specs.Pick.{pick}
use Rattle.target.specs.Luns.{works}
use Rattle.target.specs.Place.{is_bare}
use Rattle.target.specs.Sizes.{page_size}
use Rattle.target.specs.declared.Geometry.{Geometry}
use Rattle.target.specs.declared.Lun.{Lun}
use Rattle.target.specs.declared.Decoder.{Decoder}
use Rattle.target.specs.declared.Target.{Target}
use Rattle.target.specs.declared.Output.{Output}
use Rattle.target.specs.declared.Output.TheVariants as output
use Rattle.step.specs.Usable.{record_sound}
use Rattle.unread.specs.declared.Source.{Source}
use Rattle.unread.specs.declared.Source.TheVariants as source
use Rattle.unread.specs.declared.Unread.{Unread}

-- rule 13 does not hold, of the record and the two buffers that are lent here
abbrev pub readable : Target → ℕ → ℕ → Bool
readable t params registers = record_sound t && (eqb params 256 && eqb registers (t.geometry.luns * page_size t.geometry))

-- the rest of the register from the next byte on; of the present copy of the parameter page: after a copy's last byte the next
-- copy is the present one, after the third there is no part; none for the other outputs, with none, and while the LUN works
abbrev pub unread_in : Geometry → List Lun → Output → Option Unread
unread_in g luns output.Nothing = None
unread_in g luns (output.Register l c) =
    pick (works luns l || leb (page_size g) c.0) None
    (Some (record { source = source.Registers; at = l * page_size g + c.0; count = page_size g - c.0 }))
unread_in g luns (output.Parameters at) =
    pick (leb 768 at) None (Some (record { source = source.Parameters; at = at % 256; count = 256 - at % 256 }))
unread_in g luns (output.Status l) = None
unread_in g luns (output.Ids at) = None
unread_in g luns (output.Signature at) = None
unread_in g luns (output.Feature at) = None

-- after a bare 00h the present output is none until the data out that goes on from the one that was kept, since an address may come
abbrev pub present : Decoder → Output
present d = pick (is_bare d.sequence) output.Nothing d.output

-- where 13 holds there is no part
abbrev pub unread_of : Target → ℕ → ℕ → Option Unread
unread_of t params registers = pick (readable t params registers) (unread_in t.geometry t.luns (present t.decoder)) None

-- the buffer that a part is of
abbrev pub lent_as : Source → List ℕ → List ℕ → List ℕ
lent_as source.Registers params registers = registers
lent_as source.Parameters params registers = params

-- the bytes of that part, none where there is none
abbrev pub bytes_in : Option Unread → List ℕ → List ℕ → List ℕ
bytes_in None params registers = []
bytes_in (Some u) params registers = part (lent_as u.source params registers) u.at u.count

abbrev pub rest_of : Target → List ℕ → List ℕ → List ℕ
rest_of t params registers = bytes_in (unread_of t (length params) (length registers)) params registers
