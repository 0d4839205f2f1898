-- Lines in words (document 02, A5), as `program LUN 1 block 5 page 3, column 0, 3 bytes`.
use Rattle.std.specs.Prelude.{ℕ, ◌/◌, ◌%◌, Bool, true, false, not, List, [], ◌∷◌, ◌++◌, eqb, leb, if◌then◌else◌, Option, Some, None}
use Rattle.target.specs.declared.Geometry.{Geometry}
use Rattle.jobs.specs.declared.Job.{Job}
use Rattle.jobs.specs.declared.reading.First.{First}
use Rattle.jobs.specs.declared.reading.First.TheVariants as first
use Rattle.nib_text.specs.Reading.{up}
use Rattle.nib_words.specs.Desk.{ascii, when, hexed, byte_words, decimal}
use Rattle.nib_words.specs.Say.{event_words}
use Rattle.nib_told.specs.Phrases.{phrase_of}
use Rattle.nib_told.specs.declared.lines.Line.{Line}
use Rattle.nib_told.specs.declared.lines.Told.{Told}
use Rattle.nib_told.specs.declared.lines.Told.TheVariants as told
use Rattle.nib_told.specs.declared.phrases.Place.{Place}
use Rattle.nib_told.specs.declared.phrases.Place.TheVariants as place
use Rattle.nib_told.specs.declared.phrases.Phrase.{Phrase}

abbrev pub name_words : First → List ℕ
name_words first.Read = ascii "read"
name_words first.ReadOut = ascii "read-out"
name_words first.Program = ascii "program"
name_words first.Erase = ascii "erase"
name_words first.Status = ascii "status"

-- a row as its three bytes
unfoldable pub row_bytes : ℕ → List ℕ
row_bytes r = hexed (r / 65536 % 256) false ++ (hexed (r / 256 % 256) false ++ byte_words (r % 256))

unfoldable pub row_words : ℕ → List ℕ
row_words r = ascii " row " ++ row_bytes r

unfoldable pub block_words : ℕ → ℕ → List ℕ
block_words lun block = (ascii " LUN " ++ decimal lun) ++ (ascii " block " ++ decimal block)

unfoldable pub page_words : ℕ → ℕ → ℕ → List ℕ
page_words lun block page = block_words lun block ++ (ascii " page " ++ decimal page)

abbrev pub place_words : Place → List ℕ
place_words (place.Row r) = row_words r
place_words (place.Page l b p) = page_words l b p
place_words (place.Block l b) = block_words l b
place_words (place.Lun l) = ascii " LUN " ++ decimal l

abbrev pub column_words : Option ℕ → List ℕ
column_words None = []
column_words (Some n) = ascii ", column " ++ decimal n

-- ', 3 bytes'
unfoldable pub count_words : ℕ → List ℕ
count_words n = (ascii ", " ++ decimal n) ++ (ascii " byte" ++ when (not (eqb n 1)) (115 ∷ []))

abbrev pub bytes_words : Option ℕ → List ℕ
bytes_words None = []
bytes_words (Some n) = count_words n

unfoldable pub phrase_words : Phrase → List ℕ
phrase_words p =
    name_words p.name
    ++ (place_words p.place
    ++ (column_words p.column
    ++ (bytes_words p.bytes
    ++ when (not p.there) (ascii "; the part has no such place"))))

-- a record that begins a job which is not whole, and where the misfit is; records count from 1 in words
unfoldable pub begun_words : ℕ → ℕ → Bool → ℕ → List ℕ
begun_words kind value ends misfit =
    ascii "no whole job: "
    ++ (event_words false kind value false
    ++ (when ends (ascii "; the trace ends inside it")
    ++ (when (not ends) (ascii "; record " ++ decimal (up misfit))
    ++ when (not ends) (ascii " doesn't fit it"))))

-- data cycles in a row
abbrev pub data_name : ℕ → List ℕ
data_name kind = if eqb kind 2 then ascii "data in" else ascii "data out"

unfoldable pub data_words : ℕ → ℕ → List ℕ
data_words kind times = data_name kind ++ count_words times

abbrev pub times_words : ℕ → ℕ → ℕ → Bool → List ℕ
times_words kind value times inside = if leb times 1 then event_words false kind value inside else data_words kind times

-- a finish event is no bus cycle, and stands between jobs or inside them
unfoldable pub alone_words : ℕ → ℕ → ℕ → Bool → List ℕ
alone_words kind value times inside = when (not (eqb kind 4)) (ascii "no job: ") ++ times_words kind value times inside

unfoldable pub odd_words : ℕ → List ℕ
odd_words b = ascii "no job: " ++ event_words true b 0 false

abbrev pub whole_words : Option Geometry → Job → ℕ → List ℕ
whole_words part j n = phrase_words (phrase_of part j n)

-- a line; `next` is where the next one begins
abbrev pub told_words : Option Geometry → Told → ℕ → List ℕ
told_words part (told.Whole j n) next = whole_words part j n
told_words part (told.Begun k v ends) next = begun_words k v ends next
told_words part (told.Event k v n inside) next = alone_words k v n inside
told_words part (told.Odd b) next = odd_words b

-- and nothing where there is none
abbrev pub line_words : Option Geometry → Option Line → List ℕ
line_words part (Some line) = told_words part line.told line.next
line_words part None = []
