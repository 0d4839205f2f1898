-- The places that a job's words name, on a part.
use Rattle.std.specs.Prelude.{ℕ, ◌+◌, ◌*◌, ◌^◌, ◌<◌, ◌≡◌, Bool, true, ◌&&◌, ltb, leb, if◌then◌else◌, Option, Some, None}
use Rattle.target.specs.Address.{field_width, page_of, block_of, lun_of}
use Rattle.target.specs.Sizes.{page_size}
use Rattle.target.specs.declared.Geometry.{Geometry}
use Rattle.jobs.specs.declared.Job.TheVariants as job
use Rattle.jobs.specs.declared.Job.{Job}
use Rattle.jobs.specs.declared.reading.First.{First}
use Rattle.jobs.specs.declared.reading.First.TheVariants as first
use Rattle.nib_text.specs.declared.job_words.Asks.{Asks}
use Rattle.nib_text.specs.declared.job_words.Asks.TheVariants as asks
use Rattle.nib_text.specs.declared.reading.Wrong.{Wrong}
use Rattle.nib_text.specs.declared.reading.Wrong.TheVariants as wrong
use Rattle.nib_text.specs.declared.reading.Said.{Said}
use Rattle.nib_text.specs.declared.reading.Said.TheVariants as said
use Rattle.nib_places.specs.declared.Values.{Values}

-- every row of the part has at most 24 bits
abbrev pub rows_fit : Geometry → Bool
rows_fit g = leb (field_width g.pages + field_width g.blocks + field_width g.luns) 24

abbrev pub is_there : Geometry → ℕ → ℕ → ℕ → Bool
is_there g lun block page = rows_fit g && ltb lun g.luns && ltb block g.blocks && ltb page g.pages

-- page bits, block bits, the rest LUN; of a page that is not there, the least number that is above 24 bits
unfoldable pub row_of : Geometry → ℕ → ℕ → ℕ → ℕ
row_of g lun block page =
    if is_there g lun block page then (lun * 2 ^ field_width g.blocks + block) * 2 ^ field_width g.pages + page else 16777216

-- the row's fields are the place's numbers, and it is no wider than its cycles (proved in proofs/Rows.antt)
pub record RowBack (g : Geometry) (lun block page : ℕ) : Type 0 where
  pub narrow : row_of g lun block page < 16777216
  pub its-lun : lun_of g (record { 0 = row_of g lun block page }) ≡ lun
  pub its-block : block_of g (record { 0 = row_of g lun block page }) ≡ block
  pub its-page : page_of g (record { 0 = row_of g lun block page }) ≡ page

unfoldable pub RowsBack : Type 0
RowsBack = (g : Geometry) (lun block page : ℕ) → is_there g lun block page ≡ true → RowBack g lun block page

-- a value that the part has, or the word is wrong
abbrev pub ranged : Bool → Option Asks → ℕ → Wrong → Said
ranged there a n why = if there then said.Value a n else said.Wrong why

abbrev pub value_on : Geometry → Option Asks → ℕ → Said
value_on g None n = said.Value None n
value_on g (Some asks.Lun) n = ranged (ltb n g.luns) (Some asks.Lun) n wrong.NoLun
value_on g (Some asks.Block) n = ranged (ltb n g.blocks) (Some asks.Block) n wrong.NoBlock
value_on g (Some asks.Page) n = ranged (ltb n g.pages) (Some asks.Page) n wrong.NoPage
value_on g (Some asks.Column) n = ranged (ltb n (page_size g)) (Some asks.Column) n wrong.NoColumn
value_on g (Some asks.Count) n = said.Value (Some asks.Count) n
value_on g (Some asks.Byte) n = said.Value (Some asks.Byte) n

-- what a text says, on a part
abbrev pub on_part : Geometry → Said → Said
on_part g said.Nothing = said.Nothing
on_part g (said.Record k v) = said.Record k v
on_part g (said.Byte b) = said.Byte b
on_part g (said.Outs n) = said.Outs n
on_part g (said.Value a n) = value_on g a n
on_part g (said.Wrong w) = said.Wrong w
on_part g said.Accepted = said.Accepted
on_part g (said.Expected b) = said.Expected b
on_part g (said.Refused n) = said.Refused n

abbrev pub no_values : Values
no_values = record { lun = 0; block = 0; page = 0; column = 0; count = 0 }

-- a job's values as they come; a LUN is the first of them
abbrev pub stored : Values → Option Asks → ℕ → Values
stored v None n = v
stored v (Some asks.Lun) n = record { lun = n; block = 0; page = 0; column = 0; count = 0 }
stored v (Some asks.Block) n = record { lun = v.lun; block = n; page = v.page; column = v.column; count = v.count }
stored v (Some asks.Page) n = record { lun = v.lun; block = v.block; page = n; column = v.column; count = v.count }
stored v (Some asks.Column) n = record { lun = v.lun; block = v.block; page = v.page; column = n; count = v.count }
stored v (Some asks.Count) n = record { lun = v.lun; block = v.block; page = v.page; column = v.column; count = n }
stored v (Some asks.Byte) n = v

-- and the job that they are; what it does not ask for is 0
abbrev pub job_of : Geometry → Option First → Values → Option Job
job_of g None v = None
job_of g (Some first.Read) v = Some (job.Read v.column (row_of g v.lun v.block v.page))
job_of g (Some first.ReadOut) v = Some (job.ReadOut v.column (row_of g v.lun v.block v.page) v.count)
job_of g (Some first.Program) v = Some (job.Program v.column (row_of g v.lun v.block v.page))
job_of g (Some first.Erase) v = Some (job.Erase (row_of g v.lun v.block v.page))
job_of g (Some first.Status) v = Some (job.Status (row_of g v.lun v.block v.page) v.count)
