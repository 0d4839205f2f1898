-- What is told of a job (document 02, A5).
use Rattle.std.specs.Prelude.{ℕ, Bool, true, ◌&&◌, ltb, Option, Some, None}
use Rattle.target.specs.Address.{page_of, block_of, lun_of, lun_exists, block_exists, row_exists}
use Rattle.target.specs.Sizes.{page_size}
use Rattle.target.specs.declared.Geometry.{Geometry}
use Rattle.target.specs.declared.Row.{Row}
use Rattle.jobs.specs.declared.Job.{Job}
use Rattle.jobs.specs.declared.Job.TheVariants as job
use Rattle.jobs.specs.declared.reading.First.{First}
use Rattle.jobs.specs.declared.reading.First.TheVariants as first
use Rattle.nib_told.specs.declared.phrases.Place.{Place}
use Rattle.nib_told.specs.declared.phrases.Place.TheVariants as place
use Rattle.nib_told.specs.declared.phrases.Phrase.{Phrase}

abbrev pub row_of : ℕ → Row
row_of r = record { 0 = r }

-- 00h and 80h look at page, block and LUN; 60h not at the page bits; 78h and 06h at the LUN alone. With no part it is the row
abbrev pub page_at : Option Geometry → ℕ → Place
page_at (Some g) r = place.Page (lun_of g (row_of r)) (block_of g (row_of r)) (page_of g (row_of r))
page_at None r = place.Row r

abbrev pub block_at : Option Geometry → ℕ → Place
block_at (Some g) r = place.Block (lun_of g (row_of r)) (block_of g (row_of r))
block_at None r = place.Row r

abbrev pub lun_at : Option Geometry → ℕ → Place
lun_at (Some g) r = place.Lun (lun_of g (row_of r))
lun_at None r = place.Row r

-- the part has the place, or no part is known
abbrev pub page_there : Option Geometry → ℕ → ℕ → Bool
page_there (Some g) c r = row_exists g (row_of r) && ltb c (page_size g)
page_there None c r = true

abbrev pub block_there : Option Geometry → ℕ → Bool
block_there (Some g) r = block_exists g (row_of r)
block_there None r = true

abbrev pub lun_there : Option Geometry → ℕ → Bool
lun_there (Some g) r = lun_exists g (row_of r)
lun_there None r = true

abbrev pub lun_column_there : Option Geometry → ℕ → ℕ → Bool
lun_column_there (Some g) c r = lun_exists g (row_of r) && ltb c (page_size g)
lun_column_there None c r = true

-- a read or a program
abbrev pub on_page : Option Geometry → First → ℕ → ℕ → Option ℕ → Phrase
on_page part name c r bytes = record {
  name = name;
  place = page_at part r;
  column = Some c;
  bytes = bytes;
  there = page_there part c r;
}

-- `count` is that of a program's bytes
abbrev pub phrase_of : Option Geometry → Job → ℕ → Phrase
phrase_of part (job.Read c r) count = on_page part first.Read c r None
phrase_of part (job.ReadOut c r n) count = record {
  name = first.ReadOut;
  place = lun_at part r;
  column = Some c;
  bytes = Some n;
  there = lun_column_there part c r;
}
phrase_of part (job.Program c r) count = on_page part first.Program c r (Some count)
phrase_of part (job.Erase r) count = record {
  name = first.Erase;
  place = block_at part r;
  column = None;
  bytes = None;
  there = block_there part r;
}
phrase_of part (job.Status r n) count = record {
  name = first.Status;
  place = lun_at part r;
  column = None;
  bytes = Some n;
  there = lun_there part r;
}
