-- The pages of a part one after the other, as the array, the counts and the flags have them.
use Rattle.std.specs.Prelude.{ℕ, ◌+◌, ◌%◌, Bool, ◌&&◌, eqb, ltb}
use Rattle.target.specs.Pick.{pick}
use Rattle.target.specs.Sizes.{page_size}
use Rattle.target.specs.declared.Geometry.{Geometry}
use Rattle.nib_text.specs.Reading.{up}
use Rattle.nib_look.specs.declared.walk.Place.{Place}

abbrev pub first_place : Place
first_place = record { lun = 0; block = 0; page = 0; count = 0; flag = 0; start = 0 }

-- farther by a page's bytes, in an array that is no longer than 10^12 bytes
abbrev pub farther : ℕ → ℕ → ℕ
farther start n = pick (ltb start 1000000000000) (start + n % 1000000) start

-- the next page of the block, else the first page of the next block, else that of the next LUN
abbrev pub next_place : Geometry → Place → Place
next_place g p = record {
  lun = pick (ltb (up p.page) g.pages) p.lun (pick (ltb (up p.block) g.blocks) p.lun (up p.lun));
  block = pick (ltb (up p.page) g.pages) p.block (pick (ltb (up p.block) g.blocks) (up p.block) 0);
  page = pick (ltb (up p.page) g.pages) (up p.page) 0;
  count = up p.count;
  flag = pick (ltb (up p.page) g.pages) p.flag (up p.flag);
  start = farther p.start (page_size g);
}

abbrev pub is_at : Place → ℕ → ℕ → ℕ → Bool
is_at p lun block page = eqb p.lun lun && eqb p.block block && eqb p.page page

-- one step more towards a page, and none from there on
abbrev pub sought : Geometry → Place → ℕ → ℕ → ℕ → Place
sought g p lun block page = pick (is_at p lun block page) p (next_place g p)

abbrev pub same_sizes : Geometry → Geometry → Bool
same_sizes g h =
    eqb g.bytes h.bytes && eqb g.spare h.spare && eqb g.pages h.pages && eqb g.blocks h.blocks
    && eqb g.luns h.luns && eqb g.programs h.programs
