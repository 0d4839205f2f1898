-- A row of LUN, block and page: its fields are these again, and it has no more bits than its cycles.
--     rows_back       the law that is stated in specs/Places.antt
--     narrow_widths   no field has more than 24 bits; what the code shifts by
--     small           and no sum on the way is larger
-- Assumes nothing.
use mathlib.Core.Path.{◌≡◌, ap, ◌∙◌}
use mathlib.Core.Bool.{true}
use Prim.Native.Nat.{ℕ, ◌+◌, ◌*◌, ◌/◌, ◌%◌, ◌^◌, ◌≤◌, ◌<◌}
use native.Mathlib.Nat.{lt_of_lt_of_le}
use native.Mathlib.Omega.{arith}
use lib.Arith.{digits_lt}
use lib.Pow.{pow-add, pow_mono, high, low}
use lib.Dec.{ltb, leb}
use borrow.Author.Tests.{ltb-true, leb-true}
use Rattle.target.proofs.Both.{both4}
use Rattle.target.proofs.Widths.{width-holds}
use Rattle.target.specs.Address.{field_width, page_of, block_of, lun_of}
use Rattle.target.specs.declared.Geometry.{Geometry}
use Rattle.nib_places.specs.Places.{is_there, row_of, RowsBack}

-- a number below a field's is held by its bits
held : (n k : ℕ) → k < n → k < 2 ^ field_width n
held n k h = omega (arith, width-holds n)

record There (g : Geometry) (lun block page : ℕ) : Type 0 where
  bits : field_width g.pages + field_width g.blocks + field_width g.luns ≤ 24
  its-lun : lun < 2 ^ field_width g.luns
  its-block : block < 2 ^ field_width g.blocks
  its-page : page < 2 ^ field_width g.pages

there : (g : Geometry) (lun block page : ℕ) → is_there g lun block page ≡ true → There g lun block page
there g lun block page h =
    let bits = field_width g.pages + field_width g.blocks + field_width g.luns in
    let tests = both4 (leb bits 24) (ltb lun g.luns) (ltb block g.blocks) (ltb page g.pages) h in
    record {
      bits = leb-true bits 24 tests.0;
      its-lun = held g.luns lun (ltb-true lun g.luns tests.1);
      its-block = held g.blocks block (ltb-true block g.blocks tests.2);
      its-page = held g.pages page (ltb-true page g.pages tests.3);
    }

two : (i j a b : ℕ) → a < 2 ^ i → b < 2 ^ j → a * 2 ^ j + b < 2 ^ (i + j)
two i j a b p q = rw (pow-add 2 i j) (digits_lt p q)

within : (a i : ℕ) → a < 2 ^ i → i ≤ 24 → a < 16777216
within a i p q = lt_of_lt_of_le p (pow_mono q)

-- no sum on the way to a row is above 24 bits
pub record Small (lun block page blocks pages : ℕ) : Type 0 where
  pub upper : lun * blocks + block < 16777216
  pub whole : (lun * blocks + block) * pages + page < 16777216

pub small : (g : Geometry) (lun block page : ℕ) → is_there g lun block page ≡ true → Small lun block page (2 ^ field_width g.blocks) (2 ^ field_width g.pages)
small g lun block page h =
    let t = there g lun block page h in
    let wl = field_width g.luns in
    let wb = field_width g.blocks in
    let wp = field_width g.pages in
    let upper : lun * 2 ^ wb + block < 2 ^ (wl + wb) = two wl wb lun block t.its-lun t.its-block in
    let whole : (lun * 2 ^ wb + block) * 2 ^ wp + page < 2 ^ (wl + wb + wp) = two (wl + wb) wp (lun * 2 ^ wb + block) page upper t.its-page in
    let bits : field_width g.pages + field_width g.blocks + field_width g.luns ≤ 24 = t.bits in
    record { upper = within _ (wl + wb) upper (omega arith); whole = within _ (wl + wb + wp) whole (omega arith) }

pub record Narrow (g : Geometry) : Type 0 where
  pub pages : field_width g.pages ≤ 24
  pub blocks : field_width g.blocks ≤ 24

pub narrow_widths : (g : Geometry) (lun block page : ℕ) → is_there g lun block page ≡ true → Narrow g
narrow_widths g lun block page h =
    let bits : field_width g.pages + field_width g.blocks + field_width g.luns ≤ 24 = (there g lun block page h).bits in
    record { pages = omega arith; blocks = omega arith }

row-there : (g : Geometry) (lun block page : ℕ) → is_there g lun block page ≡ true
    → row_of g lun block page ≡ (lun * 2 ^ field_width g.blocks + block) * 2 ^ field_width g.pages + page
unfolding row_of
row-there g lun block page h = rw (h)

pub rows_back : RowsBack
unfolding RowsBack page_of block_of lun_of
rows_back g lun block page h =
    let t = there g lun block page h in
    let wb = field_width g.blocks in
    let wp = field_width g.pages in
    let row = row-there g lun block page h in
    let up : row_of g lun block page / 2 ^ wp ≡ lun * 2 ^ wb + block = ap (λ (r : ℕ). r / 2 ^ wp) row ∙ high (lun * 2 ^ wb + block) wp t.its-page in
    record {
      narrow = rw (row) (small g lun block page h).whole;
      its-lun = ap (λ (r : ℕ). r / 2 ^ wb) up ∙ high lun wb t.its-block;
      its-block = ap (λ (r : ℕ). r % 2 ^ wb) up ∙ low lun wb t.its-block;
      its-page = ap (λ (r : ℕ). r % 2 ^ wp) row ∙ low (lun * 2 ^ wb + block) wp t.its-page;
    }
