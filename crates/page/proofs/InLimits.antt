-- What a page within the house limits says in numbers: `limits`.
-- Assumes nothing.
use mathlib.Core.Path.{◌≡◌, refl}
use mathlib.Core.Bool.{Bool, true, false, ◌&&◌, ◌||◌, true≢false, false≢true, and-eq-true_iff}
use mathlib.Core.List.{List}
use Prim.Native.Nat.{ℕ, ◌≤◌, ◌<◌}
use borrow.Author.Tests.{leb-true, lt-leb, eqb-true, not-true}
use lib.Dec.{leb}
use Rattle.page.specs.Page.{bit_of, features, data_bytes, spare_bytes, pages_a_block, blocks_a_lun, lun_count, address_cycles, programs_a_page, data_in_limits, spare_in_limits, pages_in_limits, blocks_in_limits, luns_in_limits, luns_as_featured, narrow_bus, cycles_as_house, programs_in_limits, fields_in_limits}

-- the limits of a page's fields
pub record Fields (page : List ℕ) : Type 0 where
  pub data-min : 16 ≤ data_bytes page
  pub data-max : data_bytes page ≤ 16384
  pub spare-max : spare_bytes page ≤ 2048
  pub pages-min : 1 ≤ pages_a_block page
  pub pages-max : pages_a_block page ≤ 256
  pub blocks-min : 1 ≤ blocks_a_lun page
  pub blocks-max : blocks_a_lun page ≤ 4096
  pub luns-min : 1 ≤ lun_count page
  pub luns-max : lun_count page ≤ 4
  pub luns-many : 1 < lun_count page → bit_of (features page) 1 ≡ true
  pub bus : bit_of (features page) 0 ≡ false
  pub cycles : address_cycles page ≡ 0x23
  pub programs-min : 1 ≤ programs_a_page page
  pub programs-max : programs_a_page page ≤ 8

-- nine tests that all hold
record Nine (a b c d e f g h i : Bool) : Type 0 where
  1st : a ≡ true
  2nd : b ≡ true
  3rd : c ≡ true
  4th : d ≡ true
  5th : e ≡ true
  6th : f ≡ true
  7th : g ≡ true
  8th : h ≡ true
  9th : i ≡ true

nine : (a b c d e f g h i : Bool) → (a && b && c && d && e && f && g && h && i) ≡ true → Nine a b c d e f g h i
nine false b c d e f g h i t = absurd (false≢true t)
nine true false c d e f g h i t = absurd (false≢true t)
nine true true false d e f g h i t = absurd (false≢true t)
nine true true true false e f g h i t = absurd (false≢true t)
nine true true true true false f g h i t = absurd (false≢true t)
nine true true true true true false g h i t = absurd (false≢true t)
nine true true true true true true false h i t = absurd (false≢true t)
nine true true true true true true true false i t = absurd (false≢true t)
nine true true true true true true true true i t = record {
  1st = refl;
  2nd = refl;
  3rd = refl;
  4th = refl;
  5th = refl;
  6th = refl;
  7th = refl;
  8th = refl;
  9th = t;
}

between : (low n high : ℕ) → (leb low n && leb n high) ≡ true → (low ≤ n) × (n ≤ high)
between low n high t =
    let p = (and-eq-true_iff (leb low n) (leb n high)).0 t in
    (leb-true low n p.0, leb-true n high p.1)

-- where the first of two tests does not hold, the second does
other : (a b : Bool) → (a || b) ≡ true → a ≡ false → b ≡ true
other true b t n = absurd (true≢false n)
other false b t n = t

data-ok : (page : List ℕ) → data_in_limits page ≡ true → (16 ≤ data_bytes page) × (data_bytes page ≤ 16384)
unfolding data_in_limits
data-ok page t = between 16 (data_bytes page) 16384 t

spare-ok : (page : List ℕ) → spare_in_limits page ≡ true → spare_bytes page ≤ 2048
unfolding spare_in_limits
spare-ok page t = leb-true (spare_bytes page) 2048 t

pages-ok : (page : List ℕ) → pages_in_limits page ≡ true → (1 ≤ pages_a_block page) × (pages_a_block page ≤ 256)
unfolding pages_in_limits
pages-ok page t = between 1 (pages_a_block page) 256 t

blocks-ok : (page : List ℕ) → blocks_in_limits page ≡ true → (1 ≤ blocks_a_lun page) × (blocks_a_lun page ≤ 4096)
unfolding blocks_in_limits
blocks-ok page t = between 1 (blocks_a_lun page) 4096 t

luns-ok : (page : List ℕ) → luns_in_limits page ≡ true → (1 ≤ lun_count page) × (lun_count page ≤ 4)
unfolding luns_in_limits
luns-ok page t = between 1 (lun_count page) 4 t

many-ok : (page : List ℕ) → luns_as_featured page ≡ true → 1 < lun_count page → bit_of (features page) 1 ≡ true
unfolding luns_as_featured
many-ok page t many = other (leb (lun_count page) 1) (bit_of (features page) 1) t (lt-leb (lun_count page) 1 many)

bus-ok : (page : List ℕ) → narrow_bus page ≡ true → bit_of (features page) 0 ≡ false
unfolding narrow_bus
bus-ok page t = not-true (bit_of (features page) 0) t

cycles-ok : (page : List ℕ) → cycles_as_house page ≡ true → address_cycles page ≡ 0x23
unfolding cycles_as_house
cycles-ok page t = eqb-true (address_cycles page) 0x23 t

programs-ok : (page : List ℕ) → programs_in_limits page ≡ true → (1 ≤ programs_a_page page) × (programs_a_page page ≤ 8)
unfolding programs_in_limits
programs-ok page t = between 1 (programs_a_page page) 8 t

all-nine : (page : List ℕ) → fields_in_limits page ≡ true → Nine (data_in_limits page) (spare_in_limits page) (pages_in_limits page) (blocks_in_limits page) (luns_in_limits page) (luns_as_featured page) (narrow_bus page) (cycles_as_house page) (programs_in_limits page)
unfolding fields_in_limits
all-nine page t = nine _ _ _ _ _ _ _ _ _ t

pub limits : (page : List ℕ) → fields_in_limits page ≡ true → Fields page
limits page t =
    let n = all-nine page t in
    record {
      data-min = (data-ok page n.1st).0;
      data-max = (data-ok page n.1st).1;
      spare-max = spare-ok page n.2nd;
      pages-min = (pages-ok page n.3rd).0;
      pages-max = (pages-ok page n.3rd).1;
      blocks-min = (blocks-ok page n.4th).0;
      blocks-max = (blocks-ok page n.4th).1;
      luns-min = (luns-ok page n.5th).0;
      luns-max = (luns-ok page n.5th).1;
      luns-many = many-ok page n.6th;
      bus = bus-ok page n.7th;
      cycles = cycles-ok page n.8th;
      programs-min = (programs-ok page n.9th).0;
      programs-max = (programs-ok page n.9th).1;
    }
