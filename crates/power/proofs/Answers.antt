-- The first rule that holds, read from the top; the limits of a page's geometry; what an accepted power-on has passed.
-- Assumes nothing.
use mathlib.Core.Path.{◌≡◌, refl, sym, ◌∙◌}
use mathlib.Core.Bool.{Bool, true, false, ◌&&◌, ◌||◌, not, true≢false}
use mathlib.Core.List.{List}
use Prim.Native.Nat.{ℕ, ◌≤◌}
use native.Mathlib.Omega.{arith}
use Rattle.std.specs.Prelude.{Result, Ok, Err}
use lib.Dec.{leb}
use lib.ListN.{length}
use borrow.Author.Tests.{le-leb, leb-false, not-false}
use Rattle.page.specs.Page as page
use Rattle.page.specs.Page.{fields_in_limits, features, data_bytes, spare_bytes, pages_a_block, blocks_a_lun, lun_count, programs_a_page}
use Rattle.page.proofs.InLimits.{limits}
use Rattle.target.specs.Sizes.{within, in_limits}
use Rattle.target.specs.Words as target
use Rattle.target.specs.Words.{has_feature}
use Rattle.power.specs.Power.{geometry_of, words_of, wrong_length, unsigned, crc_bad, field_bad, buffer_bad, content_bad, or_refused, power_answer, Powering, power_of}
use Rattle.power.specs.declared.PowerRefusal.{PowerRefusal}

pub here : (b : Bool) (r : PowerRefusal) (a : Result Unit PowerRefusal) → b ≡ true → Err r ≡ or_refused b r a
unfolding or_refused
here b r a h = rw h

pub later : {x : Result Unit PowerRefusal} (b : Bool) (r : PowerRefusal) (a : Result Unit PowerRefusal) → b ≡ false → x ≡ a → x ≡ or_refused b r a
unfolding or_refused
later b r a h e = rw (h) e

inside : (low x high : ℕ) → low ≤ x → x ≤ high → within low x high ≡ true
inside low x high l h = rw (le-leb low x l, le-leb x high h)

all6 : (a b c d e f : Bool) → a ≡ true → b ≡ true → c ≡ true → d ≡ true → e ≡ true → f ≡ true → (a && b && c && d && e && f) ≡ true
all6 a b c d e f p q r s t u = rw (p, q, r, s, t, u)

-- a page within the limits gives a geometry within them
pub limited : (page : List ℕ) → fields_in_limits page ≡ true → in_limits (geometry_of page) ≡ true
unfolding in_limits geometry_of
limited page h =
    let f = limits page h in
    all6 (within 16 (data_bytes page) 16384) (leb (spare_bytes page) 2048) (within 1 (pages_a_block page) 256) (within 1 (blocks_a_lun page) 4096) (within 1 (lun_count page) 4) (within 1 (programs_a_page page) 8)
    (inside 16 _ 16384 f.data-min f.data-max)
    (le-leb _ 2048 f.spare-max)
    (inside 1 _ 256 f.pages-min f.pages-max)
    (inside 1 _ 4096 f.blocks-min f.blocks-max)
    (inside 1 _ 4 f.luns-min f.luns-max)
    (inside 1 _ 8 f.programs-min f.programs-max)

-- the record's words are read as the page's are
pub same_bit : (n k : ℕ) → target.bit_of n k ≡ page.bit_of n k
unfolding target.bit_of page.bit_of
same_bit n k = refl

wide-or-narrow : (wide single many : Bool) → wide ≡ false → (single ≡ false → many ≡ true) → (not wide && (single || many)) ≡ true
wide-or-narrow true single many h k = absurd (true≢false h)
wide-or-narrow false true many h k = refl
wide-or-narrow false false many h k = k refl

-- a page within the limits has an 8-bit bus, and more than one LUN only where its feature word says so
pub worded : (page : List ℕ) → fields_in_limits page ≡ true → (not (has_feature (words_of page) 0) && (leb (geometry_of page).luns 1 || has_feature (words_of page) 1)) ≡ true
unfolding geometry_of words_of
worded page h =
    let f = limits page h in
    wide-or-narrow _ (leb (lun_count page) 1) _ (same_bit (features page) 0 ∙ f.bus)
    (λ many. same_bit (features page) 1 ∙ f.luns-many (leb-false (lun_count page) 1 many))

-- an accepted power-on passed each rule
pub record Passed (page : List ℕ) (array registers : ℕ) (counts flags : List ℕ) : Type 0 where
  pub right-length : wrong_length page ≡ false
  pub signature : unsigned page ≡ false
  pub crc : crc_bad page ≡ false
  pub fields : field_bad page ≡ false
  pub buffers : buffer_bad page array registers (length counts) (length flags) ≡ false
  pub content : content_bad page counts flags ≡ false

passed : (b : Bool) (r : PowerRefusal) (a : Result Unit PowerRefusal) → or_refused b r a ≡ Ok tt → (b ≡ false) × (a ≡ Ok tt)
unfolding or_refused
passed true r a h = let z : ◌≡◌ {A = ℕ} 0 1 = cc in absurd (omega arith)
passed false r a h = (refl, h)

pub all-passed : (page : List ℕ) (array registers : ℕ) (counts flags : List ℕ) → power_answer page array registers counts flags ≡ Ok tt → Passed page array registers counts flags
unfolding power_answer
all-passed page array registers counts flags h =
    let a = passed _ _ _ h in
    let b = passed _ _ _ a.1 in
    let c = passed _ _ _ b.1 in
    let d = passed _ _ _ c.1 in
    let e = passed _ _ _ d.1 in
    let f = passed _ _ _ e.1 in
    record { right-length = a.0; signature = b.0; crc = c.0; fields = d.0; buffers = e.0; content = f.0 }

-- so its fields are within the limits
pub accepted-limited : (page : List ℕ) (array registers : ℕ) (counts flags : List ℕ) → power_answer page array registers counts flags ≡ Ok tt → fields_in_limits page ≡ true
unfolding field_bad
accepted-limited page array registers counts flags h = not-false _ (all-passed page array registers counts flags h).fields

-- The statement of power-on has one answer: two results that meet it are equal, registers included.
pub power-unique : (page : List ℕ) (device : ℕ) (array registers counts flags : List ℕ) (x y : Powering) → x ≡ power_of page device array registers counts flags → y ≡ power_of page device array registers counts flags → x ≡ y
power-unique page device array registers counts flags x y p q = p ∙ sym q
