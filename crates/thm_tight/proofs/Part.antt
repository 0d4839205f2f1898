-- Of each geometry within the limits there is a part: its parameter page and its buffers are ones that power-on accepts.
-- Assumes nothing.
use Rattle.std.specs.Prelude.{Ok}
use mathlib.Core.Path.{◌≡◌, refl, sym, ap, ◌∙◌}
use mathlib.Core.Bool.{Bool, true, ◌&&◌, ◌||◌, not}
use mathlib.Core.List.{List, [], ◌∷◌, ◌++◌}
use Prim.Native.Nat.{ℕ, zero, suc, ◌+◌, ◌*◌, ◌-◌, ◌/◌, ◌%◌, ◌≤◌, ◌<◌}
use native.Mathlib.Omega.{arith}
use lib.ListN.{length, get_or, replicate, length-append, length-replicate, get_or-append, get_or-replicate}
use lib.Seq.{get_or-append-add}
use lib.Dec.{leb}
use borrow.Author.Tests.{le-leb, eq-eqb}
use Rattle.slices.specs.Cells.{all_at_most}
use Rattle.page.specs.Crc.{crc_of}
use Rattle.page.specs.Page as page
use Rattle.page.specs.Page.{field, signed, features, optional_commands, maker_id, data_bytes, spare_bytes, pages_a_block, blocks_a_lun, lun_count, address_cycles, programs_a_page, stored_crc, crc_good, data_in_limits, spare_in_limits, pages_in_limits, blocks_in_limits, luns_in_limits, luns_as_featured, narrow_bus, cycles_as_house, programs_in_limits, fields_in_limits}
use Rattle.target.specs.Words as words
use Rattle.target.specs.Words.{has_feature}
use Rattle.target.specs.Sizes.{page_size, in_limits, sized}
use Rattle.target.specs.declared.Geometry.{Geometry}
use Rattle.target.specs.declared.Words.{Words}
use Rattle.target.proofs.Limits.{Limits, limits}
use Rattle.power.specs.Power.{geometry_of, words_of, wrong_length, unsigned, crc_bad, field_bad, buffer_bad, content_bad, power_answer}
use Rattle.power.proofs.Answers.{later}
use Rattle.step.specs.Usable.{words_sound}
use Rattle.target.proofs.Both.{both}
use Rattle.thm_kept.proofs.Choice.{and-true}
use Rattle.thm_tight.proofs.Crc.{crc-small}

-- what a part is made of; the first `bad` blocks, counted over all LUNs, are factory bad
pub record Part : Type 0 where
  pub geometry : Geometry
  pub words : Words
  pub maker : ℕ
  pub device : ℕ
  pub bad : ℕ

pub record Fine (k : Part) : Type 0 where
  pub limited : in_limits k.geometry ≡ true
  pub worded : words_sound k.geometry k.words ≡ true
  pub features-word : k.words.features ≤ 65535
  pub optional-word : k.words.optional ≤ 65535
  pub maker-byte : k.maker ≤ 255
  pub device-byte : k.device ≤ 255
  pub bad-there : k.bad ≤ k.geometry.luns * k.geometry.blocks

-- bytes 80 on
abbrev sizes_then : Geometry → List ℕ → List ℕ
sizes_then g rest =
    g.bytes % 256 ∷ g.bytes / 256 ∷ 0 ∷ 0 ∷ g.spare % 256 ∷ g.spare / 256
    ∷ (replicate 6 0 ++ (g.pages % 256 ∷ g.pages / 256 ∷ 0 ∷ 0 ∷ g.blocks % 256 ∷ g.blocks / 256 ∷ 0 ∷ 0 ∷ g.luns ∷ 0x23
    ∷ (replicate 8 0 ++ (g.programs ∷ (replicate 143 0 ++ rest)))))

-- the 254 bytes, and what follows them
abbrev bytes_then : Part → List ℕ → List ℕ
bytes_then k rest =
    0x4f ∷ 0x4e ∷ 0x46 ∷ 0x49 ∷ 0 ∷ 0
    ∷ k.words.features % 256 ∷ k.words.features / 256 ∷ k.words.optional % 256 ∷ k.words.optional / 256
    ∷ (replicate 54 0 ++ (k.maker ∷ (replicate 15 0 ++ sizes_then k.geometry rest)))

crc_in : Part → ℕ
crc_in k = crc_of (bytes_then k [])

-- what is lent at power-on: the page, FFh all over, counts of 0, the flags
pub page_of : Part → List ℕ
page_of k = bytes_then k (crc_in k % 256 ∷ crc_in k / 256 ∷ [])

abbrev blocks_in : Part → ℕ
blocks_in k = k.geometry.luns * k.geometry.blocks

pub array_of : Part → List ℕ
array_of k = replicate (blocks_in k * k.geometry.pages * page_size k.geometry) 0xff

pub registers_of : Part → List ℕ
registers_of k = replicate (k.geometry.luns * page_size k.geometry) 0xff

unfoldable pub counts_of : Part → List ℕ
counts_of k = replicate (blocks_in k * k.geometry.pages) 0

pub flags_of : Part → List ℕ
flags_of k = replicate k.bad 1 ++ replicate (blocks_in k - k.bad) 0

-- The fields.

two_bytes : (n : ℕ) → n % 256 + 256 * (n / 256 + 256 * 0) ≡ n
two_bytes n = omega arith

four_bytes : (n : ℕ) → n % 256 + 256 * (n / 256 + 256 * (0 + 256 * (0 + 256 * 0))) ≡ n
four_bytes n = omega arith

one_byte : (n : ℕ) → n + 256 * 0 ≡ n
one_byte n = omega arith

module _ (k : Part) where
  data_is : data_bytes (page_of k) ≡ k.geometry.bytes
  unfolding data_bytes field page_of
  data_is = four_bytes k.geometry.bytes

  spare-is : spare_bytes (page_of k) ≡ k.geometry.spare
  unfolding spare_bytes field page_of
  spare-is = two_bytes k.geometry.spare

  pages-is : pages_a_block (page_of k) ≡ k.geometry.pages
  unfolding pages_a_block field page_of
  pages-is = four_bytes k.geometry.pages

  blocks_is : blocks_a_lun (page_of k) ≡ k.geometry.blocks
  unfolding blocks_a_lun field page_of
  blocks_is = four_bytes k.geometry.blocks

  luns-is : lun_count (page_of k) ≡ k.geometry.luns
  unfolding lun_count field page_of
  luns-is = one_byte k.geometry.luns

  programs-is : programs_a_page (page_of k) ≡ k.geometry.programs
  unfolding programs_a_page field page_of
  programs-is = one_byte k.geometry.programs

  pub maker-is : maker_id (page_of k) ≡ k.maker
  unfolding maker_id field page_of
  maker-is = one_byte k.maker

  pub geometry-is : geometry_of (page_of k) ≡ k.geometry
  unfolding geometry_of
  geometry-is =
      λ i. record { bytes = data_is i; spare = spare-is i; pages = pages-is i; blocks = blocks_is i; luns = luns-is i; programs = programs-is i }

-- a bit of a page's word is that bit of the record's
same_bit : (n k : ℕ) → page.bit_of n k ≡ words.bit_of n k
unfolding page.bit_of words.bit_of
same_bit n k = refl

module _ (k : Part) where
  features-is : features (page_of k) ≡ k.words.features
  unfolding features field page_of
  features-is = two_bytes k.words.features

  optional-is : optional_commands (page_of k) ≡ k.words.optional
  unfolding optional_commands field page_of
  optional-is = two_bytes k.words.optional

  pub words-is : words_of (page_of k) ≡ k.words
  unfolding words_of
  words-is = λ i. record { features = features-is i; optional = optional-is i }

  bit_is : (n : ℕ) → page.bit_of (features (page_of k)) n ≡ has_feature k.words n
  bit_is n = same_bit (features (page_of k)) n ∙ ap (λ (x : ℕ). words.bit_of x n) features-is

  length-is : length (page_of k) ≡ 256
  unfolding page_of
  length-is = refl

  signed_is : signed (page_of k) ≡ true
  unfolding signed page_of
  signed_is = refl

  crc-is : crc_good (page_of k) ≡ true
  unfolding crc_good stored_crc field page_of crc_in
  crc-is = eq-eqb (crc_of (bytes_then k [])) _ (sym (two_bytes (crc_of (bytes_then k []))))

  cycles-is : address_cycles (page_of k) ≡ 0x23
  unfolding address_cycles field page_of
  cycles-is = refl

all9 : (a b c d e f g h i : Bool) → a ≡ true → b ≡ true → c ≡ true → d ≡ true → e ≡ true → f ≡ true → g ≡ true → h ≡ true → i ≡ true → (a && b && c && d && e && f && g && h && i) ≡ true
all9 a b c d e f g h i p q r s t u v w x = rw (p, q, r, s, t, u, v, w, x)

inside : (low x high : ℕ) → low ≤ x → x ≤ high → (leb low x && leb x high) ≡ true
inside low x high l h = rw (le-leb low x l, le-leb x high h)

all_most : (most n v : ℕ) → v ≤ most → all_at_most most (replicate n v) ≡ true
unfolding all_at_most
all_most most zero v h = refl
all_most most (suc n) v h = rw (le-leb v most h) (all_most most n v h)

both_most : (most : ℕ) (xs ys : List ℕ) → all_at_most most xs ≡ true → all_at_most most ys ≡ true → all_at_most most (xs ++ ys) ≡ true
unfolding all_at_most
both_most most [] ys h k = k
both_most most (x ∷ xs) ys h k =
    let p = both (leb x most) (all_at_most most xs) h in
    and-true (leb x most) (all_at_most most (xs ++ ys)) p.0 (both_most most xs ys p.1 k)

get_or-zeros : (n i : ℕ) → ◌≡◌ {A = ℕ} (get_or (replicate n 0) i 0) 0
get_or-zeros zero i = refl
get_or-zeros (suc n) zero = refl
get_or-zeros (suc n) (suc i) = get_or-zeros n i

module _ (k : Part) (f : Fine k) where
  fields-fine : fields_in_limits (page_of k) ≡ true
  unfolding fields_in_limits data_in_limits spare_in_limits pages_in_limits blocks_in_limits luns_in_limits luns_as_featured narrow_bus cycles_as_house programs_in_limits
  fields-fine =
      let p = page_of k in
      let g = k.geometry in
      let m = limits g f.limited in
      let bus = both (not (has_feature k.words 0)) (leb g.luns 1 || has_feature k.words 1) f.worded in
      all9 (data_in_limits p) (spare_in_limits p) (pages_in_limits p) (blocks_in_limits p) (luns_in_limits p) (luns_as_featured p) (narrow_bus p) (cycles_as_house p) (programs_in_limits p)
      (rw (data_is k) (inside 16 g.bytes 16384 m.bytes-min m.bytes-max))
      (rw (spare-is k) (le-leb g.spare 2048 m.spare-max))
      (rw (pages-is k) (inside 1 g.pages 256 m.pages-min m.pages-max))
      (rw (blocks_is k) (inside 1 g.blocks 4096 m.blocks-min m.blocks-max))
      (rw (luns-is k) (inside 1 g.luns 4 m.luns-min m.luns-max))
      (rw (luns-is k, bit_is k 1) bus.1)
      (rw (bit_is k 0) bus.0)
      (rw (cycles-is k))
      (rw (programs-is k) (inside 1 g.programs 8 m.programs-min m.programs-max))

all4 : (a b c d : Bool) → a ≡ true → b ≡ true → c ≡ true → d ≡ true → (a && b && c && d) ≡ true
all4 a b c d p q r s = rw (p, q, r, s)

module _ (k : Part) where
  array-length : length (array_of k) ≡ blocks_in k * k.geometry.pages * page_size k.geometry
  unfolding array_of
  array-length = length-replicate _ 0xff

  registers-length : length (registers_of k) ≡ k.geometry.luns * page_size k.geometry
  unfolding registers_of
  registers-length = length-replicate _ 0xff

  counts-length : length (counts_of k) ≡ blocks_in k * k.geometry.pages
  unfolding counts_of
  counts-length = length-replicate _ 0

  flags-length : k.bad ≤ blocks_in k → length (flags_of k) ≡ blocks_in k
  unfolding flags_of
  flags-length h = simp (length-append, length-replicate) (omega arith)

  sizes-fine : k.bad ≤ blocks_in k → sized k.geometry (length (array_of k)) (length (registers_of k)) (length (counts_of k)) (length (flags_of k)) ≡ true
  unfolding sized
  sizes-fine h =
      all4 _ _ _ _ (eq-eqb _ _ array-length) (eq-eqb _ _ registers-length) (eq-eqb _ _ counts-length) (eq-eqb _ _ (flags-length h))

  -- the flag of a block
  pub flag-bad : (i : ℕ) → i < k.bad → get_or (flags_of k) i 0 ≡ 1
  unfolding flags_of
  flag-bad i h =
      get_or-append (replicate k.bad 1) (replicate (blocks_in k - k.bad) 0) 0 i (omega (arith, length-replicate {A = ℕ} k.bad 1))
      ∙ get_or-replicate k.bad i 1 0 h

  pub flag-good : (i : ℕ) → k.bad ≤ i → get_or (flags_of k) i 0 ≡ 0
  unfolding flags_of
  flag-good i h =
      let front : List ℕ = replicate k.bad 1 in
      let rest : List ℕ = replicate (blocks_in k - k.bad) 0 in
      let at : length front + (i - k.bad) ≡ i = omega (arith, length-replicate {A = ℕ} k.bad 1) in
      ap (λ (n : ℕ). get_or (front ++ rest) n 0) (sym at) ∙ get_or-append-add front rest (i - k.bad) 0 ∙ get_or-zeros (blocks_in k - k.bad) (i - k.bad)

module _ (k : Part) (f : Fine k) where
  counts-fine : all_at_most (programs_a_page (page_of k)) (counts_of k) ≡ true
  unfolding counts_of
  counts-fine = all_most _ (blocks_in k * k.geometry.pages) 0 (omega arith)

  flags-fine : all_at_most 1 (flags_of k) ≡ true
  unfolding flags_of
  flags-fine = both_most 1 (replicate k.bad 1) _ (all_most 1 k.bad 1 (omega arith)) (all_most 1 (blocks_in k - k.bad) 0 (omega arith))

  -- power-on accepts it
  pub powers-on : power_answer (page_of k) (length (array_of k)) (length (registers_of k)) (counts_of k) (flags_of k) ≡ Ok tt
  unfolding power_answer wrong_length unsigned crc_bad field_bad buffer_bad content_bad
  powers-on =
      sym (later _ _ _ (rw (length-is k))
      (later _ _ _ (rw (signed_is k))
      (later _ _ _ (rw (crc-is k))
      (later _ _ _ (rw (fields-fine k f))
      (later _ _ _ (rw (geometry-is k, sizes-fine k f.bad-there))
      (later _ _ _ (rw (counts-fine, flags-fine)) refl))))))

-- All that is lent is bytes.

first_byte : (x : ℕ) (xs : List ℕ) → x ≤ 255 → all_at_most 255 xs ≡ true → all_at_most 255 (x ∷ xs) ≡ true
unfolding all_at_most
first_byte x xs h k = and-true (leb x 255) (all_at_most 255 xs) (le-leb x 255 h) k

no_byte : all_at_most 255 [] ≡ true
unfolding all_at_most
no_byte = refl

zeros : (n : ℕ) (xs : List ℕ) → all_at_most 255 xs ≡ true → all_at_most 255 (replicate n 0 ++ xs) ≡ true
zeros zero xs h = h
zeros (suc n) xs h = first_byte 0 (replicate n 0 ++ xs) (omega arith) (zeros n xs h)

sizes-bytes : (g : Geometry) (rest : List ℕ) → Limits g → all_at_most 255 rest ≡ true → all_at_most 255 (sizes_then g rest) ≡ true
sizes-bytes g rest m h =
    first_byte _ _ (omega arith) (first_byte _ _ (omega arith) (first_byte _ _ (omega arith) (first_byte _ _ (omega arith)
    (first_byte _ _ (omega arith) (first_byte _ _ (omega arith) (zeros 6 _
    (first_byte _ _ (omega arith) (first_byte _ _ (omega arith) (first_byte _ _ (omega arith) (first_byte _ _ (omega arith)
    (first_byte _ _ (omega arith) (first_byte _ _ (omega arith) (first_byte _ _ (omega arith) (first_byte _ _ (omega arith)
    (first_byte _ _ (omega arith) (first_byte _ _ (omega arith) (zeros 8 _ (first_byte _ _ (omega arith) (zeros 143 rest h)))))))))))))))))))

module _ (k : Part) (f : Fine k) where
  pub page-bytes : all_at_most 255 (page_of k) ≡ true
  unfolding page_of crc_in
  page-bytes =
      let small = crc-small (bytes_then k []) in
      first_byte _ _ (omega arith) (first_byte _ _ (omega arith) (first_byte _ _ (omega arith) (first_byte _ _ (omega arith)
      (first_byte _ _ (omega arith) (first_byte _ _ (omega arith) (first_byte _ _ (omega arith)
      (first_byte _ _ (omega (arith, f.features-word)) (first_byte _ _ (omega arith)
      (first_byte _ _ (omega (arith, f.optional-word)) (zeros 54 _ (first_byte _ _ f.maker-byte (zeros 15 _
      (sizes-bytes k.geometry _ (limits k.geometry f.limited)
      (first_byte _ _ (omega arith) (first_byte _ [] (omega arith) (no_byte))))))))))))))))

  pub array-bytes : all_at_most 255 (array_of k) ≡ true
  unfolding array_of
  array-bytes = all_most 255 (blocks_in k * k.geometry.pages * page_size k.geometry) 0xff (omega arith)

  pub registers-bytes : all_at_most 255 (registers_of k) ≡ true
  unfolding registers_of
  registers-bytes = all_most 255 (k.geometry.luns * page_size k.geometry) 0xff (omega arith)
