-- Two sets of buffers that agree on one LUN's share, and get the same bytes at the same places within it: they still agree there, and
-- every other LUN's share stays. Buffers that agree on every LUN's share are equal.
-- Assumes nothing.
use mathlib.Core.Path.{◌≡◌, ◌∙◌}
use Prim.Native.Nat.{ℕ, ◌*◌, ◌<◌}
use native.Mathlib.Nat.{mul_assoc}
use lib.ListN.{length}
use Rattle.slices.specs.Cells.{part}
use Rattle.slices.proofs.Parts.{pieces-ext}
use Rattle.target.specs.Sizes.{page_size}
use Rattle.target.specs.declared.Geometry.{Geometry}
use Rattle.step.specs.Step.{Buffers, Sizes}
use Rattle.thm_stations.specs.Isolated.{lun_bytes, lun_pages}
use Rattle.thm_stations.proofs.Edits.{Edit, as_is, edit-flip, edit-apart, edit-alike}

-- two sets of buffers agree on the l-th LUN's share of the array, of the registers, of the counts: a lemma asks for what it needs
abbrev pub ArrayAgrees : Geometry → ℕ → Buffers → Buffers → Type 0
ArrayAgrees g l b c = part b.array (l * lun_bytes g) (lun_bytes g) ≡ part c.array (l * lun_bytes g) (lun_bytes g)

abbrev pub RegisterAgrees : Geometry → ℕ → Buffers → Buffers → Type 0
RegisterAgrees g l b c =
    part b.registers (l * page_size g) (page_size g) ≡ part c.registers (l * page_size g) (page_size g)

abbrev pub CountsAgree : Geometry → ℕ → Buffers → Buffers → Type 0
CountsAgree g l b c = part b.counts (l * lun_pages g) (lun_pages g) ≡ part c.counts (l * lun_pages g) (lun_pages g)

pub record Parts (g : Geometry) (l : ℕ) (b c : Buffers) : Type 0 where
  pub array : ArrayAgrees g l b c
  pub registers : RegisterAgrees g l b c
  pub counts : CountsAgree g l b c

abbrev pub SizesOf : Geometry → Buffers → Type 0
SizesOf g b = Sizes g b.array b.registers b.counts

-- both sets of buffers get the same bytes at the same places within the l-th LUN's share
pub record Edited (g : Geometry) (l : ℕ) (b c bʹ cʹ : Buffers) : Type 0 where
  pub array : Edit (lun_bytes g) l b.array c.array bʹ.array cʹ.array
  pub registers : Edit (page_size g) l b.registers c.registers bʹ.registers cʹ.registers
  pub counts : Edit (lun_pages g) l b.counts c.counts bʹ.counts cʹ.counts

pub unedited : (g : Geometry) (l : ℕ) (b c : Buffers) → Edited g l b c b c
unedited g l b c = record { array = as_is; registers = as_is; counts = as_is }

pub edited-flip : {g : Geometry} {l : ℕ} {b c bʹ cʹ : Buffers} → Edited g l b c bʹ cʹ → Edited g l c b cʹ bʹ
edited-flip e =
    record { array = edit-flip e.array; registers = edit-flip e.registers; counts = edit-flip e.counts }

-- the share's lengths
array-shares : (g : Geometry) (b : Buffers) → SizesOf g b → length b.array ≡ g.luns * lun_bytes g
array-shares g b sizes = sizes.array_size ∙ simp mul_assoc

counts-shares : (g : Geometry) (b : Buffers) → SizesOf g b → length b.counts ≡ g.luns * lun_pages g
counts-shares g b sizes = sizes.counts-size ∙ simp mul_assoc

-- that LUN's share still agrees, and another's is as it was
module _ (g : Geometry) (l : ℕ) (there : l < g.luns) (b c bʹ cʹ : Buffers) (sizes : SizesOf g b) (e : Edited g l b c bʹ cʹ) where
  pub edited-alike : SizesOf g c → Parts g l b c → Parts g l bʹ cʹ
  edited-alike sizesʳ a = record {
    array = edit-alike (lun_bytes g) g.luns l b.array c.array (array-shares g b sizes) there (array-shares g c sizesʳ) a.array e.array;
    registers = edit-alike (page_size g) g.luns l b.registers c.registers sizes.registers-size there sizesʳ.registers-size a.registers e.registers;
    counts = edit-alike (lun_pages g) g.luns l b.counts c.counts (counts-shares g b sizes) there (counts-shares g c sizesʳ) a.counts e.counts;
  }

  pub edited-apart : (m : ℕ) → (m ≡ l → ⊥) → Parts g m bʹ b
  edited-apart m ne = record {
    array = edit-apart (lun_bytes g) g.luns l b.array c.array (array-shares g b sizes) there m ne e.array;
    registers = edit-apart (page_size g) g.luns l b.registers c.registers sizes.registers-size there m ne e.registers;
    counts = edit-apart (lun_pages g) g.luns l b.counts c.counts (counts-shares g b sizes) there m ne e.counts;
  }

-- buffers that agree on every LUN's share are equal
pub shares-all : (g : Geometry) (b c : Buffers) → SizesOf g b → SizesOf g c → ((l : ℕ) → Parts g l b c) → b ≡ c
shares-all g b c sizes sizesʳ agree = λ i. record {
  array = pieces-ext (lun_bytes g) g.luns b.array c.array (array-shares g b sizes) (array-shares g c sizesʳ) (λ l h. (agree l).array) i;
  registers = pieces-ext (page_size g) g.luns b.registers c.registers sizes.registers-size sizesʳ.registers-size (λ l h. (agree l).registers) i;
  counts = pieces-ext (lun_pages g) g.luns b.counts c.counts (counts-shares g b sizes) (counts-shares g c sizesʳ) (λ l h. (agree l).counts) i;
}
