-- Addresses (document 01, "Addresses").
use Rattle.std.specs.Prelude.{ℕ, zero, suc, ◌+◌, ◌-◌, ◌*◌, ◌/◌, ◌%◌, ◌^◌, Bool, ◌&&◌, ltb}
use Rattle.target.specs.declared.Column.{Column}
use Rattle.target.specs.declared.Row.{Row}
use Rattle.target.specs.declared.Geometry.{Geometry}

-- how many bits a number has: none for 0, else one more than its half; `most` bounds the count
unfoldable pub bits_of : ℕ → ℕ → ℕ
bits_of zero x = zero
bits_of (suc most) zero = zero
bits_of (suc most) (suc x) = suc (bits_of most (suc x / 2))

-- the width of a field for n numbers: the fewest bits that hold its largest number, n - 1 (proved in proofs/Widths.antt)
unfoldable pub field_width : ℕ → ℕ
field_width n = bits_of (n - 1) (n - 1)

-- a column is two cycles and a row three, least significant byte first
unfoldable pub column_from : ℕ → ℕ → Column
column_from low high = record { 0 = low + 256 * high }

unfoldable pub row_from : ℕ → ℕ → ℕ → Row
row_from low mid high = record { 0 = low + 256 * mid + 65536 * high }

-- the row's fields, least significant first: page bits, block bits, the rest LUN
unfoldable pub page_of : Geometry → Row → ℕ
page_of g r = r.0 % 2 ^ field_width g.pages

unfoldable pub block_of : Geometry → Row → ℕ
block_of g r = r.0 / 2 ^ field_width g.pages % 2 ^ field_width g.blocks

unfoldable pub lun_of : Geometry → Row → ℕ
lun_of g r = r.0 / 2 ^ field_width g.pages / 2 ^ field_width g.blocks

-- for 78h and 06h only the LUN field is looked at
unfoldable pub lun_exists : Geometry → Row → Bool
lun_exists g r = ltb (lun_of g r) g.luns

-- for 60h the page bits are not looked at
unfoldable pub block_exists : Geometry → Row → Bool
block_exists g r = ltb (block_of g r) g.blocks && lun_exists g r

-- a row for 00h or 80h is in range if page, block and LUN all exist
unfoldable pub row_exists : Geometry → Row → Bool
row_exists g r = ltb (page_of g r) g.pages && block_exists g r
