-- The CRC of the parameter page (document 01, "Power-on and the parameter page"): polynomial 8005h, start 4F4Eh, most
-- significant bit first, nothing reflected or inverted at the end.
use Rattle.std.specs.Prelude.{ℕ, zero, suc, ◌*◌, ◌/◌, ◌%◌, ◌^◌, cond, List, [], ◌∷◌, eqb}
use Rattle.std.specs.Int.Bits.{bit_xor}

-- bit k of a number, 0 or 1
abbrev pub bit_at : ℕ → ℕ → ℕ
bit_at n k = n / 2 ^ k % 2

-- the 16 bits one place up: the highest leaves, 0 comes in
abbrev pub one_up : ℕ → ℕ
one_up crc = crc * 2 % 2 ^ 16

-- one data bit: one place up, and where the bit that leaves differs from the data bit the polynomial is xored in
unfoldable pub crc_bit : ℕ → ℕ → ℕ
crc_bit crc bit = cond (eqb (bit_at crc 15) bit) (one_up crc) (bit_xor (one_up crc) 0x8005)

-- the lowest n bits of a byte, most significant first
unfoldable pub crc_bits : ℕ → ℕ → ℕ → ℕ
crc_bits zero crc byte = crc
crc_bits (suc n) crc byte = crc_bits n (crc_bit crc (bit_at byte n)) byte

-- one byte: its 8 bits
unfoldable pub crc_byte : ℕ → ℕ → ℕ
crc_byte crc byte = crc_bits 8 crc byte

-- the bytes, one after the other
unfoldable pub crc_from : ℕ → List ℕ → ℕ
crc_from crc [] = crc
crc_from crc (byte ∷ bytes) = crc_from (crc_byte crc byte) bytes

-- from the start value
unfoldable pub crc_of : List ℕ → ℕ
crc_of bytes = crc_from 0x4f4e bytes

-- n entries of the look-up table, from i on: entry i is eight bit steps from i × 256
unfoldable pub steps : ℕ → ℕ → List ℕ
steps zero i = []
steps (suc n) i = crc_byte (i * 2 ^ 8) 0 ∷ steps n (suc i)
