-- A CRC has 16 bits.
-- Assumes nothing.
use mathlib.Core.Bool.{Bool, true, false, cond}
use mathlib.Core.List.{List, [], ◌∷◌}
use Prim.Native.Nat.{ℕ, zero, suc, ◌^◌, ◌<◌}
use native.Mathlib.Omega.{arith}
use lib.Bits.{bit_xor, xor_lt}
use lib.Dec.{eqb, lit<}
use Rattle.page.specs.Crc.{bit_at, one_up, crc_bit, crc_bits, crc_byte, crc_from, crc_of}

bit-small : (crc bit : ℕ) → crc_bit crc bit < 2 ^ 16
unfolding crc_bit
bit-small crc bit = by (eqb (bit_at crc 15) bit)
  where
    up : one_up crc < 2 ^ 16
    up = omega arith

    by : (b : Bool) → cond b (one_up crc) (bit_xor (one_up crc) 0x8005) < 2 ^ 16
    by true = up
    by false = xor_lt 16 (one_up crc) 0x8005 up (lit< tt)

bits_small : (n crc byte : ℕ) → crc < 2 ^ 16 → crc_bits n crc byte < 2 ^ 16
unfolding crc_bits
bits_small zero crc byte h = h
bits_small (suc n) crc byte h = bits_small n (crc_bit crc (bit_at byte n)) byte (bit-small crc (bit_at byte n))

from-small : (bytes : List ℕ) (crc : ℕ) → crc < 2 ^ 16 → crc_from crc bytes < 2 ^ 16
unfolding crc_from crc_byte
from-small [] crc h = h
from-small (b ∷ bytes) crc h = from-small bytes (crc_byte crc b) (bits_small 8 crc b h)

pub crc-small : (bytes : List ℕ) → crc_of bytes < 2 ^ 16
unfolding crc_of
crc-small bytes = from-small bytes 0x4f4e (lit< tt)
