-- Powers of ten: what one more makes, and that all of it is within 64 bits up to 16.
-- Assumes nothing.
use mathlib.Core.Path.{◌≡◌, refl, sym}
use Prim.Native.Nat.{ℕ, zero, suc, ◌-◌, ◌*◌, ◌^◌, ◌≤◌, ◌<◌}
use native.Mathlib.Nat.{pow-succ', pow-le-pow_right, mul-le-mul, lt_of_le_of_lt}
use native.Mathlib.Omega.{arith}
use lib.Dec.{lit<}

pub ten-more : (m : ℕ) → (m ≡ 0 → ⊥) → 10 * 10 ^ (m - 1) ≡ 10 ^ m
ten-more zero h = absurd (h refl)
ten-more (suc m) h =
    let e : suc m - 1 ≡ m = omega arith in
    rw e (sym (pow-succ' 10 m))

pub ten-small : (m n : ℕ) → m ≤ n → 10 ^ m ≤ 10 ^ n
ten-small m n h = pow-le-pow_right (omega arith) h

pub product_small : (v m : ℕ) → v < 256 → m ≤ 16 → v * 10 ^ m < 2 ^ 64
product_small v m hv hm =
    let v-most : v ≤ 255 = omega arith in
    lt_of_le_of_lt (mul-le-mul v-most (ten-small m 16 hm)) (lit< tt)
