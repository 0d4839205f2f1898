-- A field's width: it holds the field's largest number, no fewer bits do, and it is 64 less the leading zeros of that number.
-- Each is proved once, over the width.
-- Assumes nothing.
use mathlib.Core.Path.{◌≡◌, ◌∙◌}
use Prim.Native.Nat.{ℕ, zero, suc, ◌+◌, ◌-◌, ◌*◌, ◌/◌, ◌%◌, ◌^◌, ◌≤◌, ◌<◌}
use native.Mathlib.Nat.{pow-suc, div-lt_iff_lt-mul, div-add-mod', eq-zero-or-pos, zero-lt-suc, le_refl, lt_of_not-le, lt_of_lt_of_le, le_of_suc-le-suc, le_antisymm}
use native.Mathlib.Omega.{arith}
use mathlib.Core.Logic.{⊎_elim}
use lib.Arith.{half_le}
use lib.Pow.{pow_mono, shl_exact}
use lib.Dec.{lit<}
use lib.Count.{count_leading_zeros, leading_length}
use Rattle.target.specs.Address.{bits_of, field_width}

-- the bits of x hold it
bits-hold : (most x : ℕ) → x ≤ most → x < 2 ^ bits_of most x
unfolding bits_of
bits-hold zero x h = omega arith
bits-hold (suc most) zero h = zero-lt-suc 0
bits-hold (suc most) (suc x) h =
    rw (pow-suc 2 (bits_of most (suc x / 2)))
    ((div-lt_iff_lt-mul (zero-lt-suc 1)).0 (bits-hold most (suc x / 2) (half_le h)))

-- and one bit fewer does not
bits-tight : (most x : ℕ) → zero < x → x ≤ most → 2 ^ bits_of most x ≤ 2 * x
unfolding bits_of
bits-tight zero x p h = absurd (omega arith)
bits-tight (suc most) zero p h = absurd (omega arith)
bits-tight (suc most) (suc x) p h =
    ⊎_elim
    (λ (e : suc x / 2 ≡ zero). rw (e) (none most))
    (λ (q : zero < suc x / 2).
    let ih : 2 ^ bits_of most (suc x / 2) ≤ 2 * (suc x / 2) = bits-tight most (suc x / 2) q (half_le h) in
    rw (pow-suc 2 (bits_of most (suc x / 2))) (omega (arith, div-add-mod' (suc x) 2)))
    (eq-zero-or-pos (suc x / 2))
  where
    none : (most : ℕ) → 2 ^ suc (bits_of most zero) ≤ 2 * suc x
    none zero = omega arith
    none (suc most) = omega arith

-- one length for one number
shortest : (a m k : ℕ) → 2 ^ m ≤ 2 * a + 1 → a < 2 ^ k → m ≤ k
shortest a m k l h =
    le_of_suc-le-suc (lt_of_not-le (λ (g : suc k ≤ m).
    let big : 2 ^ suc k ≤ 2 ^ m = pow_mono g in
    let two : 2 ^ suc k ≡ 2 ^ k * 2 = pow-suc 2 k in
    omega arith))

tight : (x : ℕ) → 2 ^ bits_of x x ≤ 2 * x + 1
unfolding bits_of
tight zero = le_refl 1
tight (suc x) = omega (arith, bits-tight (suc x) (suc x) (zero-lt-suc x) (le_refl (suc x)))

-- the width holds the field's largest number
pub width-holds : (n : ℕ) → n - 1 < 2 ^ field_width n
unfolding field_width
width-holds n = bits-hold (n - 1) (n - 1) (le_refl (n - 1))

-- and is the fewest bits that do
pub width-fewest : (n k : ℕ) → n - 1 < 2 ^ k → field_width n ≤ k
unfolding field_width
width-fewest n k h = shortest (n - 1) (bits_of (n - 1) (n - 1)) k (tight (n - 1)) h

-- what the code counts
pub width-counted : (n : ℕ) → n - 1 < 2 ^ 64 → 64 - count_leading_zeros 64 (n - 1) ≡ field_width n
unfolding field_width
width-counted n h =
    let s = leading_length 64 (n - 1) h in
    let m = bits_of (n - 1) (n - 1) in
    let same : s.0 ≡ m =
    le_antisymm (shortest (n - 1) s.0 m s.3 (bits-hold (n - 1) (n - 1) (le_refl (n - 1))))
    (shortest (n - 1) m s.0 (tight (n - 1)) s.2) in
    omega (arith, s.1)

-- a power of two above 64 bits
pub past-64 : (x w : ℕ) → x < 2 ^ 64 → 64 ≤ w → x < 2 ^ w
past-64 x w h k = lt_of_lt_of_le h (pow_mono k)

pub one_shifted : (w : ℕ) → w < 64 → (1 * 2 ^ w) % 2 ^ 64 ≡ 2 ^ w
one_shifted w h = shl_exact {a = 1} 1 w 64 (lit< tt) (omega arith) ∙ omega arith
