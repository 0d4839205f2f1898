-- A byte's eight steps are one look-up: `looked_up`. The steps from two registers t and t xor d, where the second is given the bits
-- that d shifts out, differ by what is left of d; so the high byte goes in with the data byte and the low byte is shifted alone.
-- Assumes nothing.
use mathlib.Core.Path.{◌≡◌, refl, sym, ap, ap₂, ◌∙◌}
use mathlib.Core.Bool.{Bool, true, false, cond}
use Prim.Native.Nat.{ℕ, zero, suc, ◌+◌, ◌*◌, ◌/◌, ◌%◌, ◌^◌, ◌<◌}
use native.Mathlib.Nat.{add-zero, zero-add, mul_assoc, pow-suc, div-add-mod', zero-div}
use native.Mathlib.Omega.{arith}
use lib.Arith.{bin_ind}
use lib.Bits.{bit_xor, xor_comm, xor_self, xor_zero_r, xor_shr, xor_mod, xor_block, xor_lt}
use lib.Dec.{eqb}
use lib.ListN.{get_or}
use lib.Pow.{split}
use Rattle.page.specs.Crc.{bit_at, one_up, crc_bit, crc_bits, crc_byte, steps}

-- two bits, one of which is told by the other
bits-assoc : (x y z : ℕ) → x < 2 → y < 2 → z < 2 → bit_xor (bit_xor x y) z ≡ bit_xor x (bit_xor y z)
bits-assoc zero y z hx hy hz = refl
bits-assoc (suc zero) zero z hx hy hz = refl
bits-assoc (suc zero) (suc zero) zero hx hy hz = refl
bits-assoc (suc zero) (suc zero) (suc zero) hx hy hz = refl
bits-assoc (suc zero) (suc zero) (suc (suc z)) hx hy hz = absurd (omega arith)
bits-assoc (suc zero) (suc (suc y)) z hx hy hz = absurd (omega arith)
bits-assoc (suc (suc x)) y z hx hy hz = absurd (omega arith)

halved : (a : ℕ) → a / 2 * 2 + a % 2 ≡ a
halved a = div-add-mod' a 2

xor_assoc : (a b c : ℕ) → bit_xor (bit_xor a b) c ≡ bit_xor a (bit_xor b c)
xor_assoc a =
    bin_ind (λ (n : ℕ). (b c : ℕ) → bit_xor (bit_xor n b) c ≡ bit_xor n (bit_xor b c)) (λ b c. refl)
    (λ n ih b c.
    sym (halved (bit_xor (bit_xor n b) c))
    ∙ ap₂ (λ (h l : ℕ). h * 2 + l)
    (xor_shr (bit_xor n b) c 1 ∙ ap (λ (h : ℕ). bit_xor h (c / 2)) (xor_shr n b 1) ∙ ih (b / 2) (c / 2)
    ∙ sym (xor_shr n (bit_xor b c) 1 ∙ ap (bit_xor (n / 2)) (xor_shr b c 1)))
    (xor_mod (bit_xor n b) c 1 ∙ ap (λ (l : ℕ). bit_xor l (c % 2)) (xor_mod n b 1)
    ∙ bits-assoc (n % 2) (b % 2) (c % 2) (omega arith) (omega arith) (omega arith)
    ∙ sym (xor_mod n (bit_xor b c) 1 ∙ ap (bit_xor (n % 2)) (xor_mod b c 1)))
    ∙ halved (bit_xor n (bit_xor b c)))
    a

-- the last two change places
xor-swap : (a b c : ℕ) → bit_xor (bit_xor a b) c ≡ bit_xor (bit_xor a c) b
xor-swap a b c = xor_assoc a b c ∙ ap (bit_xor a) (xor_comm b c) ∙ sym (xor_assoc a c b)

-- xored twice is not xored
xor-twice : (a b : ℕ) → bit_xor (bit_xor a b) b ≡ a
xor-twice a b = xor_assoc a b b ∙ ap (bit_xor a) (xor_self b) ∙ xor_zero_r a

doubled : (t d : ℕ) → bit_xor t d * 2 ≡ bit_xor (t * 2) (d * 2)
doubled t d = sym (rw (add-zero (t * 2), add-zero (d * 2), add-zero (bit_xor t d * 2)) at (xor_block 1 t d 0 0 (omega arith) (omega arith)))

up-xor : (t d : ℕ) → one_up (bit_xor t d) ≡ bit_xor (one_up t) (one_up d)
up-xor t d = ap (λ (n : ℕ). n % 2 ^ 16) (doubled t d) ∙ xor_mod (t * 2) (d * 2) 16

bit-xor : (t d : ℕ) → bit_at (bit_xor t d) 15 ≡ bit_xor (bit_at t 15) (bit_at d 15)
bit-xor t d = ap (λ (n : ℕ). n % 2) (xor_shr t d 15) ∙ xor_mod (t / 2 ^ 15) (d / 2 ^ 15) 1

-- a bit xored with y is y just where it is 0
told : (x y : ℕ) → x < 2 → y < 2 → eqb (bit_xor x y) y ≡ eqb x 0
told zero zero hx hy = refl
told zero (suc zero) hx hy = refl
told zero (suc (suc y)) hx hy = absurd (omega arith)
told (suc zero) zero hx hy = refl
told (suc zero) (suc zero) hx hy = refl
told (suc zero) (suc (suc y)) hx hy = absurd (omega arith)
told (suc (suc x)) y hx hy = absurd (omega arith)

by-test : (b : Bool) (t d : ℕ) → cond b (bit_xor t d) (bit_xor (bit_xor t d) 0x8005) ≡ bit_xor (cond b t (bit_xor t 0x8005)) d
by-test true t d = refl
by-test false t d = xor-swap t d 0x8005

-- one step
bit-differs : (t d : ℕ) → crc_bit (bit_xor t d) (bit_at d 15) ≡ bit_xor (crc_bit t 0) (one_up d)
unfolding crc_bit
bit-differs t d =
    ap₂ (λ (b : Bool) (u : ℕ). cond b u (bit_xor u 0x8005))
    (ap (λ (x : ℕ). eqb x (bit_at d 15)) (bit-xor t d) ∙ told (bit_at t 15) (bit_at d 15) (omega arith) (omega arith))
    (up-xor t d)
    ∙ by-test (eqb (bit_at t 15) 0) (one_up t) (one_up d)

-- the bit of x that the step leaves no room for, where k of the eight steps are done
bit-due : (n k x : ℕ) → suc n + k ≡ 8 → bit_at (x / 2 ^ 8) n ≡ bit_at (x * 2 ^ k % 2 ^ 16) 15
bit-due zero k x e = let h : k ≡ 7 = omega arith in rw h (omega arith)
bit-due (suc zero) k x e = let h : k ≡ 6 = omega arith in rw h (omega arith)
bit-due (suc (suc zero)) k x e = let h : k ≡ 5 = omega arith in rw h (omega arith)
bit-due (suc (suc (suc zero))) k x e = let h : k ≡ 4 = omega arith in rw h (omega arith)
bit-due (suc (suc (suc (suc zero)))) k x e = let h : k ≡ 3 = omega arith in rw h (omega arith)
bit-due (suc (suc (suc (suc (suc zero))))) k x e = let h : k ≡ 2 = omega arith in rw h (omega arith)
bit-due (suc (suc (suc (suc (suc (suc zero)))))) k x e = let h : k ≡ 1 = omega arith in rw h (omega arith)
bit-due (suc (suc (suc (suc (suc (suc (suc zero))))))) k x e = let h : k ≡ 0 = omega arith in rw h (omega arith)
bit-due (suc (suc (suc (suc (suc (suc (suc (suc n)))))))) k x e = absurd (omega arith)

one_more : (x k : ℕ) → one_up (x * 2 ^ k % 2 ^ 16) ≡ x * 2 ^ suc k % 2 ^ 16
one_more x k =
    let e : x * 2 ^ suc k ≡ x * 2 ^ k * 2 = ap (λ (p : ℕ). x * p) (pow-suc 2 k) ∙ sym (mul_assoc x (2 ^ k) 2) in
    omega arith

-- n steps more
bits-differ : (n k t x : ℕ) → n + k ≡ 8 → crc_bits n (bit_xor t (x * 2 ^ k % 2 ^ 16)) (x / 2 ^ 8) ≡ bit_xor (crc_bits n t 0) (x * 2 ^ 8 % 2 ^ 16)
unfolding crc_bits
bits-differ zero k t x e = let h : k ≡ 8 = omega arith in rw h
bits-differ (suc n) k t x e =
    rw (bit-due n k x e, bit-differs, one_more, zero-div) (bits-differ n (suc k) (crc_bit t 0) x (omega arith))

-- both bytes of the register
registers : (high low byte : ℕ) → low < 2 ^ 8 → bit_xor (bit_xor high byte * 2 ^ 8) (byte * 2 ^ 8 + low) ≡ high * 2 ^ 8 + low
registers high low byte hl =
    ap (λ (n : ℕ). bit_xor n (byte * 2 ^ 8 + low)) (sym (add-zero (bit_xor high byte * 2 ^ 8)))
    ∙ xor_block 8 (bit_xor high byte) byte 0 low (omega arith) hl
    ∙ ap (λ (n : ℕ). n * 2 ^ 8 + low) (xor-twice high byte)

eight : (high low byte : ℕ) → low < 2 ^ 8 → byte < 2 ^ 8 → crc_bits 8 (high * 2 ^ 8 + low) byte ≡ bit_xor (low * 2 ^ 8) (crc_bits 8 (bit_xor high byte * 2 ^ 8) 0)
eight high low byte hl hb =
    let t = bit_xor high byte * 2 ^ 8 in
    let x = byte * 2 ^ 8 + low in
    let whole : x * 2 ^ 0 % 2 ^ 16 ≡ x = omega arith in
    let first : x / 2 ^ 8 ≡ byte = omega arith in
    let rest : x * 2 ^ 8 % 2 ^ 16 ≡ low * 2 ^ 8 = omega arith in
    rw (whole, first, rest, registers high low byte hl) at (bits-differ 8 0 t x refl) ∙ xor_comm (crc_bits 8 t 0) (low * 2 ^ 8)

-- so a byte's eight steps are those of the high byte alone, with the low byte one byte up
steps-from-high : (crc byte : ℕ) → crc < 2 ^ 16 → byte < 2 ^ 8 → bit_xor (crc * 2 ^ 8 % 2 ^ 16) (crc_byte (bit_xor (crc / 2 ^ 8) byte * 2 ^ 8) 0) ≡ crc_byte crc byte
unfolding crc_byte
steps-from-high crc byte hc hb =
    let up : crc * 2 ^ 8 % 2 ^ 16 ≡ crc % 2 ^ 8 * 2 ^ 8 = omega arith in
    rw up (sym (rw (split crc 8) at (eight (crc / 2 ^ 8) (crc % 2 ^ 8) byte (omega arith) hb)))

-- what the table has at a place
entry : (n i k : ℕ) → k < n → get_or (steps n i) k 0 ≡ crc_byte ((i + k) * 2 ^ 8) 0
unfolding steps
entry zero i k h = absurd (omega arith)
entry (suc n) i zero h = rw (add-zero i)
entry (suc n) i (suc k) h = let e : suc i + k ≡ i + suc k = omega arith in rw e at (entry n (suc i) k (omega arith))

-- the place that is read
pub place_small : (crc byte : ℕ) → crc < 2 ^ 16 → byte < 2 ^ 8 → bit_xor (crc / 2 ^ 8) byte < 2 ^ 8
place_small crc byte hc hb = xor_lt 8 (crc / 2 ^ 8) byte (omega arith) hb

-- A byte's eight steps are one look-up.
pub looked_up : (crc byte : ℕ) → crc < 2 ^ 16 → byte < 2 ^ 8 → bit_xor (crc * 2 ^ 8 % 2 ^ 16) (get_or (steps 256 0) (bit_xor (crc / 2 ^ 8) byte) 0) ≡ crc_byte crc byte
looked_up crc byte hc hb =
    ap (bit_xor (crc * 2 ^ 8 % 2 ^ 16))
    (entry 256 0 (bit_xor (crc / 2 ^ 8) byte) (place_small crc byte hc hb)
    ∙ ap (λ (i : ℕ). crc_byte (i * 2 ^ 8) 0) (zero-add (bit_xor (crc / 2 ^ 8) byte)))
    ∙ steps-from-high crc byte hc hb
