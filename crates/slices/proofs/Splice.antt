-- What a splice does to a list, shown byte by byte from the list's front.
--     length-splice     new bytes in the place of as many keep the length
--     part-splice       the place has the new bytes
--     part-before, part-after   what lies before the place, or behind it, is as it was
--     part_apart        so is another piece, where the list is cut into pieces of one size
-- Assumes nothing.
use mathlib.Core.Path.{◌≡◌, refl, sym, ap}
use mathlib.Core.List.{List, [], ◌∷◌, ◌++◌}
use mathlib.Core.Bool.{Bool, true, false}
use Prim.Native.Nat.{ℕ, zero, suc, ◌+◌, ◌*◌, ◌≤◌, ◌<◌}
use native.Mathlib.Nat.{suc-mul, mul-le-mul_right}
use borrow.Author.Tests.{ltb-true, ltb-false}
use lib.Arith.{lt_of_le-ne}
use lib.Dec.{ltb}
use native.Mathlib.Omega.{arith}
use lib.ListN.{length, take, drop, length-append, length-drop}
use lib.Seq.{length-take-le, take_at}
use Rattle.slices.specs.Cells.{splice, part}

pub length_part : (xs : List ℕ) (at n : ℕ) → at + n ≤ length xs → length (take n (drop at xs)) ≡ n
length_part xs zero n fits = length-take-le n xs (omega arith)
length_part [] (suc at) n fits = absurd (omega arith)
length_part (x ∷ xs) (suc at) n fits = length_part xs at n (omega arith)

pub length-splice : (xs : List ℕ) (at n : ℕ) (new : List ℕ) → at + n ≤ length xs → length new ≡ n → length (splice xs at n new) ≡ length xs
unfolding splice
length-splice xs zero n new fits same = simp (length-append, length-drop) (omega arith)
length-splice [] (suc at) n new fits same = absurd (omega arith)
length-splice (x ∷ xs) (suc at) n new fits same = ap suc (length-splice xs at n new (omega arith) same)

pub part-splice : (xs : List ℕ) (at n : ℕ) (new : List ℕ) → at + n ≤ length xs → length new ≡ n → part (splice xs at n new) at n ≡ new
unfolding splice part
part-splice xs zero n new fits same = take_at new _ n same
part-splice [] (suc at) n new fits same = absurd (omega arith)
part-splice (x ∷ xs) (suc at) n new fits same = part-splice xs at n new (omega arith) same

-- the first bytes, no more than lie before the place
front_kept : (xs : List ℕ) (at n : ℕ) (new : List ℕ) (k : ℕ) → k ≤ at → at ≤ length xs → take k (splice xs at n new) ≡ take k xs
unfolding splice
front_kept xs at n new zero low fits = refl
front_kept xs zero n new (suc k) low fits = absurd (omega arith)
front_kept [] (suc at) n new (suc k) low fits = absurd (omega arith)
front_kept (x ∷ xs) (suc at) n new (suc k) low fits =
    ap (λ (l : List ℕ). x ∷ l) (front_kept xs at n new k (omega arith) (omega arith))

pub part-before : (xs : List ℕ) (at n : ℕ) (new : List ℕ) → at + n ≤ length xs → length new ≡ n → (a k : ℕ) → a + k ≤ at → part (splice xs at n new) a k ≡ part xs a k
unfolding splice part
part-before xs at n new fits same zero k ends = front_kept xs at n new k (omega arith) (omega arith)
part-before xs zero n new fits same (suc a) k ends = absurd (omega arith)
part-before [] (suc at) n new fits same (suc a) k ends = absurd (omega arith)
part-before (x ∷ xs) (suc at) n new fits same (suc a) k ends = part-before xs at n new (omega arith) same a k (omega arith)

-- behind new bytes at the list's front
behind-new : (new xs : List ℕ) (n a : ℕ) → length new ≡ n → n ≤ length xs → n ≤ a → drop a (new ++ drop n xs) ≡ drop a xs
behind-new [] xs zero a same fits past = refl
behind-new [] xs (suc n) a same fits past = absurd (omega arith)
behind-new (y ∷ new) xs zero a same fits past = absurd (omega arith)
behind-new (y ∷ new) [] (suc n) a same fits past = absurd (omega arith)
behind-new (y ∷ new) (x ∷ xs) (suc n) zero same fits past = absurd (omega arith)
behind-new (y ∷ new) (x ∷ xs) (suc n) (suc a) same fits past = behind-new new xs n a (omega arith) (omega arith) (omega arith)

pub part-after : (xs : List ℕ) (at n : ℕ) (new : List ℕ) → at + n ≤ length xs → length new ≡ n → (a k : ℕ) → at + n ≤ a → part (splice xs at n new) a k ≡ part xs a k
unfolding splice part
part-after xs zero n new fits same a k past = ap (take k) (behind-new new xs n a same (omega arith) (omega arith))
part-after [] (suc at) n new fits same a k past = absurd (omega arith)
part-after (x ∷ xs) (suc at) n new fits same zero k past = absurd (omega arith)
part-after (x ∷ xs) (suc at) n new fits same (suc a) k past = part-after xs at n new (omega arith) same a k (omega arith)

-- a piece ends where the next one begins, or before a later one
pub piece : (k : ℕ) {i n : ℕ} → i < n → i * k + k ≤ n * k
piece k {i} {n} below =
    let ends = mul-le-mul_right k below in
    rw (suc-mul i k) at ends

-- of two numbers that differ one is the smaller
one_below : {A : Type 0} (l m : ℕ) (b : Bool) → ltb l m ≡ b → (l ≡ m → ⊥) → (l < m → A) → (m < l → A) → A
one_below l m true h other less more = less (ltb-true l m h)
one_below l m false h other less more = more (lt_of_le-ne (ltb-false l m h) (λ e. other (sym e)))

-- new bytes within piece number l of k bytes: another piece lies before them or behind them
pub part_apart : (xs : List ℕ) (at n : ℕ) (new : List ℕ) → at + n ≤ length xs → length new ≡ n → (k l m : ℕ) → l * k ≤ at → at + n ≤ l * k + k → (l ≡ m → ⊥) → part (splice xs at n new) (m * k) k ≡ part xs (m * k) k
part_apart xs at n new fits same k l m low high other =
    one_below l m (ltb l m) refl other
    (λ h. part-after xs at n new fits same (m * k) k (omega (arith, piece k h)))
    (λ h. part-before xs at n new fits same (m * k) k (omega (arith, piece k h)))
