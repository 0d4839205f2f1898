-- The ANDed list, byte by byte.
-- Assumes nothing.
use mathlib.Core.Path.{◌≡◌, refl, ap}
use mathlib.Core.List.{List, [], ◌∷◌}
use Prim.Native.Nat.{ℕ, zero, suc, ◌<◌}
use native.Mathlib.Nat.{not-suc-le-zero, le_of_suc-le-suc}
use lib.ListN.{length, get_or}
use lib.Bits.{bit_and}
use Rattle.slices.specs.Cells.{and_bytes}

pub length-and : (xs ys : List ℕ) → length (and_bytes xs ys) ≡ length xs
unfolding and_bytes
length-and [] ys = refl
length-and (x ∷ xs) [] = refl
length-and (x ∷ xs) (y ∷ ys) = ap suc (length-and xs ys)

pub get_or-and : (xs ys : List ℕ) (i : ℕ) → i < length xs → i < length ys → get_or (and_bytes xs ys) i 0 ≡ bit_and (get_or xs i 0) (get_or ys i 0)
unfolding and_bytes
get_or-and [] ys i h k = absurd (not-suc-le-zero h)
get_or-and (x ∷ xs) [] i h k = absurd (not-suc-le-zero k)
get_or-and (x ∷ xs) (y ∷ ys) zero h k = refl
get_or-and (x ∷ xs) (y ∷ ys) (suc i) h k = get_or-and xs ys i (le_of_suc-le-suc h) (le_of_suc-le-suc k)
