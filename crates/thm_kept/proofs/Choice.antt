-- Going along a definition's own picks, and small laws of tests.
-- Assumes nothing.
use mathlib.Core.Path.{◌≡◌, refl}
use mathlib.Core.Bool.{Bool, true, false, ◌&&◌, ◌||◌, not, false≢true}
use Prim.Native.Nat.{ℕ, ◌<◌}
use native.Mathlib.Omega.{arith}
use lib.Dec.{eqb, ltb, leb}
use borrow.Author.Tests.{ltb-true, eqb-false, eq-eqb, le-leb}
use lib.Arith.{lt_of_le-ne}
use Rattle.target.specs.Pick.{pick}

pub by-pick : {A : Type 0} (P : A → Type 0) (b : Bool) (x y : A) → (b ≡ true → P x) → (b ≡ false → P y) → P (pick b x y)
by-pick P true x y h k = h refl
by-pick P false x y h k = k refl

pub and-true : (a b : Bool) → a ≡ true → b ≡ true → (a && b) ≡ true
and-true a b h k = rw (h, k)

pub or-true : (a : Bool) → (a || true) ≡ true
or-true true = refl
or-true false = refl

pub or_left : (a b : Bool) → a ≡ true → (a || b) ≡ true
or_left a b h = rw h

pub opposite : (a : Bool) → a ≡ true → not a ≡ true → ⊥
opposite true h k = false≢true k
opposite false h k = false≢true h

-- where `a and b` fails and a holds, b fails
pub then-not : (a b : Bool) → (a && b) ≡ false → a ≡ true → b ≡ false
then-not true b h e = h
then-not false b h e = absurd (false≢true e)

-- the last of two, and of three, counts
pub one_of_two : (n : ℕ) → ltb n 2 ≡ true → eqb n 0 ≡ false → eqb n 1 ≡ true
one_of_two n h k =
    let some : 0 < n = lt_of_le-ne (omega arith) (λ (e : 0 ≡ n). eqb-false n 0 k (omega arith)) in
    eq-eqb n 1 (omega (arith, ltb-true n 2 h))

pub two-of-three : (n : ℕ) → ltb n 3 ≡ true → eqb n 0 ≡ false → eqb n 1 ≡ false → eqb n 2 ≡ true
two-of-three n h k l =
    let some : 0 < n = lt_of_le-ne (omega arith) (λ (e : 0 ≡ n). eqb-false n 0 k (omega arith)) in
    let more : 1 < n = lt_of_le-ne some (λ (e : 1 ≡ n). eqb-false n 1 l (omega arith)) in
    eq-eqb n 2 (omega (arith, ltb-true n 3 h))

pub below-at-most : (a b : ℕ) → ltb a b ≡ true → leb a b ≡ true
below-at-most a b h = le-leb a b (omega (arith, ltb-true a b h))
