-- The order of one LUN after the other loses nothing, adds nothing, and keeps each LUN's own order.
--     reordered     where every owner is below n, `serial n` is such an order
--     mix-below     the owners in a mixture are
-- Assumes nothing.
use mathlib.Core.Path.{◌≡◌, refl, sym, ap, ◌∙◌}
use mathlib.Core.List.{List, [], ◌∷◌, ◌++◌, append-nil}
use Prim.Native.Nat.{ℕ, zero, suc, ◌≤◌, ◌<◌}
use native.Mathlib.Nat.{not-suc-le-zero}
use native.Mathlib.Omega.{arith}
use native.Mathlib.Decide.{ℕ_discrete, dec_lt}
use borrow.Author.Tests.{eq-eqb, ne_eqb}
use lib.ListN.{length, length-append}
use Rattle.target.specs.declared.Event.{Event}
use Rattle.target.specs.declared.Geometry.{Geometry}
use Rattle.jobs.specs.Cycles.{Cycle}
use Rattle.thm_stations.specs.Mixture.{Owned, those, serial, Reordered, Mix, over, start, cycle, finish}

module _ {A : Type 0} (l : ℕ) (x : Owned A) (xs : List (Owned A)) where
  pub those-hit : x.own ≡ l → those l (x ∷ xs) ≡ x ∷ those l xs
  unfolding those
  those-hit q = rw (eq-eqb x.own l q)

  pub those-miss : (x.own ≡ l → ⊥) → those l (x ∷ xs) ≡ those l xs
  unfolding those
  those-miss q = rw (ne_eqb x.own l q)

-- the l-th LUN's of two parts; of its own; of another's
those-append : {A : Type 0} (l : ℕ) (xs ys : List (Owned A)) → those l (xs ++ ys) ≡ those l xs ++ those l ys
unfolding those
those-append l [] ys = refl
those-append l (x ∷ xs) ys = elim (ℕ_discrete x.own l) [
  | yes q ↦ rw (those-hit l x (xs ++ ys) q, those-hit l x xs q, those-append l xs ys)
  | no q ↦ rw (those-miss l x (xs ++ ys) q, those-miss l x xs q) (those-append l xs ys)
]

those-again : {A : Type 0} (l : ℕ) (xs : List (Owned A)) → those l (those l xs) ≡ those l xs
unfolding those
those-again l [] = refl
those-again l (x ∷ xs) = elim (ℕ_discrete x.own l) [
  | yes q ↦ rw (those-hit l x xs q, those-hit l x (those l xs) q, those-again l xs)
  | no q ↦ rw (those-miss l x xs q) (those-again l xs)
]

those-apart : {A : Type 0} (l k : ℕ) (xs : List (Owned A)) → (l ≡ k → ⊥) → those l (those k xs) ≡ []
unfolding those
those-apart l k [] ne = refl
those-apart l k (x ∷ xs) ne = elim (ℕ_discrete x.own k) [
  | yes q ↦ rw (those-hit k x xs q, those-miss l x (those k xs) (λ r. ne (sym r ∙ q))) (those-apart l k xs ne)
  | no q ↦ rw (those-miss k x xs q) (those-apart l k xs ne)
]

-- in the serial order
serial-none : {A : Type 0} (n l : ℕ) (xs : List (Owned A)) → n ≤ l → those l (serial n xs) ≡ []
unfolding serial those
serial-none zero l xs h = refl
serial-none (suc n) l xs h =
    those-append l (serial n xs) (those n xs) ∙ rw (serial-none n l xs (omega arith)) (those-apart l n xs (λ q. omega arith))

serial-those : {A : Type 0} (n l : ℕ) (xs : List (Owned A)) → l < n → those l (serial n xs) ≡ those l xs
unfolding serial
serial-those zero l xs h = absurd (not-suc-le-zero h)
serial-those (suc n) l xs h = elim (ℕ_discrete l n) [
  | yes q ↦ those-append l (serial n xs) (those n xs) ∙ rw (serial-none n l xs (omega arith), ← q) (those-again l xs)
  | no q ↦ those-append l (serial n xs) (those n xs) ∙ rw (those-apart l n xs q, append-nil) (serial-those n l xs (omega arith))
]

-- one more in front
serial-miss : {A : Type 0} (n : ℕ) (x : Owned A) (xs : List (Owned A)) → n ≤ x.own → serial n (x ∷ xs) ≡ serial n xs
unfolding serial
serial-miss zero x xs h = refl
serial-miss (suc n) x xs h = rw (serial-miss n x xs (omega arith), those-miss n x xs (λ q. omega arith))

serial-hit : {A : Type 0} (n : ℕ) (x : Owned A) (xs : List (Owned A)) → x.own < n
    → length (serial n (x ∷ xs)) ≡ suc (length (serial n xs))
unfolding serial
serial-hit zero x xs h = absurd (not-suc-le-zero h)
serial-hit (suc n) x xs h = elim (ℕ_discrete x.own n) [
  | yes q ↦ rw (serial-miss n x xs (omega arith), those-hit n x xs q, length-append (serial n xs) (x ∷ those n xs), length-append (serial n xs) (those n xs)) (omega arith)
  | no q ↦
      rw (those-miss n x xs q, length-append (serial n (x ∷ xs)) (those n xs), length-append (serial n xs) (those n xs))
      (omega (arith, serial-hit n x xs (omega arith)))
]

-- every owner is below n
pub data Below {A : Type 0} (n : ℕ) : List (Owned A) → Type 0 where
  none : Below n []
  more : {x : Owned A} {xs : List (Owned A)} → x.own < n → Below n xs → Below n (x ∷ xs)

pub those-none : {A : Type 0} {n : ℕ} {xs : List (Owned A)} (l : ℕ) → Below n xs → n ≤ l → those l xs ≡ []
unfolding those
those-none l none h = refl
those-none l (more {x = x} {xs = xs} b bs) h = rw (those-miss l x xs (λ q. omega arith)) (those-none l bs h)

serial-empty : (A : Type 0) (n : ℕ) → ◌≡◌ {A = List (Owned A)} (serial n []) []
unfolding serial those
serial-empty A zero = refl
serial-empty A (suc n) = rw (serial-empty A n)

serial-length : {A : Type 0} {n : ℕ} {xs : List (Owned A)} → Below n xs → length (serial n xs) ≡ length xs
serial-length {A} {n} none = ap length (serial-empty A n)
serial-length {n = n} (more {x = x} {xs = xs} b bs) = rw (serial-hit n x xs b) (ap suc (serial-length bs))

pub reordered : {A : Type 0} (n : ℕ) (xs : List (Owned A)) → Below n xs → Reordered (serial n xs) xs
reordered n xs b = record {
  each = λ l. elim (dec_lt l n) [
    | yes h ↦ serial-those n l xs h
    | no h ↦ serial-none n l xs (omega arith) ∙ sym (those-none l b (omega arith))
  ];
  all = serial-length b;
}

pub mix-below : {g : Geometry} {o : ℕ} {cs : List Cycle} {es : List (Owned Event)} → Mix g o cs es → o < g.luns
    → Below g.luns es
mix-below over there = none
mix-below (start j jt m) there = mix-below m jt
mix-below (cycle m) there = more there (mix-below m there)
mix-below (finish l lt m) there = more lt (mix-below m there)
