-- What the code of `lines` counts.
--     halves        whether a place is past the last record, without a product that could wrap
-- Assumes nothing.
use mathlib.Core.Path.{◌≡◌, refl}
use mathlib.Core.Bool.{Bool, true, false}
use Prim.Native.Nat.{ℕ, ◌-◌, ◌*◌, ◌/◌, ◌≤◌, ◌<◌}
use native.Mathlib.Omega.{arith}
use lib.Dec.{leb}
use borrow.Author.Tests.{leb-true, leb-false, le-leb, lt-leb}

pub halves : (n p : ℕ) → leb (n - n / 2) p ≡ leb n (2 * p)
halves n p = by (leb n (2 * p)) refl where
  by : (b : Bool) → leb n (2 * p) ≡ b → leb (n - n / 2) p ≡ b
  by true e = le-leb (n - n / 2) p (let h : n ≤ 2 * p = leb-true n (2 * p) e in omega arith)
  by false e = lt-leb (n - n / 2) p (let h : 2 * p < n = leb-false n (2 * p) e in omega arith)
