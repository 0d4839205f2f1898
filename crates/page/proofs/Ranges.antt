-- `contains` of a range with both ends, at numbers: each end is a comparison.
-- Assumes nothing.
use Rattle.std.proofs.Common.{◌≡◌, refl, sym, ℕ, ◌≤◌, ◌<◌, Bool, true, false, nat_cmp, is_le, arith}
use Rattle.std.proofs.lemmas.Bool.{ltb-true, ltb-false, eqb-true, eqb-false, le-leb, lt-leb}
use lib.Dec.{leb, ltb, eqb}

pub within : (a b : ℕ) → is_le (nat_cmp a b) ≡ leb a b
within a b = by-less (ltb a b) refl where
  by-equal : b ≤ a → (e : Bool) → eqb a b ≡ e → ltb a b ≡ false → is_le (nat_cmp a b) ≡ leb a b
  by-equal h true e l = let low : a ≤ b = (let same : a ≡ b = eqb-true a b e in omega arith) in rw (l, e) (sym (le-leb a b low))
  by-equal h false e l = let high : b < a = (let other = eqb-false a b e in grind arith) in rw (l, e) (sym (lt-leb a b high))

  by-less : (t : Bool) → ltb a b ≡ t → is_le (nat_cmp a b) ≡ leb a b
  by-less true e = rw (e) (sym (le-leb a b (let h : a < b = ltb-true a b e in omega arith)))
  by-less false e = by-equal (ltb-false a b e) (eqb a b) refl e
