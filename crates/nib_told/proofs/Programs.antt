-- Whether a program is open at a place, found from the place backwards.
--     behind-start     no record stands before the first
--     behind-command   the record before it is a command
--     behind-other     the record before it is none
-- Assumes nothing.
use mathlib.Core.Path.{◌≡◌}
use mathlib.Core.Bool.{false, ◌||◌}
use mathlib.Core.List.{List}
use Prim.Native.Nat.{ℕ, suc}
use lib.Dec.{eqb}
use borrow.Author.Tests.{ne_eqb}
use Rattle.nib_told.specs.Lines.{kind_at, value_at, in_program}

pub behind-start : (trace : List ℕ) (i : ℕ) → i ≡ 0 → in_program trace i ≡ false
unfolding in_program
behind-start trace i e = rw (e)

pub behind-command : (trace : List ℕ) (i n : ℕ) → i ≡ suc n → kind_at trace n ≡ 0
    → in_program trace i ≡ (eqb (value_at trace n) 128 || eqb (value_at trace n) 133)
unfolding in_program
behind-command trace i n e h = rw (e, h)

pub behind-other : (trace : List ℕ) (i n : ℕ) → i ≡ suc n → (kind_at trace n ≡ 0 → ⊥) → in_program trace i ≡ in_program trace n
unfolding in_program
behind-other trace i n e h = rw (e, ne_eqb _ _ h)
