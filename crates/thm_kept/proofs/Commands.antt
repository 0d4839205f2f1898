-- What the rows of the two command lists have in common. Each law is one test, computed at every first command of the list, so
-- that one more costs nothing here.
--     row-looks       a command that takes a row looks at its LUN
--     data-row        one that takes data takes a row, and looks at its page
--     data-outside    and its column is none of the parameter page
--     starts-rowed    a second command that ends a first one starts work only where there is a row
--     never-moves     and is not 85h
-- Assumes nothing.
use mathlib.Core.Path.{◌≡◌, refl, subst}
use Prim.Native.Nat.{ℕ}
use mathlib.Core.Bool.{Bool, true, false, ◌&&◌, ◌||◌, not, false≢true}
use borrow.Author.Tests.{not-true}
use Rattle.target.specs.Commands.{row_of, looks_of, then_of, takes_row, waits_second, is_data, in_page, second_of, second_row}
use Rattle.target.specs.Views.{ends_with}
use Rattle.target.specs.declared.First.{First}
use Rattle.target.specs.declared.Second.{Second}
use Rattle.target.specs.declared.commands.Looks.{Looks}
use Rattle.target.specs.declared.commands.Looks.TheVariants as looks
use Rattle.target.proofs.Both.{both}
use Rattle.target.proofs.Firsts.{each_first, each-end}
use Rattle.effects.specs.Effects.{is_move}
use Rattle.std.specs.Prelude.{None, Option, Some}

-- where a is so, b is
abbrev implied : Bool → Bool → Bool
implied a b = not a || b

modus : (a b : Bool) → implied a b ≡ true → a ≡ true → b ≡ true
modus true b h k = h
modus false b h k = absurd (false≢true k)

-- The row.

abbrev pub looks_at_lun : Looks → Bool
looks_at_lun looks.Nothing = false
looks_at_lun looks.Lun = true
looks_at_lun looks.Block = true
looks_at_lun looks.Page = true

abbrev pub looks_at_page : Looks → Bool
looks_at_page looks.Nothing = false
looks_at_page looks.Lun = false
looks_at_page looks.Block = false
looks_at_page looks.Page = true

row-test : (f : First) → implied (takes_row f) (looks_at_lun (looks_of f)) ≡ true
unfolding row_of
row-test f = each_first (λ (x : First). implied (takes_row x) (looks_at_lun (looks_of x))) refl f

pub row-looks : (f : First) → takes_row f ≡ true → looks_at_lun (looks_of f) ≡ true
row-looks f = modus (takes_row f) (looks_at_lun (looks_of f)) (row-test f)

data-test : (f : First) → implied (is_data (then_of f)) (takes_row f && looks_at_page (looks_of f)) ≡ true
unfolding row_of
data-test f = each_first (λ (x : First). implied (is_data (then_of x)) (takes_row x && looks_at_page (looks_of x))) refl f

pub data-row : (f : First) → is_data (then_of f) ≡ true → (takes_row f ≡ true) × (looks_at_page (looks_of f) ≡ true)
data-row f h =
    both (takes_row f) (looks_at_page (looks_of f)) (modus (is_data (then_of f)) (takes_row f && looks_at_page (looks_of f)) (data-test f) h)

outside-test : (f : First) → implied (is_data (then_of f)) (not (in_page f)) ≡ true
unfolding row_of
outside-test f = each_first (λ (x : First). implied (is_data (then_of x)) (not (in_page x))) refl f

pub data-outside : (f : First) → is_data (then_of f) ≡ true → in_page f ≡ false
data-outside f h = not-true (in_page f) (modus (is_data (then_of f)) (not (in_page f)) (outside-test f) h)

-- The second command that a first one waits for.

abbrev starts_found : Option Second → Bool
starts_found None = false
starts_found (Some s) = (second_row s).starts

abbrev moves_found : Option Second → Bool
moves_found None = false
moves_found (Some s) = is_move (second_row s).act

abbrev starts_rowed : First → Option Second → Bool
starts_rowed f k = implied (waits_second f && starts_found k) (takes_row f)

abbrev never_moves : First → Option Second → Bool
never_moves f k = implied (waits_second f) (not (moves_found k))

starts_test : (f : First) (v : ℕ) → ends_with f v ≡ true → starts_rowed f (second_of v) ≡ true
unfolding row_of second_of second_row
starts_test f v h = each-end starts_rowed refl f v h

moves-test : (f : First) (v : ℕ) → ends_with f v ≡ true → never_moves f (second_of v) ≡ true
unfolding row_of second_of second_row
moves-test f v h = each-end never_moves refl f v h

module _ (f : First) (waits : waits_second f ≡ true) (v : ℕ) (fits : ends_with f v ≡ true) (s : Second) (told : second_of v ≡ Some s) where
  pub starts-rowed : (second_row s).starts ≡ true → takes_row f ≡ true
  starts-rowed h =
      modus (waits_second f && starts_found (second_of v)) (takes_row f) (starts_test f v fits) (rw (waits, told) h)

  pub never-moves : not (is_move (second_row s).act) ≡ true
  never-moves =
      subst (λ (x : Option Second). not (moves_found x) ≡ true) told
      (modus (waits_second f) (not (moves_found (second_of v))) (moves-test f v fits) waits)
