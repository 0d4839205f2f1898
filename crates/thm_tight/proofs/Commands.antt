-- Laws of the command list that the ways go by. Each but the last is one test, computed at every first command of the list.
--     fresh        a first command is accepted after FFh by a part that offers everything
--     no_output    one that takes addresses shows nothing before them
--     waits-some   one that waits for a second command takes a column or a row
--     waits-plain  and asks for no copyback
--     data-shape   one that takes data takes a column and a row, and looks at its page
--     data-silent  and gives no status
--     needs-only   one that asks for a copyback closes none
--     page-only    one whose column is one of the parameter page is 05h within it
-- Assumes nothing.
use mathlib.Core.Path.{◌≡◌, refl}
use mathlib.Core.Bool.{Bool, true, false, ◌&&◌, ◌||◌, not, false≢true}
use Prim.Native.Nat.{ℕ}
use lib.Dec.{eqb, leb}
use borrow.Author.Tests.{not-true}
use Rattle.target.specs.Pick.{pick}
use Rattle.target.specs.Words.{bit_of}
use Rattle.target.specs.Commands.{row_of, byte_of, cycles_of, then_of, takes_column, takes_row, is_second, waits_second, is_data, takes_program_data, looks_of, closes_copyback, needs_copyback, gives_status, in_page, first_of, offered, second_of, second_row, class_of, is_first, is_known}
use Rattle.target.specs.declared.Words.{Words}
use Rattle.target.specs.declared.First.{First}
use Rattle.target.specs.declared.First.TheVariants.{Read, ChangeColumn, ChangeColumnEnhanced, Erase, Status, StatusEnhanced, Program, ReadId, ParameterPage, GetFeatures, SetFeatures, CopybackProgram, ChangeColumnInPage}
use Rattle.target.specs.declared.Output.TheVariants as output
use Rattle.target.specs.declared.commands.Then.{Then}
use Rattle.target.specs.declared.commands.Then.TheVariants as then
use Rattle.target.proofs.Both.{both3, both5}
use Rattle.target.proofs.Firsts.{each_first}
use Rattle.effects.specs.Effects.{first_output, shown}
use Rattle.thm_kept.proofs.Commands.{looks_at_page}
use Rattle.std.specs.Prelude.{Some}

-- every bit but that of the 16-bit bus
abbrev pub every : Words
every = record { features = 0xfffe; optional = 0xffff }

-- a first command after FFh
fresh-test : (f : First) → (is_known (class_of (byte_of f)) && offered every false (byte_of f) && is_first (class_of (byte_of f)) && not (eqb (byte_of f) 0xff) && leb (byte_of f) 255) ≡ true
unfolding row_of first_of offered second_of second_row class_of bit_of
fresh-test f = each_first (λ (x : First). is_known (class_of (byte_of x)) && offered every false (byte_of x) && is_first (class_of (byte_of x)) && not (eqb (byte_of x) 0xff) && leb (byte_of x) 255) refl f

pub fresh : (f : First) → (is_known (class_of (byte_of f)) ≡ true) × (offered every false (byte_of f) ≡ true) × (is_first (class_of (byte_of f)) ≡ true) × (not (eqb (byte_of f) 0xff) ≡ true) × (leb (byte_of f) 255 ≡ true)
fresh f = both5 (is_known (class_of (byte_of f))) (offered every false (byte_of f)) (is_first (class_of (byte_of f))) (not (eqb (byte_of f) 0xff)) (leb (byte_of f) 255) (fresh-test f)

-- where a is so, b is
modus : (a b : Bool) → (not a || b) ≡ true → a ≡ true → b ≡ true
modus true b h k = h
modus false b h k = absurd (false≢true k)

-- a command with addresses
abbrev pub addresses : First → Bool
addresses f = takes_column f || takes_row f || eqb (cycles_of f) 1

silent-test : (f : First) → (not (addresses f) || not (eqb (cycles_of f) 0)) ≡ true
unfolding row_of
silent-test f = each_first (λ (x : First). not (addresses x) || not (eqb (cycles_of x) 0)) refl f

pub no_output : (f : First) (selected : ℕ) → addresses f ≡ true → first_output selected (Some f) ≡ output.Nothing
no_output f selected h = by (eqb (cycles_of f) 0) (modus (addresses f) (not (eqb (cycles_of f) 0)) (silent-test f) h)
  where
    by : (b : Bool) → not b ≡ true → pick b (shown (then_of f) selected 0 output.Nothing) output.Nothing ≡ output.Nothing
    by true k = absurd (false≢true k)
    by false k = refl

waits-test : (f : First) → (not (waits_second f) || (takes_column f || takes_row f)) ≡ true
unfolding row_of
waits-test f = each_first (λ (x : First). not (waits_second x) || (takes_column x || takes_row x)) refl f

pub waits-some : (f : First) → waits_second f ≡ true → (takes_column f || takes_row f) ≡ true
waits-some f = modus (waits_second f) (takes_column f || takes_row f) (waits-test f)

plain-test : (f : First) → (not (waits_second f) || not (needs_copyback f)) ≡ true
unfolding row_of
plain-test f = each_first (λ (x : First). not (waits_second x) || not (needs_copyback x)) refl f

pub waits-plain : (f : First) → waits_second f ≡ true → needs_copyback f ≡ false
waits-plain f h = not-true (needs_copyback f) (modus (waits_second f) (not (needs_copyback f)) (plain-test f) h)

-- a command that takes data
shape-test : (f : First) → (not (takes_program_data f) || (takes_column f && takes_row f && looks_at_page (looks_of f))) ≡ true
unfolding row_of
shape-test f =
    each_first (λ (x : First). not (takes_program_data x) || (takes_column x && takes_row x && looks_at_page (looks_of x))) refl f

pub data-shape : (f : First) → takes_program_data f ≡ true
    → (takes_column f ≡ true) × (takes_row f ≡ true) × (looks_at_page (looks_of f) ≡ true)
data-shape f h =
    both3 (takes_column f) (takes_row f) (looks_at_page (looks_of f))
    (modus (takes_program_data f) (takes_column f && takes_row f && looks_at_page (looks_of f)) (shape-test f) h)

pub data-then : (next : Then) → is_data next ≡ true → next ≡ then.Data
data-then then.Second h = absurd (false≢true h)
data-then then.Data h = refl
data-then then.FeatureIn h = absurd (false≢true h)
data-then then.Status h = absurd (false≢true h)
data-then then.Id h = absurd (false≢true h)
data-then then.ParameterPage h = absurd (false≢true h)
data-then then.FeatureOut h = absurd (false≢true h)

pub data-silent : (f : First) → takes_program_data f ≡ true → gives_status f ≡ false
data-silent f h = rw (data-then (then_of f) h)

only-test : (f : First) → (not (needs_copyback f) || not (closes_copyback f)) ≡ true
unfolding row_of
only-test f = each_first (λ (x : First). not (needs_copyback x) || not (closes_copyback x)) refl f

pub needs-only : (f : First) → needs_copyback f ≡ true → closes_copyback f ≡ false
needs-only f h = not-true (closes_copyback f) (modus (needs_copyback f) (not (closes_copyback f)) (only-test f) h)

-- what follows a command that waits for a second one
pub waits-then : (next : Then) → is_second next ≡ true → next ≡ then.Second
waits-then then.Second h = refl
waits-then then.Data h = absurd (false≢true h)
waits-then then.FeatureIn h = absurd (false≢true h)
waits-then then.Status h = absurd (false≢true h)
waits-then then.Id h = absurd (false≢true h)
waits-then then.ParameterPage h = absurd (false≢true h)
waits-then then.FeatureOut h = absurd (false≢true h)

-- one command alone has a column of the parameter page
pub page-only : (f : First) → in_page f ≡ true → f ≡ ChangeColumnInPage
unfolding row_of
page-only Read h = absurd (false≢true h)
page-only ChangeColumn h = absurd (false≢true h)
page-only ChangeColumnEnhanced h = absurd (false≢true h)
page-only Erase h = absurd (false≢true h)
page-only Status h = absurd (false≢true h)
page-only StatusEnhanced h = absurd (false≢true h)
page-only Program h = absurd (false≢true h)
page-only ReadId h = absurd (false≢true h)
page-only ParameterPage h = absurd (false≢true h)
page-only GetFeatures h = absurd (false≢true h)
page-only SetFeatures h = absurd (false≢true h)
page-only CopybackProgram h = absurd (false≢true h)
page-only ChangeColumnInPage h = refl
