-- The lists of first and of second commands have a row for each; what a test computes over the list holds of every first command;
-- the byte of a first command names it, unless it is 05h within the parameter page.
-- Assumes nothing.
use mathlib.Core.Path.{◌≡◌, refl, sym, ap, subst, ◌∙◌}
use mathlib.Core.Bool.{Bool, true, false, ◌&&◌, ◌||◌, false≢true}
use mathlib.Core.List.{List, [], ◌∷◌}
use Prim.Native.Nat.{ℕ, zero, suc, ◌<◌}
use native.Mathlib.Nat.{le_of_suc-le-suc, not-suc-le-zero}
use lib.Dec.{lit<, eqb}
use borrow.Author.Tests.{eqb-true}
use lib.ListN.{length, get_or}
use Rattle.target.specs.Commands.{first_commands, place_of, row_of, byte_of, in_page, end_of, other_end, first_of, second_of}
use Rattle.target.specs.Views.{ends_with}
use Rattle.target.specs.declared.First.{First}
use Rattle.target.specs.declared.First.TheVariants.{Read, ChangeColumn, ChangeColumnEnhanced, Erase, Status, StatusEnhanced, Program, ReadId, ParameterPage, GetFeatures, SetFeatures, CopybackProgram, ChangeColumnInPage}
use Rattle.target.proofs.Both.{both, other}
use Rattle.std.specs.Prelude.{None, Option, Some}
use Rattle.target.specs.declared.Second.{Second}

pub listed : (f : First) → place_of f < 13
listed Read = lit< tt
listed ChangeColumn = lit< tt
listed ChangeColumnEnhanced = lit< tt
listed Erase = lit< tt
listed Status = lit< tt
listed StatusEnhanced = lit< tt
listed Program = lit< tt
listed ReadId = lit< tt
listed ParameterPage = lit< tt
listed GetFeatures = lit< tt
listed SetFeatures = lit< tt
listed CopybackProgram = lit< tt
listed ChangeColumnInPage = lit< tt

-- each stands at its place
standing : (f : First) → get_or first_commands (place_of f) Read ≡ f
standing Read = refl
standing ChangeColumn = refl
standing ChangeColumnEnhanced = refl
standing Erase = refl
standing Status = refl
standing StatusEnhanced = refl
standing Program = refl
standing ReadId = refl
standing ParameterPage = refl
standing GetFeatures = refl
standing SetFeatures = refl
standing CopybackProgram = refl
standing ChangeColumnInPage = refl

abbrev pub every : (First → Bool) → List First → Bool
every p [] = true
every p (f ∷ fs) = p f && every p fs

at_place : (p : First → Bool) (fs : List First) (k : ℕ) → k < length fs → every p fs ≡ true → p (get_or fs k Read) ≡ true
at_place p [] k h all = absurd (not-suc-le-zero h)
at_place p (f ∷ fs) zero h all = (both (p f) (every p fs) all).0
at_place p (f ∷ fs) (suc k) h all = at_place p fs k (le_of_suc-le-suc h) (both (p f) (every p fs) all).1

-- a test that holds of each in the list holds of every first command
pub each_first : (p : First → Bool) → every p first_commands ≡ true → (f : First) → p f ≡ true
each_first p all f = subst (λ (x : First). p x ≡ true) (standing f) (at_place p first_commands (place_of f) (listed f) all)

-- and one that holds of both its second commands holds of whichever ends it
pub each-end : (p : First → Option Second → Bool)
    → every (λ (x : First). p x (second_of (end_of x)) && p x (second_of (other_end x))) first_commands ≡ true
    → (f : First) (v : ℕ) → ends_with f v ≡ true → p f (second_of v) ≡ true
each-end p all f v h = by_end (eqb v (end_of f)) refl
  where
    pair : (p f (second_of (end_of f)) ≡ true) × (p f (second_of (other_end f)) ≡ true)
    pair =
        both (p f (second_of (end_of f))) (p f (second_of (other_end f)))
        (each_first (λ (x : First). p x (second_of (end_of x)) && p x (second_of (other_end x))) all f)

    by_end : (b : Bool) → eqb v (end_of f) ≡ b → p f (second_of v) ≡ true
    by_end true q = subst (λ (n : ℕ). p f (second_of n) ≡ true) (sym (eqb-true v (end_of f) q)) pair.0
    by_end false q =
        subst (λ (n : ℕ). p f (second_of n) ≡ true)
        (sym (eqb-true v (other_end f) (other (eqb v (end_of f)) (eqb v (other_end f)) h q)))
        pair.1

-- a command that is found stands at this place
abbrev found_at : Option First → ℕ → Bool
found_at None n = false
found_at (Some f) n = eqb (place_of f) n

same_place : (f : First) (found : Option First) → found_at found (place_of f) ≡ true → found ≡ Some f
same_place f None h = absurd (false≢true h)
same_place f (Some x) h =
    let at : get_or first_commands (place_of x) Read ≡ get_or first_commands (place_of f) Read = ap (λ (n : ℕ). get_or first_commands n Read) (eqb-true (place_of x) (place_of f) h) in
    ap Some (sym (standing x) ∙ at ∙ standing f)

-- the byte of a first command names it, unless it is 05h within the parameter page
named-test : (f : First) → (in_page f || found_at (first_of (byte_of f)) (place_of f)) ≡ true
unfolding row_of first_of
named-test f = each_first (λ (x : First). in_page x || found_at (first_of (byte_of x)) (place_of x)) refl f

pub named : (f : First) → in_page f ≡ false → first_of (byte_of f) ≡ Some f
named f h =
    same_place f (first_of (byte_of f)) (other (in_page f) (found_at (first_of (byte_of f)) (place_of f)) (named-test f) h)
