-- Two lists of c pieces of k bytes get the same bytes at the same place within their l-th piece: if they agreed on that piece they
-- still do, and every other piece stays.
-- Assumes nothing.
use mathlib.Core.Path.{◌≡◌, refl, sym}
use mathlib.Core.List.{List}
use Prim.Native.Nat.{ℕ, ◌+◌, ◌*◌, ◌≤◌, ◌<◌}
use native.Mathlib.Omega.{arith}
use lib.ListN.{length}
use Rattle.slices.specs.Cells.{splice, part}
use Rattle.slices.proofs.Splice.{part_apart, piece}
use Rattle.slices.proofs.Parts.{splices-alike}

pub data Edit (k l : ℕ) (xs ys : List ℕ) : List ℕ → List ℕ → Type 0 where
  as_is : Edit k l xs ys xs ys
  put : (at n : ℕ) (new : List ℕ) → l * k ≤ at → at + n ≤ l * k + k → length new ≡ n
      → Edit k l xs ys (splice xs at n new) (splice ys at n new)

-- the bytes are the same if they are equal
pub put-alike : {k l : ℕ} {xs ys : List ℕ} (at n : ℕ) (new newʳ : List ℕ) → new ≡ newʳ → l * k ≤ at → at + n ≤ l * k + k
    → length new ≡ n → Edit k l xs ys (splice xs at n new) (splice ys at n newʳ)
put-alike at n new newʳ e low high same = rw (← e) (put at n new low high same)

pub edit-flip : {k l : ℕ} {xs ys zs ws : List ℕ} → Edit k l xs ys zs ws → Edit k l ys xs ws zs
edit-flip as_is = as_is
edit-flip (put at n new low high same) = put at n new low high same

module _ (k c l : ℕ) (xs ys : List ℕ) (size : length xs ≡ c * k) (there : l < c) where
  pub edit-apart : {zs ws : List ℕ} (m : ℕ) → (m ≡ l → ⊥) → Edit k l xs ys zs ws → part zs (m * k) k ≡ part xs (m * k) k
  edit-apart m ne as_is = refl
  edit-apart m ne (put at n new low high same) =
      part_apart xs at n new (omega (arith, piece k there)) same k l m low high (λ q. ne (sym q))

  pub edit-alike : {zs ws : List ℕ} → length ys ≡ c * k → part xs (l * k) k ≡ part ys (l * k) k → Edit k l xs ys zs ws
      → part zs (l * k) k ≡ part ws (l * k) k
  edit-alike sizeʳ agree as_is = agree
  edit-alike sizeʳ agree (put at n new low high same) =
      splices-alike xs ys (l * k) k agree at n new low high (omega (arith, piece k there)) (omega (arith, piece k there)) same
