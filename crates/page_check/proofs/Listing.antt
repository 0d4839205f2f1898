-- The rules that are added one after the other are those that the list has.
-- Assumes nothing.
use mathlib.Core.Path.{◌≡◌, refl, sym, ap, ap₂, ◌∙◌}
use mathlib.Core.Bool.{Bool, true, false}
use mathlib.Core.List.{List, [], ◌∷◌, ◌++◌, append_assoc, append-nil}
use Prim.Native.Nat.{ℕ, zero, suc, ◌+◌, ◌≤◌, ◌<◌}
use native.Mathlib.Omega.{arith}
use borrow.Author.Tests.{lt-ltb}
use lib.ListN.{length, set, length-append}
use Rattle.page_check.specs.Check.{listed, padded, laid, added}
use Rattle.page_check.specs.declared.page_rules.Broken.{Broken}

-- a byte put at the first free place
put_last : (n : ℕ) (xs : List ℕ) (byte : ℕ) → length xs < n → set (padded n xs) (length xs) byte ≡ padded n (xs ++ byte ∷ [])
put_last zero xs byte h = absurd (omega arith)
put_last (suc n) [] byte h = refl
put_last (suc n) (x ∷ xs) byte h = ap (λ (l : List ℕ). x ∷ l) (put_last n xs byte (omega arith))

held : ℕ → List ℕ → Broken
held n bytes = record { count = n; bytes = bytes }

added-laid : (xs : List ℕ) (b : Bool) (byte : ℕ) → length xs < 5 → added (laid xs) b byte ≡ laid (xs ++ listed b byte [])
unfolding added listed held
added-laid xs true byte h =
    let one : length xs + 1 ≡ length (xs ++ byte ∷ []) = sym (length-append xs (byte ∷ [])) in
    rw (lt-ltb (length xs) 5 h) (ap₂ held one (put_last 5 xs byte h))
added-laid xs false byte h = ap laid (sym (append-nil xs))

-- the list grows by at most one
grown : (xs : List ℕ) (b : Bool) (byte n : ℕ) → length xs ≤ n → length (xs ++ listed b byte []) ≤ suc n
unfolding listed
grown xs true byte n h = rw (length-append xs (byte ∷ [])) (omega arith)
grown xs false byte n h = rw (append-nil xs) (omega arith)

joined : (b : Bool) (byte : ℕ) (later : List ℕ) → listed b byte [] ++ later ≡ listed b byte later
unfolding listed
joined true byte later = refl
joined false byte later = refl

pub five : (d p l m g : Bool) → added (added (added (added (added (laid []) d 80) p 92) l 100) m 106) g 110 ≡ laid (listed d 80 (listed p 92 (listed l 100 (listed m 106 (listed g 110 [])))))
five d p l m g =
    let x1 = listed d 80 [] in
    let x2 = x1 ++ listed p 92 [] in
    let x3 = x2 ++ listed l 100 [] in
    let x4 = x3 ++ listed m 106 [] in
    let flat : x4 ++ listed g 110 [] ≡ listed d 80 (listed p 92 (listed l 100 (listed m 106 (listed g 110 [])))) = simp append_assoc (simp joined) in
    let h1 = grown [] d 80 0 (omega arith) in
    let h2 = grown x1 p 92 1 h1 in
    let h3 = grown x2 l 100 2 h2 in
    let h4 = grown x3 m 106 3 h3 in
    ap (λ (b : Broken). added (added (added (added b p 92) l 100) m 106) g 110) (added-laid [] d 80 (omega arith))
    ∙ ap (λ (b : Broken). added (added (added b l 100) m 106) g 110) (added-laid x1 p 92 (omega arith))
    ∙ ap (λ (b : Broken). added (added b m 106) g 110) (added-laid x2 l 100 (omega arith))
    ∙ ap (λ (b : Broken). added b g 110) (added-laid x3 m 106 (omega arith))
    ∙ added-laid x4 g 110 (omega arith)
    ∙ ap laid flat
