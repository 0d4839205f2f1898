-- A page's first four bytes, compared as one: `signed_starts`.
-- Assumes nothing.
use Rattle.std.proofs.Common.{◌≡◌, refl, sym, ◌∙◌, ℕ, List, [], ◌∷◌, Bool, true, false, ◌&&◌}
use Rattle.std.specs.List.{starts_with}
use Rattle.std.specs.Prelude.{eqb}
use Rattle.std.proofs.lemmas.Bool.{eqb-true, eqb-false, ne_eqb}
use Rattle.page.specs.Page.{signed}

turned : (a b : ℕ) → eqb a b ≡ eqb b a
turned a b = side (eqb a b) refl where
  side : (t : Bool) → eqb a b ≡ t → eqb a b ≡ eqb b a
  side true e = rw (eqb-true a b e)
  side false e = e ∙ sym (ne_eqb b a (λ (s : b ≡ a). eqb-false a b e (sym s)))

-- a short page has zeros in place of its last letters
one : (a : Bool) → (a && false) ≡ (a && false && false && false)
one true = refl
one false = refl

two : (a b : Bool) → (a && (b && false)) ≡ (a && b && false && false)
two true true = refl
two true false = refl
two false b = refl

three : (a b c : Bool) → (a && (b && (c && false))) ≡ (a && b && c && false)
three true true true = refl
three true true false = refl
three true false c = refl
three false b c = refl

four : (a b c d : Bool) → (a && (b && (c && (d && true)))) ≡ (a && b && c && d)
four true true true true = refl
four true true true false = refl
four true true false d = refl
four true false c d = refl
four false b c d = refl

pub signed_starts : (page : List ℕ) → starts_with eqb page (0x4f ∷ (0x4e ∷ (0x46 ∷ (0x49 ∷ [])))) ≡ signed page
unfolding signed
signed_starts [] = refl
signed_starts (a ∷ []) = rw (turned 0x4f a) (one (eqb a 0x4f))
signed_starts (a ∷ (b ∷ [])) = rw (turned 0x4f a, turned 0x4e b) (two (eqb a 0x4f) (eqb b 0x4e))
signed_starts (a ∷ (b ∷ (c ∷ []))) = rw (turned 0x4f a, turned 0x4e b, turned 0x46 c) (three (eqb a 0x4f) (eqb b 0x4e) (eqb c 0x46))
signed_starts (a ∷ (b ∷ (c ∷ (d ∷ xs)))) = rw (turned 0x4f a, turned 0x4e b, turned 0x46 c, turned 0x49 d) (four (eqb a 0x4f) (eqb b 0x4e) (eqb c 0x46) (eqb d 0x49))
