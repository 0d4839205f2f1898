-- The promise of A8, read off the definitions: a byte is listed just where its rule is broken (`exactly`), bytes rise (`rising`), a copy that
-- is picked is good and none before it is (`first_good`), and no good copy is answered only where there is none (`only_then`).
-- Assumes nothing.
use mathlib.Core.Path.{◌≡◌, refl, sym, ap, ◌∙◌}
use mathlib.Core.Bool.{Bool, true, false, ◌&&◌, ◌||◌, not, cond, and-eq-true_iff}
use mathlib.Core.List.{List, [], ◌∷◌}
use Prim.Native.Nat.{ℕ, zero, suc, ◌≤◌, ◌<◌}
use native.Mathlib.Omega.{arith}
use borrow.Author.Tests.{lt-ltb, ltb-true, eqb-true, not-false}
use lib.Dec.{eqb, ltb}
use lib.ListN.{length}
use Rattle.std.specs.Prelude.{Result, Ok, Err}
use Rattle.page_check.specs.Check.{copy, good, data_broken, pages_broken, luns_broken, multiplier_broken, programs_broken, listed, broken_rules, on_copy, checked_of}
use Rattle.page_check.specs.declared.Unchecked.{Unchecked}
use Rattle.page_check.specs.declared.Unchecked.TheVariants.{Length, NoGoodCopy}
use Rattle.page_check.specs.declared.Checked.{Checked}

-- a byte stands in a list
unfoldable pub is_in : ℕ → List ℕ → Bool
is_in byte [] = false
is_in byte (x ∷ xs) = eqb byte x || is_in byte xs

-- the rule of a byte, if it has one, is broken
unfoldable pub broken_at : List ℕ → ℕ → Bool
broken_at page byte =
    data_broken page && eqb byte 80
    || (pages_broken page && eqb byte 92
    || (luns_broken page && eqb byte 100
    || (multiplier_broken page && eqb byte 106
    || (programs_broken page && eqb byte 110
    || false))))

in-listed : (b : Bool) (x byte : ℕ) (later : List ℕ) → is_in byte (listed b x later) ≡ (b && eqb byte x || is_in byte later)
unfolding is_in listed
in-listed true x byte later = refl
in-listed false x byte later = refl

in-none : (byte : ℕ) → is_in byte [] ≡ false
unfolding is_in
in-none byte = refl

-- none missing, none made up
pub exactly : (page : List ℕ) (byte : ℕ) → is_in byte (broken_rules page) ≡ broken_at page byte
unfolding broken_rules broken_at
exactly page byte = rw (in-listed, in-listed, in-listed, in-listed, in-listed, in-none)

-- each above the one before, and the first above `low`
unfoldable pub rises_from : ℕ → List ℕ → Bool
rises_from low [] = true
rises_from low (x ∷ xs) = ltb low x && rises_from x xs

lower : (low high : ℕ) (xs : List ℕ) → low ≤ high → rises_from high xs ≡ true → rises_from low xs ≡ true
unfolding rises_from
lower low high [] h r = refl
lower low high (x ∷ xs) h r =
    let p = (and-eq-true_iff (ltb high x) (rises_from x xs)).0 r in
    let above = ltb-true high x p.0 in
    rw (lt-ltb low x (omega arith)) p.1

rises-listed : (low x : ℕ) (b : Bool) (later : List ℕ) → low < x → rises_from x later ≡ true → rises_from low (listed b x later) ≡ true
unfolding rises_from listed
rises-listed low x true later h r = rw (lt-ltb low x h) r
rises-listed low x false later h r = lower low x later (omega arith) r

rises-none : (low : ℕ) → rises_from low [] ≡ true
unfolding rises_from
rises-none low = refl

-- in byte order
pub rising : (page : List ℕ) → rises_from 0 (broken_rules page) ≡ true
unfolding broken_rules
rising page =
    rises-listed 0 80 (data_broken page) _ (omega arith)
    (rises-listed 80 92 (pages_broken page) _ (omega arith)
    (rises-listed 92 100 (luns_broken page) _ (omega arith)
    (rises-listed 100 106 (multiplier_broken page) _ (omega arith)
    (rises-listed 106 110 (programs_broken page) _ (omega arith)
    (rises-none 110)))))

-- which copy is picked, or why none
abbrev pub picked : Result Checked Unchecked → Result ℕ Unchecked
picked (Ok c) = Ok c.copy
picked (Err why) = Err why

-- the same, by the tests alone
abbrev picked_by : Bool → Bool → Bool → Bool → Result ℕ Unchecked
picked_by h a b c = cond h (Err Length) (cond a (Ok 0) (cond b (Ok 1) (cond c (Ok 2) (Err NoGoodCopy))))

of-chosen : (h a b c : Bool) (x p q r y : Result Checked Unchecked) → picked (cond h x (cond a p (cond b q (cond c r y)))) ≡ cond h (picked x) (cond a (picked p) (cond b (picked q) (cond c (picked r) (picked y))))
of-chosen true a b c x p q r y = refl
of-chosen false true b c x p q r y = refl
of-chosen false false true c x p q r y = refl
of-chosen false false false true x p q r y = refl
of-chosen false false false false x p q r y = refl

picked-by : (answer : List ℕ) → picked (checked_of answer) ≡ picked_by (not (eqb (length answer) 768)) (good (copy answer 0)) (good (copy answer 1)) (good (copy answer 2))
unfolding checked_of on_copy
picked-by answer =
    of-chosen (not (eqb (length answer) 768)) (good (copy answer 0)) (good (copy answer 1)) (good (copy answer 2))
    (Err Length) (Ok (on_copy 0 (copy answer 0))) (Ok (on_copy 1 (copy answer 1))) (Ok (on_copy 2 (copy answer 2))) (Err NoGoodCopy)

-- the three kinds apart, and a copy's number
kind : Result ℕ Unchecked → ℕ
kind (Err Length) = 0
kind (Err NoGoodCopy) = 1
kind (Ok k) = 2

number : Result ℕ Unchecked → ℕ
number (Err why) = 0
number (Ok k) = k

-- the answer is of the right length, and no copy of it is good
pub record NoneGood (answer : List ℕ) : Type 0 where
  pub right-length : length answer ≡ 768
  pub bad-0 : good (copy answer 0) ≡ false
  pub bad-1 : good (copy answer 1) ≡ false
  pub bad-2 : good (copy answer 2) ≡ false

record Four (h a b c : Bool) : Type 0 where
  1st : h ≡ false
  2nd : a ≡ false
  3rd : b ≡ false
  4th : c ≡ false

all-false : (h a b c : Bool) → picked_by h a b c ≡ Err NoGoodCopy → Four h a b c
unfolding kind
all-false true a b c e = absurd (let z = ap kind e in omega arith)
all-false false true b c e = absurd (let z = ap kind e in omega arith)
all-false false false true c e = absurd (let z = ap kind e in omega arith)
all-false false false false true e = absurd (let z = ap kind e in omega arith)
all-false false false false false e = record { 1st = refl; 2nd = refl; 3rd = refl; 4th = refl }

-- no good copy is answered only then
pub only_then : (answer : List ℕ) → picked (checked_of answer) ≡ Err NoGoodCopy → NoneGood answer
only_then answer e =
    let f = all-false (not (eqb (length answer) 768)) (good (copy answer 0)) (good (copy answer 1)) (good (copy answer 2)) (sym (picked-by answer) ∙ e) in
    record {
      right-length = eqb-true (length answer) 768 (not-false (eqb (length answer) 768) f.1st);
      bad-0 = f.2nd;
      bad-1 = f.3rd;
      bad-2 = f.4th;
    }

-- copy k is good, and none before it is
pub record FirstGood (answer : List ℕ) (k : ℕ) : Type 0 where
  pub one_of_three : k < 3
  pub is-good : good (copy answer k) ≡ true
  pub none_before : (j : ℕ) → j < k → good (copy answer j) ≡ false

one : (g : ℕ → Bool) → g 0 ≡ false → (j : ℕ) → j < 1 → g j ≡ false
one g a zero l = a
one g a (suc j) l = absurd (omega arith)

two : (g : ℕ → Bool) → g 0 ≡ false → g 1 ≡ false → (j : ℕ) → j < 2 → g j ≡ false
two g a b zero l = a
two g a b (suc zero) l = b
two g a b (suc (suc j)) l = absurd (omega arith)

first-of : (answer : List ℕ) (h a b c : Bool) (k : ℕ) → good (copy answer 0) ≡ a → good (copy answer 1) ≡ b → good (copy answer 2) ≡ c → picked_by h a b c ≡ Ok k → FirstGood answer k
unfolding kind number
first-of answer true a b c k x y z e = absurd (let n = ap kind e in omega arith)
first-of answer false true b c k x y z e =
    let n : 0 ≡ k = ap number e in
    rw (← n) (record { one_of_three = omega arith; is-good = x; none_before = λ j l. absurd (omega arith) })
first-of answer false false true c k x y z e =
    let n : 1 ≡ k = ap number e in
    rw (← n) (record { one_of_three = omega arith; is-good = y; none_before = one (λ j. good (copy answer j)) x })
first-of answer false false false true k x y z e =
    let n : 2 ≡ k = ap number e in
    rw (← n) (record { one_of_three = omega arith; is-good = z; none_before = two (λ j. good (copy answer j)) x y })
first-of answer false false false false k x y z e = absurd (let n = ap kind e in omega arith)

-- the first good copy is the one that is picked
pub first_good : (answer : List ℕ) (k : ℕ) → picked (checked_of answer) ≡ Ok k → FirstGood answer k
first_good answer k e =
    first-of answer (not (eqb (length answer) 768)) (good (copy answer 0)) (good (copy answer 1)) (good (copy answer 2)) k refl refl refl (sym (picked-by answer) ∙ e)
