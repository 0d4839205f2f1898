-- Which copy the tests pick.
-- Assumes nothing.
use Rattle.std.proofs.Common.{◌≡◌, ℕ, zero, suc, ◌<◌, List, true, false, length, arith, Ok, Err}
use Rattle.std.proofs.lemmas.Bool.{eq-eqb}
use Rattle.page_check.specs.Check.{copy, good, on_copy, checked_of}
use Rattle.page_check.specs.declared.Unchecked.TheVariants.{NoGoodCopy}

pub chosen : (answer : List ℕ) (k : ℕ) → length answer ≡ 768 → k < 3 → ((j : ℕ) → j < k → good (copy answer j) ≡ false) → good (copy answer k) ≡ true → Ok (on_copy k (copy answer k)) ≡ checked_of answer
unfolding checked_of
chosen answer zero long three before h = rw (eq-eqb _ _ long, h)
chosen answer (suc zero) long three before h = rw (eq-eqb _ _ long, before 0 (omega arith), h)
chosen answer (suc (suc zero)) long three before h = rw (eq-eqb _ _ long, before 0 (omega arith), before 1 (omega arith), h)
chosen answer (suc (suc (suc k))) long three before h = absurd (omega arith)

pub none_good : (answer : List ℕ) → length answer ≡ 768 → ((j : ℕ) → j < 3 → good (copy answer j) ≡ false) → Err NoGoodCopy ≡ checked_of answer
unfolding checked_of
none_good answer long before = rw (eq-eqb _ _ long, before 0 (omega arith), before 1 (omega arith), before 2 (omega arith))
