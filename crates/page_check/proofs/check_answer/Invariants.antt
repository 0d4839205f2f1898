-- `page_check::check_answer` meets its contract. The invariant: no copy before k is good.
use Rattle.std.proofs.Common.{◌≡◌, ℕ, ◌<◌, false}
use Rattle.page_check.specs.Check.{copy, good}
use Rattle.page_check.proofs.check_answer.Given as goal

abbrev pub invariant-loop-k : goal.invariant-loop-k
invariant-loop-k l = (j : ℕ) → j < l.k → good (copy l.answer j) ≡ false
