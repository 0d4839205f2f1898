-- `page_check::check_answer` meets its contract.
use Rattle.std.proofs.Common.{◌≡◌, ◌∙◌, sym, ◌+◌, ◌-◌, ◌*◌, arith}
use Rattle.page_check.proofs.Chosen.{chosen, none_good}
use Rattle.page_check.proofs.check_answer.Goals as goal

pub returns-then-is_good : goal.returns-then-is_good
returns-then-is_good c =
    let k = c.loop-k.k in
    let size : 256 * (k + 1) - 256 * k ≡ 256 = omega arith in
    rw (c.on_copy.ensures, size) (chosen c.args.answer.now k c.if-answer-ne768.false (omega arith) c.loop-k.invariant (rw (size) at (sym c.is_good.ensures ∙ c.if-is_good.true)))

pub returns : goal.returns
returns c =
    none_good c.args.answer.now c.if-answer-ne768.false (λ j h. c.loop-k.invariant j (omega arith))
