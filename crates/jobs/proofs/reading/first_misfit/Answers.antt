-- `jobs::reading::first_misfit` meets its contract.
use Rattle.std.proofs.Common.{rules, ◌∙◌, ap, arith, Ok}
use Rattle.jobs.proofs.Walks.{walking, walked_end, walked-misfit, walked-ahead, walked_on}
use Rattle.jobs.proofs.reading.first_misfit.Goals as goal

pub loop-found-init : goal.loop-found-init
loop-found-init c = walking _

pub returns-in_err-found : goal.returns-in_err-found
returns-in_err-found c =
    let told = walked-misfit c.args.trace.now c.loop-found.at c.loop-found.invariant _ c.job_at.ensures _ c.in_err-found.was in
    rw (← told) (search rules)

pub loop-found-smaller : goal.loop-found-smaller
loop-found-smaller c =
    let on = walked-ahead c.args.trace.now c.loop-found.at c.loop-found.invariant _ c.job_at.ensures _ (c.in_ok-found.was ∙ ap Ok c.in-Some.is) in
    omega arith

pub loop-found-preserved : goal.loop-found-preserved
loop-found-preserved c =
    walked_on c.args.trace.now c.loop-found.at c.loop-found.invariant _ c.job_at.ensures _ (c.in_ok-found.was ∙ ap Ok c.in-Some.is)

pub returns : goal.returns
returns c =
    walked_end c.args.trace.now c.loop-found.at c.loop-found.invariant _ c.job_at.ensures (c.in_ok-found.was ∙ ap Ok c.in_default.is)
