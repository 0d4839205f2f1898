-- `jobs::reading::job_at` meets its contract.
use Rattle.std.proofs.Common.{rules, ◌≡◌, ℕ, ◌<◌, ◌≤◌, arith}
use Rattle.jobs.proofs.Walks.{job-past, job-even, job-odd, job-none, job-found}
use Rattle.jobs.proofs.reading.job_at.Goals as goal

inside : (at n : ℕ) → at ≤ n → (n ≡ at → ⊥) → at < n
inside at n h other = grind arith

pub returns-then-n-at : goal.returns-then-n-at
returns-then-n-at c = job-past c.args.trace.now c.args.at c.if-n-at.true

pub returns-then-trace-eq0 : goal.returns-then-trace-eq0
returns-then-trace-eq0 c = job-even c.args.trace.now c.args.at c.if-n-at-2.true c.if-trace-eq0.true

pub returns-then-n-at-2 : goal.returns-then-n-at-2
returns-then-n-at-2 c = job-odd c.args.trace.now c.args.at c.if-n-at-2.true c.if-trace-eq0.false

pub returns-in_default : goal.returns-in_default
returns-in_default c =
    job-none c.args.trace.now c.args.at c.begins.result (inside _ _ c.if-n-at.false c.if-n-at-2.false) c.begins.ensures c.in_default.is

pub returns-in_err-next : goal.returns-in_err-next
returns-in_err-next c =
    let told = job-found c.args.trace.now c.args.at c.begins.result (inside _ _ c.if-n-at.false c.if-n-at-2.false) c.begins.ensures c.in-Some.first c.reach.result c.in-Some.is c.reach.ensures in
    rw (← told, c.in_err-next.was) (search rules)

pub returns : goal.returns
returns c =
    let told = job-found c.args.trace.now c.args.at c.begins.result (inside _ _ c.if-n-at.false c.if-n-at-2.false) c.begins.ensures c.in-Some.first c.reach.result c.in-Some.is c.reach.ensures in
    rw (← told, c.in_ok-next.was) (search rules)
