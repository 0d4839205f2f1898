-- `jobs::reading::Spot::run` meets its contract.
use Rattle.std.proofs.Common.{sym, ◌∙◌, ◌+◌, ◌*◌, ◌≤◌, length, arith}
use Rattle.jobs.proofs.Runs.{counting-none, counting_more, counting-stop, counting-end, counted-from}
use Rattle.jobs.proofs.reading.Spot.run.Goals as goal

pub loop-k-init : goal.loop-k-init
loop-k-init c = counting-none _ _ _ _

pub returns-then-not-of_kind : goal.returns-then-not-of_kind
returns-then-not-of_kind c =
    let s = c.args.self.now in
    let room : 2 * (s.at + c.min-left.result) ≤ length s.trace.now = omega (arith, c.min-left.ensures, s.within) in
    counted-from c.args.kind s.trace.now s.at c.args.most _ _ s.within c.min-left.ensures
    (counting-stop c.args.kind s.trace.now s.at c.min-left.result _ c.loop-k.invariant room c.loop-k-test.true (sym c.of_kind.ensures ∙ c.if-not-of_kind.true))

pub loop-k-preserved : goal.loop-k-preserved
loop-k-preserved c =
    let s = c.args.self.now in
    let room : 2 * (s.at + c.min-left.result) ≤ length s.trace.now = omega (arith, c.min-left.ensures, s.within) in
    counting_more c.args.kind s.trace.now s.at c.min-left.result _ c.loop-k.invariant room c.loop-k-test.true (sym c.of_kind.ensures ∙ c.if-not-of_kind.false)

pub returns : goal.returns
returns c =
    let s = c.args.self.now in
    counted-from c.args.kind s.trace.now s.at c.args.most _ _ s.within c.min-left.ensures
    (counting-end c.args.kind s.trace.now s.at c.min-left.result _ c.loop-k.invariant c.loop-k-test.false)
