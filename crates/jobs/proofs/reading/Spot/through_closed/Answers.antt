-- `jobs::reading::Spot::through_closed` meets its contract.
use native.Mathlib.Omega.{arith}
use mathlib.Core.Path.{sym, ◌∙◌}
use Rattle.jobs.proofs.Walks.{short-of-addresses, not-closed, closed}
use Rattle.jobs.proofs.reading.Spot.through_closed.Goals as goal

pub returns-then-a-n : goal.returns-then-a-n
returns-then-a-n c =
    short-of-addresses c.args.self.now.trace.now c.args.self.now.at c.args.n _ _ c.run-a.ensures.0 c.if-a-n.true

pub returns-then-not-is_command : goal.returns-then-not-is_command
returns-then-not-is_command c =
    not-closed c.args.self.now.trace.now c.args.self.now.at c.args.n _ _ c.args.closing c.args.takes c.args.gives c.run-a.ensures.0 c.if-a-n.false c.many-d.ensures.0 (sym c.is_command.ensures.value ∙ c.if-not-is_command.true)

pub many-o-requires : goal.many-o-requires
many-o-requires c =
    let inside = c.is_command.ensures.i_in_bounds c.if-not-is_command.false in
    omega arith

pub returns : goal.returns
returns c =
    closed c.args.self.now.trace.now c.args.self.now.at c.args.n _ _ c.args.closing c.args.takes c.args.gives c.run-a.ensures.0 c.if-a-n.false c.many-d.ensures.0 _ (sym c.is_command.ensures.value ∙ c.if-not-is_command.false) c.many-o.ensures.0
