-- `nib_explain::words::by_rules`: one rule more.
use Rattle.nib_explain.proofs.Lists.{ruling-turn, ruling-end}
use Rattle.nib_explain.proofs.words.by_rules.Goals as goal

pub loop-rule-preserved : goal.loop-rule-preserved
loop-rule-preserved c = ruling-turn _ _ _ _ _ _ c.loop-rule.invariant c.loop-rule-test.true c.rule_times.ensures

pub returns : goal.returns
returns c = ruling-end _ _ _ _ _ c.loop-rule.invariant c.loop-rule-test.false
