-- `nib_explain::words::by_rules`: the rules below have been told.
use Rattle.nib_explain.proofs.Lists.{Ruling}
use Rattle.nib_explain.proofs.words.by_rules.Given as goal

abbrev pub invariant-loop-rule : goal.invariant-loop-rule
invariant-loop-rule l = Ruling l.initial.desk l.desk l.counts l.told l.rule
