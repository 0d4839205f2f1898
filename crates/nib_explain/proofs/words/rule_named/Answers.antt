-- `nib_explain::words::rule_named`: one after the other.
use Rattle.nib_words.proofs.Desks.{and_then}
use Rattle.nib_explain.specs.Words.{rule_named}
use Rattle.nib_explain.proofs.words.rule_named.Goals as goal

pub returns : goal.returns
unfolding rule_named
returns c =
    rw (← c.separator.ensures)
    (and_then c.with_number.ensures
    c.with_number-2.ensures)
