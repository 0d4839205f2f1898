-- `nib_explain::words::tally_words`: one after the other.
use Rattle.nib_words.proofs.Desks.{and_then}
use Rattle.nib_explain.specs.Words.{tally_words}
use Rattle.nib_explain.proofs.words.tally_words.Goals as goal

pub returns : goal.returns
unfolding tally_words
returns c =
    rw (← c.number_at-accepted.ensures, ← c.saturating_sub.ensures)
    (and_then c.number.ensures
    (and_then c.say.ensures
    (and_then c.put_if.ensures
    (and_then c.with_number.ensures
    (and_then c.with_number-2.ensures
    (and_then c.say-2.ensures
    c.by_rules.ensures))))))
