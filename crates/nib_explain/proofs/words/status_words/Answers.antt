-- `nib_explain::words::status_words`: one after the other.
use Rattle.nib_words.proofs.Desks.{and_then}
use Rattle.nib_explain.specs.Words.{status_words}
use Rattle.nib_explain.proofs.words.status_words.Goals as goal

pub returns : goal.returns
unfolding status_words
returns c =
    rw (← c.ready_name.ensures)
    (and_then c.say.ensures
    (and_then c.say_if.ensures
    c.say_if-2.ensures))
