-- `nib_explain::words::polled_words`: one after the other.
use Rattle.nib_words.proofs.Desks.{and_then}
use Rattle.nib_explain.specs.Words.{polled_words}
use Rattle.nib_explain.proofs.words.polled_words.Goals as goal

pub returns : goal.returns
unfolding polled_words
returns c =
    and_then c.say.ensures
    (and_then c.with_number_if.ensures
    c.say_if.ensures)
