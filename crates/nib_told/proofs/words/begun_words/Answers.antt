-- `nib_told::words::begun_words`: one after the other.
use Rattle.nib_words.proofs.Desks.{and_then}
use Rattle.nib_told.specs.Words.{begun_words}
use Rattle.nib_told.proofs.words.begun_words.Goals as goal

pub returns : goal.returns
unfolding begun_words
returns c =
    rw (← c.up.ensures)
    (and_then c.say.ensures
    (and_then c.event.ensures
    (and_then c.say_if.ensures
    (and_then c.with_number_if.ensures
    c.say_if-2.ensures))))
