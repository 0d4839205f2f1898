-- `nib_told::words::phrase_words`: one after the other.
use Rattle.nib_words.proofs.Desks.{and_then}
use Rattle.nib_told.specs.Words.{phrase_words}
use Rattle.nib_told.proofs.words.phrase_words.Goals as goal

pub returns : goal.returns
unfolding phrase_words
returns c =
    rw (← c.name_words.ensures)
    (and_then c.say.ensures
    (and_then c.place_words.ensures
    (and_then c.column_words.ensures
    (and_then c.bytes_words.ensures
    c.say_if.ensures))))
