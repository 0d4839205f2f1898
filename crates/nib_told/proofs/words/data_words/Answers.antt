-- `nib_told::words::data_words`: one after the other.
use Rattle.nib_words.proofs.Desks.{and_then}
use Rattle.nib_told.specs.Words.{data_words}
use Rattle.nib_told.proofs.words.data_words.Goals as goal

pub returns : goal.returns
unfolding data_words
returns c =
    rw (← c.data_name.ensures)
    (and_then c.say.ensures
    c.count_words.ensures)
