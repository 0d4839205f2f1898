-- `nib_told::words::count_words`: one after the other.
use Rattle.nib_words.proofs.Desks.{and_then}
use Rattle.nib_told.specs.Words.{count_words}
use Rattle.nib_told.proofs.words.count_words.Goals as goal

pub returns : goal.returns
unfolding count_words
returns c =
    and_then c.with_number.ensures
    (and_then c.say.ensures
    c.put_if.ensures)
