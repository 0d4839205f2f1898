-- `nib_told::words::row_words`: one after the other.
use Rattle.nib_words.proofs.Desks.{and_then}
use Rattle.nib_told.specs.Words.{row_words}
use Rattle.nib_told.proofs.words.row_words.Goals as goal

pub returns : goal.returns
unfolding row_words
returns c = and_then c.say.ensures c.row_bytes.ensures
