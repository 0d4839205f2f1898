-- `nib_told::words::odd_words`: one after the other.
use Rattle.nib_words.proofs.Desks.{and_then}
use Rattle.nib_told.specs.Words.{odd_words}
use Rattle.nib_told.proofs.words.odd_words.Goals as goal

pub returns : goal.returns
unfolding odd_words
returns c = and_then c.say.ensures c.event.ensures
