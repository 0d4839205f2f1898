-- `nib_told::words::alone_words`: one after the other.
use Rattle.nib_words.proofs.Desks.{and_then}
use Rattle.nib_told.specs.Words.{alone_words}
use Rattle.nib_told.proofs.words.alone_words.Goals as goal

pub returns : goal.returns
unfolding alone_words
returns c = and_then c.say_if.ensures c.times_words.ensures
