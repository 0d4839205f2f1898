-- `nib_expect::words::gave_words`: one after the other.
use Rattle.nib_words.proofs.Desks.{and_then}
use Rattle.nib_expect.specs.Words.{gave_words}
use Rattle.nib_expect.proofs.words.gave_words.Goals as goal

pub returns : goal.returns
unfolding gave_words
returns c = and_then c.say.ensures c.byte.ensures
