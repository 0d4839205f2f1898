-- `nib_expect::words::ok_words`: one after the other.
use Rattle.nib_words.proofs.Desks.{and_then}
use Rattle.nib_expect.specs.Words.{ok_words}
use Rattle.nib_expect.proofs.words.ok_words.Goals as goal

pub returns : goal.returns
unfolding ok_words
returns c = and_then c.say.ensures c.event_words.ensures
