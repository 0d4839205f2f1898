-- `nib_expect::words::event_words`: one after the other.
use Rattle.nib_words.proofs.Desks.{and_then}
use Rattle.nib_expect.specs.Words.{event_words}
use Rattle.nib_expect.proofs.words.event_words.Goals as goal

pub returns : goal.returns
unfolding event_words
returns c =
    and_then c.say.ensures
    (and_then c.number.ensures
    (and_then c.say-2.ensures
    c.refused.ensures))
