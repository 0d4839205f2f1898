-- `nib_expect::words::failed_words`: one after the other.
use Rattle.nib_words.proofs.Desks.{and_then}
use Rattle.nib_expect.specs.Words.{failed_words}
use Rattle.nib_expect.proofs.words.failed_words.Goals as goal

pub returns : goal.returns
unfolding failed_words
returns c =
    and_then c.number.ensures
    (and_then c.say.ensures
    (and_then c.number-2.ensures
    c.say-2.ensures))
