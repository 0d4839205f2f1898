-- `nib_expect::words::last_words`: one after the other.
use Rattle.nib_words.proofs.Desks.{and_then}
use Rattle.nib_expect.specs.Words.{last_words}
use Rattle.nib_expect.proofs.words.last_words.Goals as goal

pub returns : goal.returns
unfolding last_words
returns c =
    and_then c.say.ensures
    (and_then c.number.ensures
    c.answer_words.ensures)
