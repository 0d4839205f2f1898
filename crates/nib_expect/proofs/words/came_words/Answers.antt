-- `nib_expect::words::came_words`: one after the other.
use Rattle.nib_words.proofs.Desks.{and_then}
use Rattle.nib_expect.specs.Words.{came_words}
use Rattle.nib_expect.proofs.words.came_words.Goals as goal

pub returns : goal.returns
unfolding came_words
returns c =
    rw (← c.is_empty.ensures)
    (and_then c.say_if.ensures
    (and_then c.bytes_words.ensures
    c.say.ensures))
