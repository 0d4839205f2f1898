-- `nib_expect::words::script_words`: one after the other.
use Rattle.nib_words.proofs.Desks.{and_then}
use Rattle.nib_expect.specs.Words.{script_words}
use Rattle.nib_expect.proofs.words.script_words.Goals as goal

pub returns : goal.returns
unfolding script_words
returns c =
    and_then c.number.ensures
    (and_then c.say.ensures
    (and_then c.put_if.ensures
    (and_then c.say-2.ensures
    (and_then c.number-2.ensures
    (and_then c.say-3.ensures
    c.put_if-2.ensures)))))
