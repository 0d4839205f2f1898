-- `nib_expect::words::refusal_words`: one after the other.
use Rattle.nib_words.proofs.Desks.{and_then}
use Rattle.nib_expect.specs.Words.{refusal_words}
use Rattle.nib_expect.proofs.words.refusal_words.Goals as goal

pub returns : goal.returns
unfolding refusal_words
returns c =
    and_then c.say.ensures
    (and_then c.number.ensures
    (and_then c.say_if.ensures
    (and_then c.put.ensures
    (and_then c.say_if-2.ensures
    (and_then c.event_if.ensures
    c.last_if.ensures)))))
