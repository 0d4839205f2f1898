-- `nib_explain::words::status_reply`: one after the other.
use Rattle.nib_words.proofs.Desks.{and_then}
use Rattle.nib_explain.specs.Words.{status_reply}
use Rattle.nib_explain.proofs.words.status_reply.Goals as goal

pub returns : goal.returns
unfolding status_reply
returns c =
    and_then c.say.ensures
    (and_then c.byte.ensures
    (and_then c.say-2.ensures
    c.status_words.ensures))
