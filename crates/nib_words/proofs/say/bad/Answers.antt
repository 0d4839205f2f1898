-- `nib_words::say::bad`: one after the other.
use Rattle.nib_words.proofs.Desks.{and_then}
use Rattle.nib_words.specs.Say.{bad_words}
use Rattle.nib_words.proofs.say.bad.Goals as goal

pub returns : goal.returns
unfolding bad_words
returns c =
    and_then c.say.ensures
    (and_then c.hex.ensures
    (and_then c.put.ensures
    c.hex-2.ensures))
