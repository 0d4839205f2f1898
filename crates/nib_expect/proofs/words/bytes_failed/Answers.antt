-- `nib_expect::words::bytes_failed`: one after the other.
use Rattle.nib_words.proofs.Desks.{and_then}
use Rattle.nib_expect.specs.Words.{bytes_failed}
use Rattle.nib_expect.proofs.words.bytes_failed.Goals as goal

pub returns : goal.returns
unfolding bytes_failed
returns c =
    and_then c.say.ensures
    (and_then c.bytes_words.ensures
    (and_then c.put.ensures
    c.instead_words.ensures))
