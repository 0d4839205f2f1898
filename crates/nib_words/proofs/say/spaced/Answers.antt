-- `nib_words::say::spaced`: one after the other.
use Rattle.nib_words.proofs.Desks.{and_then}
use Rattle.nib_words.proofs.say.spaced.Goals as goal

pub returns : goal.returns
returns c = and_then c.put.ensures c.byte.ensures
