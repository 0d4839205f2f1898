-- `nib_words::say::with_byte`: one after the other.
use Rattle.nib_words.proofs.Desks.{and_then}
use Rattle.nib_words.proofs.say.with_byte.Goals as goal

pub returns : goal.returns
returns c = and_then c.say.ensures c.byte.ensures
