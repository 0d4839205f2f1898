-- `nib_words::say::with_number`: one after the other.
use Rattle.nib_words.proofs.Desks.{and_then}
use Rattle.nib_words.proofs.say.with_number.Goals as goal

pub returns : goal.returns
returns c = and_then c.say.ensures c.number.ensures
