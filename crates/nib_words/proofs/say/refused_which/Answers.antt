-- `nib_words::say::refused_which`: one after the other.
use Rattle.nib_words.proofs.Desks.{and_then}
use Rattle.nib_words.proofs.say.refused_which.Goals as goal

pub returns : goal.returns
returns c = and_then c.refused.ensures c.which.ensures
