-- `nib_expect::words::refused_last`: one after the other.
use Rattle.nib_words.proofs.Desks.{and_then}
use Rattle.nib_expect.specs.Words.{refused_last}
use Rattle.nib_expect.proofs.words.refused_last.Goals as goal

pub returns : goal.returns
unfolding refused_last
returns c = and_then c.say.ensures c.refused.ensures
