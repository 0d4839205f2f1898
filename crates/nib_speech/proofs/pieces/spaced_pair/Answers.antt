-- `nib_speech::pieces::spaced_pair`: one after the other.
use Rattle.nib_words.proofs.Desks.{and_then}
use Rattle.nib_speech.proofs.pieces.spaced_pair.Goals as goal

pub returns : goal.returns
returns c = and_then c.spaced.ensures c.spaced-2.ensures
