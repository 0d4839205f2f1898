-- `nib_speech::pieces::spaced_number`: one after the other.
use Rattle.nib_words.proofs.Desks.{and_then}
use Rattle.nib_speech.proofs.pieces.spaced_number.Goals as goal

pub returns : goal.returns
returns c = and_then c.put.ensures c.number.ensures
