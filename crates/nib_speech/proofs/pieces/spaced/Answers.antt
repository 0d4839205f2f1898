-- `nib_speech::pieces::spaced`: one after the other.
use Rattle.nib_words.proofs.Desks.{and_then}
use Rattle.nib_speech.proofs.pieces.spaced.Goals as goal

pub returns : goal.returns
returns c = and_then c.put.ensures c.hex.ensures
