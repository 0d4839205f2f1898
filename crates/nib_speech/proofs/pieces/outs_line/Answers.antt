-- `nib_speech::pieces::outs_line`: one after the other.
use Rattle.nib_words.proofs.Desks.{and_then}
use Rattle.nib_speech.specs.Pieces.{outs_line}
use Rattle.nib_speech.proofs.pieces.outs_line.Goals as goal

pub returns : goal.returns
unfolding outs_line
returns c =
    and_then c.say.ensures
    (and_then c.number.ensures
    c.put.ensures)
