-- `nib_speech::pieces::piece_words`: one after the other.
use Rattle.nib_words.proofs.Desks.{and_then}
use Rattle.nib_speech.specs.Pieces.{piece_words}
use Rattle.nib_speech.proofs.pieces.piece_words.Goals as goal

pub returns : goal.returns
unfolding piece_words
returns c =
    rw (← c.letter_words.ensures)
    (and_then c.counted_outs.ensures
    (and_then c.put_if.ensures
    (and_then c.say.ensures
    c.value.ensures)))
