-- `nib_told::words::row_bytes`: one after the other.
use Rattle.nib_words.proofs.Desks.{and_then}
use Rattle.nib_told.specs.Words.{row_bytes}
use Rattle.nib_told.proofs.words.row_bytes.Goals as goal

pub returns : goal.returns
unfolding row_bytes
returns c =
    and_then c.hex.ensures
    (and_then c.hex-2.ensures
    c.byte.ensures)
