-- `nib_explain::words::row_at`: one after the other.
use Rattle.nib_words.proofs.Desks.{and_then}
use Rattle.nib_explain.specs.Words.{row_at}
use Rattle.nib_explain.proofs.words.row_at.Goals as goal

pub returns : goal.returns
unfolding row_at
returns c =
    rw (← c.lun_of-lun.ensures, ← c.block_of-block.ensures, ← c.page_of-page.ensures, ← c.lun_alone-more.ensures)
    (and_then c.say.ensures
    (and_then c.row_bytes.ensures
    (and_then c.with_number.ensures
    (and_then c.with_number_if.ensures
    c.with_number_if-2.ensures))))
