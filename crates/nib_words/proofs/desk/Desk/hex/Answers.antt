-- `nib_words::desk::Desk::hex`: one after the other.
use Rattle.nib_words.proofs.Desks.{and_then}
use Rattle.nib_words.specs.Desk.{hexed}
use Rattle.nib_words.proofs.desk.Desk.hex.Goals as goal

pub returns : goal.returns
unfolding hexed
returns c = rw (← c.glyph.ensures, ← c.glyph-2.ensures) (and_then c.put.ensures c.put-2.ensures)
