-- `nib_told::words::page_words`: one after the other.
use Rattle.nib_words.proofs.Desks.{and_then}
use Rattle.nib_told.specs.Words.{page_words}
use Rattle.nib_told.proofs.words.page_words.Goals as goal

pub returns : goal.returns
unfolding page_words
returns c = and_then c.block_words.ensures c.with_number.ensures
