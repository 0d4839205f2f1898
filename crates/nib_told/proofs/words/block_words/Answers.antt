-- `nib_told::words::block_words`: one after the other.
use Rattle.nib_words.proofs.Desks.{and_then}
use Rattle.nib_told.specs.Words.{block_words}
use Rattle.nib_told.proofs.words.block_words.Goals as goal

pub returns : goal.returns
unfolding block_words
returns c = and_then c.with_number.ensures c.with_number-2.ensures
