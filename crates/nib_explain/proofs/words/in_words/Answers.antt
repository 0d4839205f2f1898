-- `nib_explain::words::in_words`: one after the other.
use Rattle.nib_words.proofs.Desks.{and_then}
use Rattle.nib_explain.specs.Words.{in_words}
use Rattle.nib_explain.proofs.words.in_words.Goals as goal

pub returns : goal.returns
unfolding in_words
returns c = and_then c.times_words.ensures c.data_list_if.ensures
