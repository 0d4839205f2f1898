-- `nib_explain::words::data_list`: one after the other.
use Rattle.nib_words.proofs.Desks.{and_then}
use Rattle.nib_explain.specs.Words.{data_list}
use Rattle.nib_explain.proofs.words.data_list.Goals as goal

pub returns : goal.returns
unfolding data_list
returns c =
    and_then c.say.ensures
    (and_then c.listed.ensures
    c.say_if.ensures)
