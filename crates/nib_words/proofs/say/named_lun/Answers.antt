-- `nib_words::say::named_lun`: one after the other.
use Rattle.nib_words.proofs.Desks.{and_then}
use Rattle.nib_words.proofs.say.named_lun.Goals as goal

pub returns : goal.returns
returns c = and_then c.with_number.ensures c.put.ensures
