-- `nib_words::desk::Desk::byte`: one after the other.
use Rattle.nib_words.proofs.Desks.{and_then}
use Rattle.nib_words.specs.Desk.{byte_words}
use Rattle.nib_words.proofs.desk.Desk.byte.Goals as goal

pub returns : goal.returns
unfolding byte_words
returns c = and_then c.hex.ensures c.put.ensures
