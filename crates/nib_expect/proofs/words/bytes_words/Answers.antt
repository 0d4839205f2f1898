-- `nib_expect::words::bytes_words`: by whether the list is long.
use borrow.Author.Tests.{lt-ltb, le-ltb}
use Rattle.nib_words.proofs.Desks.{and_then}
use Rattle.nib_expect.specs.Words.{bytes_words}
use Rattle.nib_expect.proofs.words.bytes_words.Goals as goal

pub returns-then-list-gt16 : goal.returns-then-list-gt16
unfolding bytes_words
returns-then-list-gt16 c = rw (lt-ltb _ _ c.if-list-gt16.true) (and_then c.listed.ensures c.say.ensures)

pub returns-else-list-gt16 : goal.returns-else-list-gt16
unfolding bytes_words
returns-else-list-gt16 c = rw (le-ltb _ _ c.if-list-gt16.false) c.listed-else-list-gt16.ensures
