-- `nib_words::say::command`: one after the other.
use Rattle.nib_words.proofs.Desks.{and_then}
use Rattle.nib_words.specs.Say.{command_words}
use Rattle.nib_words.proofs.say.command.Goals as goal

pub returns : goal.returns
unfolding command_words
returns c =
    rw (← c.command_name.ensures)
    (and_then c.say.ensures
    (and_then c.byte.ensures
    c.say-2.ensures))
