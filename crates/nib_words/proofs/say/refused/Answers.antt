-- `nib_words::say::refused`: one after the other.
use Rattle.nib_words.proofs.Desks.{and_then}
use Rattle.nib_words.specs.Say.{refused_words}
use Rattle.nib_words.proofs.say.refused.Goals as goal

pub returns : goal.returns
unfolding refused_words
returns c =
    and_then c.say.ensures
    (and_then c.number.ensures
    (and_then c.say-2.ensures
    c.rule.ensures))
