-- `nib_words::desk::Desk::say`: one byte more.
use Rattle.std.proofs.lemmas.List.{take_more}
use Rattle.nib_words.proofs.Desks.{none, and_then}
use Rattle.nib_words.proofs.desk.Desk.say.Goals as goal

pub loop-b-init : goal.loop-b-init
loop-b-init c = none

pub loop-b-preserved : goal.loop-b-preserved
loop-b-preserved c =
    rw (take_more c.args.words.now c.loop-b.b-index 0 c.loop-b-test.true) (and_then c.loop-b.invariant c.put.ensures)
