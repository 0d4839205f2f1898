-- `nib_words::say::listed`: one byte more.
use Rattle.std.proofs.Common.{[]}
use Rattle.std.proofs.lemmas.List.{take_more, flat_map_more}
use Rattle.nib_words.specs.Desk.{listed, spaced}
use Rattle.nib_words.proofs.Desks.{none, and_then}
use Rattle.nib_words.proofs.say.listed.Goals as goal

pub loop-b-init : goal.loop-b-init
unfolding listed
loop-b-init c = none

pub loop-b-preserved : goal.loop-b-preserved
unfolding listed
loop-b-preserved c =
    rw (take_more c.args.bytes.now c.loop-b.b-index 0 c.loop-b-test.true, ← flat_map_more spaced [])
    (and_then c.loop-b.invariant c.spaced.ensures)
