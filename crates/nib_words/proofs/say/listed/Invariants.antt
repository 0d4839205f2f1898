-- `nib_words::say::listed`: so many bytes have been put down.
use Rattle.std.proofs.Common.{take}
use Rattle.nib_words.specs.Desk.{Writes, listed}
use Rattle.nib_words.proofs.say.listed.Given as goal

abbrev pub invariant-loop-b : goal.invariant-loop-b
invariant-loop-b l = Writes l.initial.desk l.desk (listed (take l.b-index l.bytes))
