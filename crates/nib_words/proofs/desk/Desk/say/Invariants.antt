-- `nib_words::desk::Desk::say`: so many bytes have been put down.
use Rattle.std.proofs.Common.{take}
use Rattle.nib_words.specs.Desk.{Writes}
use Rattle.nib_words.proofs.desk.Desk.say.Given as goal

abbrev pub invariant-loop-b : goal.invariant-loop-b
invariant-loop-b l = Writes l.initial.self l.self (take l.b-index l.words)
