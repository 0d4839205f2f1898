-- `trace::bursts::give_out`: the replies of `j` data-out cycles stand in the room.
use mathlib.Core.Path.{◌≡◌}
use lib.ListN.{length}
use Rattle.trace.specs.Data.{given_out}
use Rattle.trace.proofs.bursts.give_out.Given as goal

abbrev pub invariant-loop-j : goal.invariant-loop-j
invariant-loop-j l = (length l.room ≡ length l.initial.room) × (l.room ≡ given_out l.registers l.i l.from l.j l.initial.room)
