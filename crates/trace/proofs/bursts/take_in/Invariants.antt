-- `trace::bursts::take_in`: the bytes and the replies of `j` data-in cycles are where they belong.
use mathlib.Core.Path.{◌≡◌}
use lib.ListN.{length}
use Rattle.trace.specs.Data.{Taking, taken_in}
use Rattle.trace.proofs.bursts.take_in.Given as goal

abbrev pub invariant-loop-j : goal.invariant-loop-j
invariant-loop-j l =
    (length l.registers ≡ length l.initial.registers) × (length l.room ≡ length l.initial.room)
    × (◌≡◌ {A = Taking} (record { registers = l.registers; room = l.room }) (taken_in l.page l.base l.records l.i l.at l.j (record { registers = l.initial.registers; room = l.initial.room })))
