-- `nib_told::lines::in_program`: no command stands from `i` on.
use Rattle.std.proofs.Common.{◌≡◌}
use Rattle.nib_told.specs.Lines.{in_program}
use Rattle.nib_told.proofs.lines.in_program.Given as goal

abbrev pub invariant-loop-i : goal.invariant-loop-i
invariant-loop-i l = in_program l.trace l.at ≡ in_program l.trace l.i
