use Rattle.std.proofs.Common.{◌≤◌, length}
use Rattle.nib_files.proofs.files.read_full.Given as goal

abbrev pub invariant-loop : goal.invariant-loop
invariant-loop g l = l.at ≤ length l.buf
