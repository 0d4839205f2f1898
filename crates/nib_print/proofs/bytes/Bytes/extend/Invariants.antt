use Rattle.std.proofs.Common.{◌≡◌, ◌++◌, take}
use Rattle.nib_print.specs.Gathered.{gathered}
use Rattle.nib_print.proofs.bytes.Bytes.extend.Given as goal

abbrev pub invariant-loop-b : goal.invariant-loop-b
invariant-loop-b g l = gathered l.self ≡ take g.row.N (gathered l.initial.self ++ take l.b-index l.s)
