-- `blocks::blank_blocks` meets its contract.
use Rattle.blocks.proofs.Walk.{Walked}
use Rattle.blocks.proofs.blank_blocks.Given as goal

abbrev pub invariant-loop-i : goal.invariant-loop-i
invariant-loop-i l = Walked l.g l.l l.counts l.flags l.first l.n l.i
