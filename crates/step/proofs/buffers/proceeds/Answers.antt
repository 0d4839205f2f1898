-- `step::buffers::proceeds` meets its contract.
use Rattle.step.specs.Step.{Reaches}
use Rattle.blocks.proofs.Places.{row_block}
use Rattle.step.proofs.buffers.proceeds.Goals as goal

pub block_bad-requires : goal.block_bad-requires
unfolding Reaches
block_bad-requires c =
    let there = rw c.in-Program.is at c.requires.reaches in
    (c.requires.g_value, row_block _ _ there)
