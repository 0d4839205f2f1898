-- `step::buffers::was_blank` meets its contract.
use Rattle.step.specs.Step.{Reaches}
use Rattle.blocks.proofs.Places.{row_block, block-below}
use Rattle.step.proofs.buffers.was_blank.Goals as goal

pub block_index-requires : goal.block_index-requires
unfolding Reaches
block_index-requires c =
    let there = rw c.in-Program.is at c.requires.reaches in
    (c.requires.g_value, row_block _ _ there)

pub blank_block-requires : goal.blank_block-requires
unfolding Reaches
blank_block-requires c =
    let there = rw c.in-Program.is at c.requires.reaches in
    (c.requires.g_value, rw c.block_index.ensures (block-below _ _ (row_block _ _ there)))

pub block_index-requires-in-Erase : goal.block_index-requires-in-Erase
unfolding Reaches
block_index-requires-in-Erase c =
    let there = rw c.in-Erase.is at c.requires.reaches in
    (c.requires.g_value, there)

pub blank_block-requires-in-Erase : goal.blank_block-requires-in-Erase
unfolding Reaches
blank_block-requires-in-Erase c =
    let there = rw c.in-Erase.is at c.requires.reaches in
    (c.requires.g_value, rw c.block_index-in-Erase.ensures (block-below _ _ there))
