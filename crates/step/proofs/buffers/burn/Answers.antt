-- `step::buffers::burn` meets its contract.
use native.Mathlib.Omega.{arith}
use Rattle.blocks.proofs.Places.{register-end, page-bytes-end, page-below}
use Rattle.step.proofs.buffers.burn.Goals as goal

pub overflow_mul-lun_of : goal.overflow_mul-lun_of
overflow_mul-lun_of c =
    rw (c.lun_of.ensures, c.page_size-p.ensures) (omega (arith, register-end _ _ c.requires.g_value.1, c.requires.sizes.registers-size))

pub overflow_mul-i : goal.overflow_mul-i
overflow_mul-i c =
    rw (c.page_index-i.ensures, c.page_size-p.ensures) (omega (arith, page-bytes-end _ _ c.requires.g_value.1, c.requires.sizes.array_size))

pub and_part-requires : goal.and_part-requires
and_part-requires c =
    rw (c.lun_of.ensures, c.page_index-i.ensures, c.page_size-p.ensures)
    (omega (arith, page-bytes-end _ _ c.requires.g_value.1, c.requires.sizes.array_size), omega (arith, register-end _ _ c.requires.g_value.1, c.requires.sizes.registers-size))

pub put-requires : goal.put-requires
put-requires c =
    rw c.page_index-i.ensures (omega (arith, page-below _ _ c.requires.g_value.1, c.requires.sizes.counts-size))
