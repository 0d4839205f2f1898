-- `step::buffers::load` meets its contract.
use native.Mathlib.Omega.{arith}
use Rattle.blocks.proofs.Places.{register-end, page-bytes-end}
use Rattle.step.proofs.buffers.load.Goals as goal

pub overflow_mul-at : goal.overflow_mul-at
overflow_mul-at c =
    rw (c.lun_of.ensures, c.page_size-p.ensures) (omega (arith, register-end _ _ c.requires.g_value.1))

pub overflow_mul-from : goal.overflow_mul-from
overflow_mul-from c =
    rw (c.page_index.ensures, c.page_size-p.ensures) (omega (arith, page-bytes-end _ _ c.requires.g_value.1))

pub copy_part-requires : goal.copy_part-requires
copy_part-requires c =
    rw (c.page_index.ensures, c.lun_of.ensures, c.page_size-p.ensures)
    (omega (arith, register-end _ _ c.requires.g_value.1), omega (arith, page-bytes-end _ _ c.requires.g_value.1))
