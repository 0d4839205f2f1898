-- `step::buffers::output_byte` meets its contract.
use Rattle.target.specs.Sizes.{page_size}
use native.Mathlib.Omega.{arith}
use Rattle.slices.proofs.Splice.{piece}
use Rattle.target.proofs.Limits.{limits, registers-all}
use Rattle.step.proofs.Sound.{register-place}
use Rattle.step.proofs.buffers.output_byte.Goals as goal

pub overflow_mul-lun : goal.overflow_mul-lun
overflow_mul-lun c =
    let m = limits _ c.requires.0 in
    let fine = rw c.in-Register.is at c.requires.1 in
    let k = register-place c.args.t.geometry c.in-Register.lun c.in-Register.column fine in
    rw c.page_size.ensures (omega (arith, piece (page_size c.args.t.geometry) k.0, registers-all m, m.page-max, k.1))

pub overflow_add-lun : goal.overflow_add-lun
overflow_add-lun c =
    let m = limits _ c.requires.0 in
    let fine = rw c.in-Register.is at c.requires.1 in
    let k = register-place c.args.t.geometry c.in-Register.lun c.in-Register.column fine in
    rw c.page_size.ensures (omega (arith, piece (page_size c.args.t.geometry) k.0, registers-all m, m.page-max, k.1))
