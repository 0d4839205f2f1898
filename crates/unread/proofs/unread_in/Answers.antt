-- `unread::unread_in`: a register that is put out lies within the limits.
use native.Mathlib.Omega.{arith}
use Rattle.slices.proofs.Splice.{piece}
use Rattle.target.specs.Sizes.{page_size}
use Rattle.target.proofs.Limits.{limits, registers-all}
use Rattle.step.proofs.Sound.{register-place}
use Rattle.unread.proofs.unread_in.Goals as goal

pub overflow_mul-result : goal.overflow_mul-result
overflow_mul-result c =
    let m = limits _ c.requires.0 in
    let k = register-place c.args.g c.in-Register.lun c.in-Register.column (rw c.in-Register.is at c.requires.1) in
    rw c.page_size-p.ensures (omega (arith, piece (page_size c.args.g) k.0, registers-all m, m.page-max, k.1))

pub overflow_add-result : goal.overflow_add-result
overflow_add-result c =
    let m = limits _ c.requires.0 in
    let k = register-place c.args.g c.in-Register.lun c.in-Register.column (rw c.in-Register.is at c.requires.1) in
    rw c.page_size-p.ensures (omega (arith, piece (page_size c.args.g) k.0, registers-all m, m.page-max, k.1))
