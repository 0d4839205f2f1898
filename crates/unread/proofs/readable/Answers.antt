-- `unread::readable`: within the limits the registers' length fits.
use mathlib.Core.Path.{sym, ◌∙◌}
use native.Mathlib.Omega.{arith}
use Rattle.target.proofs.Limits.{limits, registers-all}
use Rattle.step.proofs.Sound.{sound}
use Rattle.unread.proofs.readable.Goals as goal

pub overflow_mul-result : goal.overflow_mul-result
overflow_mul-result c =
    let ok = sound _ (sym c.record_sound.ensures ∙ c.if-not-record_sound.false) in
    rw c.page_size.ensures (omega (arith, registers-all (limits _ ok.limited)))
