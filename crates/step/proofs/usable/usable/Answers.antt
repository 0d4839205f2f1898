-- `step::usable::usable` meets its contract.
use mathlib.Core.Path.{◌≡◌}
use mathlib.Core.Bool.{true}
use Rattle.std.proofs.lemmas.Grind.{common_steps}
use native.Mathlib.Omega.{arith}
use Rattle.step.proofs.Sound.{sound}
use Rattle.step.specs.Usable.{record_sound}
use Rattle.step.proofs.usable.usable.Goals as goal

pub sized-requires : goal.sized-requires
sized-requires c =
    let whole : record_sound c.args.t ≡ true = grind (arith, common_steps) in
    (sound _ whole).limited
