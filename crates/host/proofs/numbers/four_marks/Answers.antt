-- `host::numbers::four_marks` meets its contract.
use mathlib.Core.Path.{refl}
use Rattle.host.specs.Numbers.{four_marks}
use Rattle.host.proofs.numbers.four_marks.Goals as goal

pub returns : goal.returns
unfolding four_marks
returns c = refl
