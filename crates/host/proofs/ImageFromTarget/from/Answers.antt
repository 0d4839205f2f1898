-- `Image::from` meets its contract.
use mathlib.Core.Path.{◌≡◌, refl}
use mathlib.Core.Bool.{Bool, true, false}
use mir.Val.{bool_byte}
use Rattle.host.specs.Numbers.{mark_byte}
use Rattle.host.specs.Image.{packed}
use Rattle.host.proofs.ImageFromTarget.from.Goals as goal

marked : (b : Bool) → bool_byte b ≡ mark_byte b
marked true = refl
marked false = refl

pub returns : goal.returns
unfolding packed
returns c = rw (marked, c.from-c.ensures, c.from-p.ensures, c.from-k.ensures)
