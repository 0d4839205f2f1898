-- `nib_places::power` meets its contract.
use Rattle.target.proofs.Widths.{one_shifted}
use Rattle.nib_places.proofs.power.Goals as goal

pub returns : goal.returns
returns c = one_shifted _ c.requires
