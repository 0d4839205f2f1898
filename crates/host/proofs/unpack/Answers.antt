-- `host::unpack` meets its contract.
use Rattle.std.proofs.Common.{rules}
use Rattle.host.specs.Image.{unpacked}
use Rattle.host.proofs.unpack.Goals as goal

pub returns : goal.returns
unfolding unpacked
returns c = search rules
