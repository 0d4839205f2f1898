-- `page::crc::crc_of` meets its contract. The one computed test over the whole table is `crc_by-requires`: with the definitions
-- opened, antt works out the 256 entries and compares them with the code's.
use mathlib.Core.Path.{refl}
use Rattle.page.specs.Crc.{crc_bit, crc_bits, crc_byte, steps}
use Rattle.page.proofs.crc.crc_of.Goals as goal

pub crc_by-requires : goal.crc_by-requires
unfolding steps crc_byte crc_bits crc_bit
crc_by-requires c = refl
