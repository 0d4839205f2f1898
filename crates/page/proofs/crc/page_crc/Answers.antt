-- `page::crc::page_crc` meets its contract.
use Rattle.std.proofs.Math.Nat.{min_comm}
use Rattle.std.proofs.lemmas.List.{take_min}
use Rattle.page.proofs.crc.page_crc.Goals as goal

pub returns : goal.returns
returns c = rw (c.crc_of.ensures, c.min.ensures, min_comm, take_min)
