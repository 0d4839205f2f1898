-- `page::crc::crc_by` meets its contract. The invariant: the CRC from r over the bytes left is the CRC of all.
use Rattle.std.proofs.Common.{◌≡◌, drop}
use Rattle.page.specs.Crc.{crc_from, crc_of}
use Rattle.page.proofs.crc.crc_by.Given as goal

abbrev pub invariant-loop-byte : goal.invariant-loop-byte
invariant-loop-byte l = crc_from l.r (drop l.byte-index l.s) ≡ crc_of l.s
