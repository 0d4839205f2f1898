-- `page::crc::crc_by` meets its contract.
use Rattle.std.proofs.Common.{◌≡◌, refl, ◌∙◌, List, ℕ, ◌+◌, ◌<◌, get_or, drop, length, arith}
use native.Mathlib.Numerals.{add-one}
use lib.ListN.{drop_of_length-le}
use lib.Seq.{drop-cons}
use Rattle.page.specs.Crc.{crc_byte, crc_from, crc_of}
use Rattle.page.proofs.crc.crc_by.Goals as goal

-- one byte done
byte-done : (s : List ℕ) (r i : ℕ) → i < length s → crc_from (crc_byte r (get_or s i 0)) (drop (i + 1) s) ≡ crc_from r (drop i s)
unfolding crc_from
byte-done s r i h = rw (add-one, drop-cons s i 0 h)

pub loop-byte-init : goal.loop-byte-init
unfolding crc_of
loop-byte-init c = refl

pub loop-byte-preserved : goal.loop-byte-preserved
loop-byte-preserved c = rw c.crc_byte-r.ensures (byte-done c.args.s.now c.loop-byte.r c.loop-byte.byte-index (omega arith) ∙ c.loop-byte.invariant)

pub returns : goal.returns
unfolding crc_from
returns c = rw (drop_of_length-le _ c.loop-byte-test.false) at c.loop-byte.invariant
