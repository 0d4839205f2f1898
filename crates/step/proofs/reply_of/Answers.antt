-- `step::reply_of` meets its contract.
use Rattle.step.proofs.Sound.{sound, put-out-sound}
use Rattle.step.proofs.reply_of.Goals as goal

pub output_byte-requires : goal.output_byte-requires
output_byte-requires c =
    let ok = sound _ c.requires in
    (ok.limited, rw c.put_out.ensures (put-out-sound _ ok))
