-- `nib_words::desk::Desk::put`: by whether there is room.
use Rattle.std.proofs.Common.{refl}
use Rattle.nib_words.proofs.Desks.{down-there, down-full}
use Rattle.nib_words.proofs.desk.Desk.put.Goals as goal

pub returns-then-self : goal.returns-then-self
returns-then-self c = record { same_room = refl; lies = down-there _ _ _ c.if-self.true }

pub returns-else-self : goal.returns-else-self
returns-else-self c = record { same_room = refl; lies = down-full _ _ _ c.if-self.false }
