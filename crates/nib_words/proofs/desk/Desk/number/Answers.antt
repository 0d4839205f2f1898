-- `nib_words::desk::Desk::number`: one after the other.
use Rattle.nib_words.proofs.Desks.{and_then}
use Rattle.nib_words.specs.Desk.{decimal}
use Rattle.nib_words.proofs.desk.Desk.number.Goals as goal

pub returns : goal.returns
unfolding decimal
returns c =
    and_then c.high_places.ensures
    (and_then c.place.ensures
    (and_then c.place-2.ensures
    (and_then c.place-3.ensures
    (and_then c.place-4.ensures
    (and_then c.place-5.ensures
    (and_then c.place-6.ensures
    (and_then c.place-7.ensures
    (and_then c.place-8.ensures
    (and_then c.place-9.ensures
    c.put.ensures)))))))))
