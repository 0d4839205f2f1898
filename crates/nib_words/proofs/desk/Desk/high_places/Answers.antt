-- `nib_words::desk::Desk::high_places`: one after the other.
use Rattle.nib_words.proofs.Desks.{and_then}
use Rattle.nib_words.specs.Desk.{high_places}
use Rattle.nib_words.proofs.desk.Desk.high_places.Goals as goal

pub returns : goal.returns
unfolding high_places
returns c =
    and_then c.place.ensures
    (and_then c.place-2.ensures
    (and_then c.place-3.ensures
    (and_then c.place-4.ensures
    (and_then c.place-5.ensures
    (and_then c.place-6.ensures
    (and_then c.place-7.ensures
    (and_then c.place-8.ensures
    (and_then c.place-9.ensures
    c.place-10.ensures))))))))
