-- `host::good` meets its contract.
use Rattle.host.specs.Image.{good}
use Rattle.host.proofs.good.Goals as goal

pub returns : goal.returns
unfolding good
returns c =
    rw (
      c.marks_good.ensures,
      c.same_cycles.ensures,
      c.same_place.ensures,
      c.same_place-2.ensures,
      c.from.ensures,
      c.from-2.ensures,
      c.from-3.ensures,
      c.to_sequence.ensures,
      c.to_output.ensures,
      c.to_output-2.ensures,
      c.cycles_in-c.ensures,
      c.place_in-p.ensures,
      c.kept_in-k.ensures,
    )
