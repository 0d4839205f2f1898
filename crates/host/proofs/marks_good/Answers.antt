-- `host::marks_good` meets its contract.
use Rattle.host.specs.Image.{marks_good}
use Rattle.host.proofs.marks_good.Goals as goal

pub returns : goal.returns
unfolding marks_good
returns c =
    rw (
      c.four_marks-3.ensures,
      c.four_marks-2.ensures,
      c.four_marks.ensures,
    )
