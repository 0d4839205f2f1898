-- `target::commands::listed` meets its contract.
use Rattle.target.specs.Commands.{row_of}
use native.Mathlib.Omega.{arith}
use Rattle.target.proofs.Firsts.{listed as in_list}
use Rattle.target.proofs.commands.listed.Goals as goal

pub offset_bounds-place_of : goal.offset_bounds-place_of
offset_bounds-place_of c = rw c.place_of.ensures (omega (arith, in_list c.args.f))

pub bounds-place_of-place_of : goal.bounds-place_of-place_of
bounds-place_of-place_of c = rw c.place_of.ensures (in_list c.args.f)

pub returns : goal.returns
unfolding row_of
returns c =
    rw c.place_of.ensures
