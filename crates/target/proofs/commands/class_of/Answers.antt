-- `target::commands::class_of` meets its contract.
use Rattle.target.specs.declared.commands.Class.TheVariants as class
use Rattle.target.proofs.Classes.{class-told, unknown-told}
use Rattle.target.proofs.commands.class_of.Goals as goal

pub returns-in-1 : goal.returns-in-1
returns-in-1 c = class-told _ class.First c.ranges.v.fits c.in-1.is

pub returns-in-2 : goal.returns-in-2
returns-in-2 c = class-told _ class.Second c.ranges.v.fits c.in-2.is

pub returns-in-3 : goal.returns-in-3
returns-in-3 c = class-told _ class.Both c.ranges.v.fits c.in-3.is

pub returns-in-4 : goal.returns-in-4
returns-in-4 c = class-told _ class.Alone c.ranges.v.fits c.in-4.is

pub returns-in_default : goal.returns-in_default
returns-in_default c =
    let none = c.in_default.in_default-own.rest in
    unknown-told _ c.ranges.v.fits none.0.0.0.1 none.0.0.1 none.0.1 none.1
