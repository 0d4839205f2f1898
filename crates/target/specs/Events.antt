-- Events as records (document 01, "Events and replies as records"): kind 0 command, 1 address, 2 data in, 3 data out,
-- 4 finish of LUN `value`, 5 protect line.
use Rattle.std.specs.Prelude.{ℕ, Bool, ◌&&◌, ◌||◌, not, eqb, ltb}
use Rattle.target.specs.declared.Event.{Event}
use Rattle.target.specs.declared.events.Kind.{Kind}
use Rattle.target.specs.declared.events.Kind.TheVariants.{Command, Address, DataIn, DataOut, Finish, Protect}

-- the number of each kind in a record
abbrev pub kind_number : Kind → ℕ
kind_number Command = 0
kind_number Address = 1
kind_number DataIn = 2
kind_number DataOut = 3
kind_number Finish = 4
kind_number Protect = 5

-- kinds 0 to 3 are bus cycles, 4 and 5 bench events
abbrev pub is_bus : Event → Bool
is_bus e = ltb e.kind 4

-- the command FFh
abbrev pub is_reset : Event → Bool
is_reset e = eqb e.kind 0 && eqb e.value 0xff

-- 12: unknown kind, kind 3 with value not 0, kind 5 above 1 (the odd byte is the trace's)
unfoldable pub bad_record : Event → Bool
bad_record e = ltb 5 e.kind || eqb e.kind 3 && not (eqb e.value 0) || eqb e.kind 5 && ltb 1 e.value
