-- What a batch does, by the number of its events and the bytes of its reply room.
-- What a batch gives is `batch_of` of the crate `trace`.
use Rattle.std.specs.Prelude.{Result, Ok, Err, ℕ, ◌*◌, ltb}
use Rattle.target.specs.Pick.{pick}
use Rattle.trace.specs.declared.RunRefusal.{RunRefusal}
use Rattle.trace.specs.declared.RunRefusal.TheVariants.{NoRoom}

-- all events; or none, and 16, where the room is shorter than two bytes an event
abbrev pub plan_of : ℕ → ℕ → Result ℕ RunRefusal
plan_of events room = pick (ltb room (2 * events)) (Err NoRoom) (Ok events)
