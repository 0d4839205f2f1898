-- Runs of events (document 01, "Events and replies as records"): one event after the other, each with its two-byte reply.
use Rattle.std.specs.Prelude.{Result, Ok, Err, Bool, List, [], ◌∷◌, ℕ, ◌+◌, ◌*◌, ◌%◌, length, set, eqb, ltb}
use Rattle.target.specs.Pick.{pick}
use Rattle.target.specs.Numbers.{reply_first, reply_second}
use Rattle.target.specs.declared.Event.{Event}
use Rattle.target.specs.declared.Target.{Target}
use Rattle.target.specs.declared.Reply.{Reply}
use Rattle.target.specs.declared.Reply.TheVariants.{Refused}
use Rattle.target.specs.declared.Refusal.TheVariants.{BadRecord, NotUsable}
use Rattle.step.specs.Usable.{usable}
use Rattle.step.specs.Step.{Buffers, Outcome, step_of}
use Rattle.trace.specs.declared.RunRefusal.{RunRefusal}
use Rattle.trace.specs.declared.RunRefusal.TheVariants.{NoRoom}

-- document 01's number of a run's answer: 0 where it was run, 16 where the reply room is too short
abbrev pub run_number : {A : Type 0} → Result A RunRefusal → ℕ
run_number (Ok _) = 0
run_number (Err NoRoom) = 16

-- where a run stands: the record, how many records have their reply, what the lent buffers hold, and the reply room
pub record Running : Type 0 where
  pub target : Target
  pub done : ℕ
  pub buffers : Buffers
  pub room : List ℕ

-- reply number i goes to the room's places 2i and 2i + 1
unfoldable pub written : List ℕ → ℕ → Reply → List ℕ
written room i r = set (set room (2 * i) (reply_first r)) (2 * i + 1) (reply_second r)

-- one event more
abbrev pub next_of : Outcome → ℕ → List ℕ → Running
next_of o i room = record { target = o.target; done = i + 1; buffers = o.buffers; room = written room i o.reply }

unfoldable pub one_more : List ℕ → List ℕ → Running → Event → Running
one_more params flags s e = next_of (step_of s.target e params s.buffers flags) s.done s.room

-- all of a list of events, one after the other; refusals don't stop it
unfoldable pub ran_all : List ℕ → List ℕ → List Event → Running → Running
ran_all params flags [] s = s
ran_all params flags (e ∷ es) s = ran_all params flags es (one_more params flags s e)

-- a trace is two-byte records, no header: kind, value
unfoldable pub events_of : List ℕ → List Event
events_of [] = []
events_of (kind ∷ []) = []
events_of (kind ∷ value ∷ rest) = record { kind = kind; value = value } ∷ events_of rest

-- rule 13 does not hold where a run stands
unfoldable pub stands_usable : List ℕ → List ℕ → Running → Bool
stands_usable params flags s =
    usable s.target (length params) (length s.buffers.array) (length s.buffers.registers) (length s.buffers.counts) (length flags)

-- an odd last byte gets 12, or 13 where 13 holds then
unfoldable pub odd_answered : List ℕ → List ℕ → ℕ → Running → Running
odd_answered params flags n s =
    pick (eqb (n % 2) 1)
    (record {
      target = s.target;
      done = s.done + 1;
      buffers = s.buffers;
      room = written s.room s.done (Refused (pick (stands_usable params flags s) BadRecord NotUsable));
    })
    s

-- the reply bytes of a trace of n bytes, two for each record and two for an odd byte
unfoldable pub needed : ℕ → ℕ
needed n = n + n % 2

pub record Traced : Type 0 where
  pub answer : Result Unit RunRefusal
  pub target : Target
  pub buffers : Buffers
  pub room : List ℕ

abbrev pub traced : Result Unit RunRefusal → Running → Traced
traced a s = record { answer = a; target = s.target; buffers = s.buffers; room = s.room }

abbrev pub start : Target → Buffers → List ℕ → Running
start t b room = record { target = t; done = 0; buffers = b; room = room }

-- what a caller holds after a run: the target that it gave, and where it was refused the one that was there before
abbrev pub came_to : Target → Result Target RunRefusal → Buffers → List ℕ → Traced
came_to t (Ok next) b room = record { answer = Ok tt; target = next; buffers = b; room = room }
came_to t (Err why) b room = record { answer = Err why; target = t; buffers = b; room = room }

-- a byte trace: 16 is looked at before any record and changes nothing; room past the replies stays as it is
unfoldable pub trace_of : Target → List ℕ → List ℕ → List ℕ → Buffers → List ℕ → Traced
trace_of t records room params b flags =
    pick (ltb (length room) (needed (length records))) (traced (Err NoRoom) (start t b room))
    (traced (Ok tt) (odd_answered params flags (length records) (ran_all params flags (events_of records) (start t b room))))

-- a batch of events held as records in memory
unfoldable pub batch_of : Target → List Event → List ℕ → List ℕ → Buffers → List ℕ → Traced
batch_of t events room params b flags =
    pick (ltb (length room) (2 * length events)) (traced (Err NoRoom) (start t b room))
    (traced (Ok tt) (ran_all params flags events (start t b room)))
