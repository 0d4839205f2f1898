-- The refusals that no event gets, each given when its rule says and at no other time: 20 to 25 of power-on, 16 of a
-- trace or a batch, and the odd last byte's 12 or 13.
use Rattle.std.specs.Prelude.{Ok, Err, ◌≡◌, Bool, true, false, List, [], ◌∷◌, ℕ, ◌+◌, ◌*◌, ◌%◌, length, eqb, ltb}
use Rattle.target.specs.Pick.{pick}
use Rattle.target.specs.Numbers.{number_of}
use Rattle.target.specs.declared.Event.{Event}
use Rattle.target.specs.declared.Target.{Target}
use Rattle.target.specs.declared.Refusal.{Refusal}
use Rattle.target.specs.declared.Reply.TheVariants as reply
use Rattle.power.specs.Power.{power_number, wrong_length, unsigned, crc_bad, field_bad, buffer_bad, content_bad, power_of}
use Rattle.step.specs.Step.{Buffers}
use Rattle.trace.specs.declared.RunRefusal.TheVariants as refused
use Rattle.trace.specs.Run.{run_number, Running, Traced, written, ran_all, events_of, start, traced, trace_of, batch_of}
use Rattle.thm_kept.specs.Kept.{lets_pass}

-- a rule, and document 01's number of its refusal
pub record Numbered : Type 0 where
  pub holds : Bool
  pub number : ℕ

abbrev pub numbered : ℕ → Bool → Numbered
numbered n b = record { holds = b; number = n }

-- the number of the first rule that holds; 0 where none does
abbrev pub first_number : List Numbered → ℕ
first_number [] = 0
first_number (r ∷ rs) = pick r.holds r.number (first_number rs)

-- power-on: length not 256; signature; CRC; a field outside its limits; a buffer length; a count or flag; lowest first
abbrev pub PowerExact : Type 0
PowerExact =
    (page : List ℕ) (device : ℕ) (array registers counts flags : List ℕ)
    → power_number (power_of page device array registers counts flags).answer
    ≡ first_number (
    numbered 20 (wrong_length page)
    ∷ numbered 21 (unsigned page)
    ∷ numbered 22 (crc_bad page)
    ∷ numbered 23 (field_bad page)
    ∷ numbered 24 (buffer_bad page (length array) (length registers) (length counts) (length flags))
    ∷ numbered 25 (content_bad page counts flags)
    ∷ [])

-- 16: "reply room of a trace or batch too short": two bytes a record, and two for an odd byte
abbrev pub TraceRoom : Type 0
TraceRoom =
    (t : Target) (records room params : List ℕ) (b : Buffers) (flags : List ℕ)
    → run_number (trace_of t records room params b flags).answer
    ≡ first_number (numbered 16 (ltb (length room) (length records + length records % 2)) ∷ [])

abbrev pub BatchRoom : Type 0
BatchRoom =
    (t : Target) (events : List Event) (room params : List ℕ) (b : Buffers) (flags : List ℕ)
    → run_number (batch_of t events room params b flags).answer ≡ first_number (numbered 16 (ltb (length room) (2 * length events)) ∷ [])

-- "looked at before any record, nothing changes"
abbrev pub unchanged : Target → Buffers → List ℕ → Traced
unchanged t b room = record { answer = Err refused.NoRoom; target = t; buffers = b; room = room }

abbrev pub TraceRefused : Type 0
TraceRefused =
    (t : Target) (records room params : List ℕ) (b : Buffers) (flags : List ℕ)
    → run_number (trace_of t records room params b flags).answer ≡ 16
    → trace_of t records room params b flags ≡ unchanged t b room

abbrev pub BatchRefused : Type 0
BatchRefused =
    (t : Target) (events : List Event) (room params : List ℕ) (b : Buffers) (flags : List ℕ)
    → run_number (batch_of t events room params b flags).answer ≡ 16
    → batch_of t events room params b flags ≡ unchanged t b room

-- where a trace's whole records leave it
abbrev pub ran : Target → List ℕ → List ℕ → List ℕ → Buffers → List ℕ → Running
ran t records room params b flags = ran_all params flags (events_of records) (start t b room)

-- "An odd last byte gets 02 0C, or 02 0D where 13 holds": one reply more, and nothing else
abbrev pub OddByte : Type 0
OddByte =
    (t : Target) (records room params : List ℕ) (b : Buffers) (flags : List ℕ) (s : Running)
    → s ≡ ran t records room params b flags
    → ltb (length room) (length records + length records % 2) ≡ false → eqb (length records % 2) 1 ≡ true
    → (q : Refusal) × ((number_of q ≡ pick (lets_pass s.target params s.buffers flags) 12 13)
    × (trace_of t records room params b flags
    ≡ record { answer = Ok tt; target = s.target; buffers = s.buffers; room = written s.room s.done (reply.Refused q) }))

-- and no trace without one gets it
abbrev pub NoOddByte : Type 0
NoOddByte =
    (t : Target) (records room params : List ℕ) (b : Buffers) (flags : List ℕ)
    → ltb (length room) (length records + length records % 2) ≡ false → eqb (length records % 2) 1 ≡ false
    → trace_of t records room params b flags ≡ traced (Ok tt) (ran t records room params b flags)
