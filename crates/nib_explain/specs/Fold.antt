-- Data cycles in a row are told in one line.
use Rattle.std.specs.Prelude.{ℕ, Bool, ◌&&◌, ◌||◌, not, eqb, ltb, if◌then◌else◌, Option, Some, None, is_some}
use Rattle.nib_text.specs.Reading.{up}
use Rattle.nib_explain.specs.declared.fold.Run.{Run}
use Rattle.nib_explain.specs.declared.fold.Run.TheVariants as run
use Rattle.nib_explain.specs.declared.fold.Held.{Held}

abbrev pub run_number : Option Run → ℕ
run_number None = 0
run_number (Some run.In) = 1
run_number (Some run.Out) = 2
run_number (Some run.Status) = 3

-- data in that is accepted; data out that gives a byte, of a status or of something else; every other event is told by itself, and so
-- is every refused one
abbrev pub run_of : ℕ → ℕ → Bool → Option Run
run_of kind first status =
    if eqb kind 2 && eqb first 0 then Some run.In
    else (if (eqb kind 3 && eqb first 1) && status then Some run.Status
    else (if (eqb kind 3 && eqb first 1) && not status then Some run.Out
    else None))

-- the byte of a data cycle: in is the event's value, out the second byte of the reply
abbrev pub carried : ℕ → ℕ → ℕ → ℕ
carried kind value second = if eqb kind 2 then value else second

-- a cycle goes on with what is held back: it is of the same run, and a status byte is the same byte
abbrev pub joins : Held → Option Run → ℕ → Bool
joins h r byte = ltb 0 (run_number r) && eqb (run_number r) (run_number h.run) && (not (eqb (run_number r) 3) || eqb h.byte byte)

-- what is held back after a cycle: one more, or what the cycle begins; nothing after an event that is told by itself
abbrev pub held_next : Held → Option Run → ℕ → Held
held_next h r byte =
    if joins h r byte then record { run = h.run; byte = h.byte; count = up h.count }
    else (if is_some r then record { run = r; byte = byte; count = 1 }
    else record { run = None; byte = 0; count = 0 })

-- what is held back goes out before the cycle is told
abbrev pub goes_out : Held → Option Run → ℕ → Bool
goes_out h r byte = ltb 0 h.count && not (joins h r byte)
