-- What `explain` holds back, as one number: 0 is nothing. From the lowest bit on: 2 bits the run, 8 the first byte, the rest how many.
use Rattle.std.specs.Prelude.{ℕ, ◌+◌, ◌*◌, ◌/◌, ◌%◌, not, List, eqb, if◌then◌else◌, Option, Some, None}
use Rattle.nib_explain.specs.Fold.{run_number, run_of, carried, held_next, goes_out}
use Rattle.nib_explain.specs.Words.{run_words, run_reply}
use Rattle.nib_explain.specs.declared.fold.Run.{Run}
use Rattle.nib_explain.specs.declared.fold.Run.TheVariants as run
use Rattle.nib_explain.specs.declared.fold.Held.{Held}
use Rattle.nib_speech.specs.Speech.{bit}

abbrev pub run_at : ℕ → Option Run
run_at n = if eqb n 1 then Some run.In else (if eqb n 2 then Some run.Out else (if eqb n 3 then Some run.Status else None))

abbrev pub held_of : ℕ → Held
held_of n = record { run = run_at (n % 4); byte = n / 4 % 256; count = n / 1024 }

abbrev pub held_number : Held → ℕ
held_number h = run_number h.run + h.byte * 4 + h.count % 1099511627776 * 1024

-- an event by its kind, value, reply and whether the output is a status when it comes
abbrev pub fold_next : ℕ → ℕ → ℕ → ℕ → ℕ → ℕ → ℕ
fold_next state kind value first second status =
    held_number (held_next (held_of state) (run_of kind first (not (eqb status 0))) (carried kind value second))

abbrev pub fold_goes : ℕ → ℕ → ℕ → ℕ → ℕ → ℕ → ℕ
fold_goes state kind value first second status =
    bit (goes_out (held_of state) (run_of kind first (not (eqb status 0))) (carried kind value second))

-- what is held back, and its replies; bytes are the first of its bytes
abbrev pub run_said : ℕ → List ℕ → List ℕ
run_said state bytes = run_words (held_of state).run (held_of state).byte (held_of state).count bytes

abbrev pub reply_said : ℕ → List ℕ → List ℕ
reply_said state bytes = run_reply (held_of state).run (held_of state).byte (held_of state).count bytes
