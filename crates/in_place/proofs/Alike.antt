-- A trace as bytes and the same events as a batch: for a trace of even length, which has no odd last byte, the batch of its events and the byte trace give the same answer, the same target, the same buffers and the same reply room, from any target, over any buffers and any room.
-- Assumes nothing.
use mathlib.Core.Path.{◌≡◌, refl}
use Prim.Native.Nat.{ℕ, ◌*◌, ◌%◌}
use native.Mathlib.Omega.{arith}
use mathlib.Core.List.{List, [], ◌∷◌}
use lib.ListN.{length}
use Rattle.target.specs.declared.Target.{Target}
use Rattle.step.specs.Step.{Buffers}
use Rattle.trace.specs.Run.{Running, events_of, needed, odd_answered, trace_of, batch_of}

-- two bytes an event
pub events-length : (records : List ℕ) → length records % 2 ≡ 0 → 2 * length (events_of records) ≡ length records
unfolding events_of
events-length [] even = refl
events-length (kind ∷ []) even = omega arith
events-length (kind ∷ value ∷ rest) even =
    let left : length rest % 2 ≡ 0 = omega arith in
    omega (arith, events-length rest left)

even-needed : (n : ℕ) → n % 2 ≡ 0 → needed n ≡ n
unfolding needed
even-needed n even = omega arith

not-odd : (params flags : List ℕ) (n : ℕ) (s : Running) → n % 2 ≡ 0 → odd_answered params flags n s ≡ s
unfolding odd_answered
not-odd params flags n s even = rw even

pub alike : (t : Target) (records room params : List ℕ) (b : Buffers) (flags : List ℕ) → length records % 2 ≡ 0
    → batch_of t (events_of records) room params b flags ≡ trace_of t records room params b flags
unfolding batch_of trace_of
alike t records room params b flags even =
    rw (events-length records even, even-needed (length records) even, not-odd)
