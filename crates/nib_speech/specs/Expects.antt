-- What the events since the last expectation were answered, as one number; 0 where none has come.
use Rattle.std.specs.Prelude.{ℕ, ◌+◌, ◌*◌, ◌/◌, ◌%◌, List, eqb}
use Rattle.nib_expect.specs.Expect.{ok_holds, refusal_holds, bytes_hold, after}
use Rattle.nib_expect.specs.declared.Since.{Since}
use Rattle.nib_speech.specs.Speech.{bit}

-- from the lowest bit on: an event has come, one before the last was refused, 8 bits each the last reply's two bytes, 8 the first
-- refusal, 37 its event's number
abbrev pub since_of : ℕ → Since
since_of n = record {
  any = eqb (n % 2) 1;
  spoiled = eqb (n / 2 % 2) 1;
  first = n / 4 % 256;
  second = n / 1024 % 256;
  event = n / 67108864;
  refusal = n / 262144 % 256;
}

abbrev pub since_number : Since → ℕ
since_number s =
    bit s.any + bit s.spoiled * 2 + s.first * 4 + s.second * 1024 + s.refusal * 262144
    + s.event % 137438953472 * 67108864

abbrev pub expect_next : ℕ → ℕ → ℕ → ℕ → ℕ
expect_next state number first second = since_number (after (since_of state) number first second)

abbrev pub expect_ok : ℕ → ℕ
expect_ok state = bit (ok_holds (since_of state))

abbrev pub expect_refusal : ℕ → ℕ → ℕ
expect_refusal state refusal = bit (refusal_holds (since_of state) refusal)

abbrev pub expect_bytes : ℕ → List ℕ → List ℕ → ℕ
expect_bytes state given wanted = bit (bytes_hold (since_of state) given wanted)
